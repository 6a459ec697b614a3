-- What a leg counts, step by step.
use Rattle.std.proofs.Common.{◌≡◌, ℕ, Bool, true, false, Option, Some, None, List, Result, Ok, Err, refl, ap, sym, ◌∙◌, subst}
use Rattle.std.specs.Prelude.{if◌then◌else◌}
use Rattle.wire_spec.specs.declared.faults.TextFault.{TextFault}
use Rattle.wire_spec.specs.Packets.{Packet}
use Rattle.wire_spec.specs.Text.{text_within}
use Rattle.link_io.specs.declared.ends.Came.{Came}
use Rattle.link_io.specs.declared.ends.Came.TheVariants as came
use Rattle.link_io.specs.declared.ends.LinkTake.{LinkTake}
use Rattle.link_io.specs.Taking.{came_of}
use Rattle.live_spec.specs.Told.{Hearing, Told, is_sender, takes_over}
use Rattle.view_spec.specs.declared.tallies.Tally.{Tally}
use Rattle.live_spec.specs.Tally.{tally_came, tally_packet, with_foreign, with_refused, with_sender, with_text}
use Rattle.live_leg.specs.declared.senders.Senders.{Senders}
use Rattle.live_leg.specs.declared.senders.DatagramSender.{DatagramSender}
use Rattle.live_leg.specs.declared.senders.DatagramSender.TheVariants.{Foreign, Sender}
use Rattle.live_leg.specs.declared.tallies.LegTally.{LegTally}
use Rattle.live_leg.specs.Senders.{Meets, over_from, sent_of}
use Rattle.live_leg.specs.Tallies.{CountsTaken, CountsWith, IsTally, counts_sent}

-- a datagram counts as that which it was sent as
sent_as : (h : Hearing) (d : Told) (t : ℕ) (r : Result Packet TextFault) (y : Tally) → counts_sent (sent_of h d t r) y ≡ tally_packet h d t r y
sent_as h d t (Err fault) y = refl
sent_as h d t (Ok p) y = go (is_sender d.sender p.ssrc) (takes_over h d t p.ssrc)
  where
    over : (o : Option ℕ) → counts_sent (over_from o) y ≡ with_sender y
    over None = refl
    over (Some s) = refl

    go : (a b : Bool) → counts_sent (if a then Sender else (if b then over_from d.sender else Foreign)) y ≡ (if a then with_text y else (if b then with_sender y else with_foreign y))
    go true b = refl
    go false true = over d.sender
    go false false = refl

pub counts_datagram : (before after : Senders) (old new : LegTally) (taken : LinkTake) (octets : List ℕ) (sent : DatagramSender) → taken.came ≡ came.Datagram → Meets before after taken.at octets sent
    → CountsWith (counts_sent sent) old new → CountsTaken before old new taken octets
counts_datagram before after old new taken octets sent is meets counts h d k =
    let r = text_within h.most octets None h.payload_types in
    subst (λ (c : Came). CountsWith (tally_came h d taken.at (came_of c octets)) old new) (sym is)
    (λ y now. subst (λ (z : Tally). IsTally new z) (ap (λ (x : DatagramSender). counts_sent x y) (meets h d k).sent_is ∙ sent_as h d taken.at r y) (counts y now))

pub counts_large : (senders : Senders) (old new : LegTally) (taken : LinkTake) (octets : List ℕ) → taken.came ≡ came.Large → CountsWith with_refused old new → CountsTaken senders old new taken octets
counts_large senders old new taken octets is counts h d k = subst (λ (c : Came). CountsWith (tally_came h d taken.at (came_of c octets)) old new) (sym is) counts

pub counts_quiet : (senders : Senders) (tally : LegTally) (taken : LinkTake) (octets : List ℕ) → taken.came ≡ came.Quiet → CountsTaken senders tally tally taken octets
counts_quiet senders tally taken octets is h d k = subst (λ (c : Came). CountsWith (tally_came h d taken.at (came_of c octets)) tally tally) (sym is) (λ y now. now)

pub counts_closed : (senders : Senders) (tally : LegTally) (taken : LinkTake) (octets : List ℕ) → taken.came ≡ came.Closed → CountsTaken senders tally tally taken octets
counts_closed senders tally taken octets is h d k = subst (λ (c : Came). CountsWith (tally_came h d taken.at (came_of c octets)) tally tally) (sym is) (λ y now. now)

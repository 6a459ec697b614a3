-- What a leg over a link counts, as it is kept.
use Rattle.std.specs.Prelude.{◌≡◌, ℕ, List}
use Rattle.link_io.specs.declared.ends.LinkTake.{LinkTake}
use Rattle.link_io.specs.Taking.{came_of}
use Rattle.live_spec.specs.Told.{Hearing, Told}
use Rattle.view_spec.specs.declared.tallies.Tally.{Tally}
use Rattle.live_spec.specs.Tally.{as_kept, tally_came, with_foreign, with_refused, with_sender, with_text}
use Rattle.live_leg.specs.declared.senders.Senders.{Senders}
use Rattle.live_leg.specs.declared.senders.DatagramSender.{DatagramSender}
use Rattle.live_leg.specs.declared.senders.DatagramSender.TheVariants.{Refused, Foreign, Sender, First, Other}
use Rattle.live_leg.specs.declared.tallies.LegTally.{LegTally}
use Rattle.live_leg.specs.Senders.{Knows}

-- These counts are kept of a leg of which that is counted.
pub record IsTally (kept : LegTally) (y : Tally) : Type 0 where
  pub came : kept.came ≡ as_kept y.came
  pub text : kept.text ≡ as_kept y.text
  pub refused : kept.refused ≡ as_kept y.refused
  pub foreign : kept.foreign ≡ as_kept y.foreign
  pub senders : kept.senders ≡ as_kept y.senders

-- whatever was counted before, this is counted then
abbrev pub CountsWith : (Tally → Tally) → LegTally → LegTally → Type 0
CountsWith step old new = (y : Tally) → IsTally old y → IsTally new (step y)

-- what a datagram counts as that was sent so
abbrev pub counts_sent : DatagramSender → Tally → Tally
counts_sent Refused y = with_refused y
counts_sent Foreign y = with_foreign y
counts_sent Sender y = with_text y
counts_sent First y = with_sender y
counts_sent Other y = with_sender y

-- what a take counts as of a leg that is heard so, and of which that was told before
abbrev pub CountsTaken : Senders → LegTally → LegTally → LinkTake → List ℕ → Type 0
CountsTaken senders old new taken octets = (h : Hearing) (d : Told) → Knows senders h d
    → CountsWith (tally_came h d taken.at (came_of taken.came octets)) old new

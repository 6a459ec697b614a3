-- What a take of a link tells a leg (profile).
use Rattle.std.specs.Prelude.{◌≡◌, ℕ, None, List, unwrap_or}
use Rattle.wire_spec.specs.Text.{text_within}
use Rattle.receiver.specs.declared.ears.Ear.{Ear}
use Rattle.link_io.specs.declared.ends.Came.{Came}
use Rattle.link_io.specs.declared.ends.Came.TheVariants.{Datagram, Large, Quiet, Closed}
use Rattle.link_io.specs.declared.ends.LinkTake.{LinkTake}
use Rattle.link_io.specs.Taking.{came_of}
use Rattle.live_spec.specs.Told.{Hearing, Told, told_came}
use Rattle.live_leg.specs.declared.senders.Senders.{Senders}
use Rattle.live_leg.specs.declared.senders.DatagramSender.{DatagramSender}
use Rattle.live_leg.specs.declared.states.State.{State}
use Rattle.live_leg.specs.declared.states.State.TheVariants.{Giving, Blank, Ending}
use Rattle.live_leg.specs.Senders.{Knows, sent_of}
use Rattle.live_leg.specs.Stories.{Ends, HearsSent, Waits, state_of_sent}

-- what the ear is told of what came at the moment t, where a datagram was sent so
abbrev pub HearsCame : Came → DatagramSender → (old new : Ear) → Senders → ℕ → List ℕ → State → Type 0
HearsCame Datagram sent old new after t octets state = HearsSent sent old new (unwrap_or after.sender 0) after.moment octets × (state ≡ state_of_sent sent)
HearsCame Large sent old new after t octets state = Waits old new t × (state ≡ Giving)
HearsCame Quiet sent old new after t octets state = Waits old new t × (state ≡ Blank)
HearsCame Closed sent old new after t octets state = Ends old new × (state ≡ Ending)

-- Of a leg that is heard so, and of which that was told before.
pub record Follows (old new : Ear) (before after : Senders) (t : ℕ) (c : Came) (octets : List ℕ) (state : State) (h : Hearing) (d : Told) : Type 0 where
  pub knows : Knows after h (told_came h d t (came_of c octets))
  pub hears : HearsCame c (sent_of h d t (text_within h.most octets None h.payload_types)) old new after t octets state

abbrev pub HearsTaken : (old new : Ear) → Senders → Senders → LinkTake → List ℕ → State → Type 0
HearsTaken old new before after taken octets state = (h : Hearing) (d : Told) → Knows before h d
    → Follows old new before after taken.at taken.came octets state h d

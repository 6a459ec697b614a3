-- Who sent what comes at a leg, as its definition has it (profile).
use Rattle.std.specs.Prelude.{◌≡◌, ℕ, ◌∷◌, max, take, Option, None, Some, List, Result, Ok, Err, if◌then◌else◌}
use Rattle.wire_spec.specs.declared.faults.TextFault.{TextFault}
use Rattle.wire_spec.specs.Packets.{Packet}
use Rattle.wire_spec.specs.Text.{text_within}
use Rattle.file_spec.specs.Primaries.{primary_limit}
use Rattle.live_spec.specs.Told.{Hearing, Told, is_sender, known_senders, last_moment, takes_over, told_moment, told_packet, untold}
use Rattle.live_leg.specs.declared.senders.Senders.{Senders}
use Rattle.live_leg.specs.declared.senders.DatagramSender.{DatagramSender}
use Rattle.live_leg.specs.declared.senders.DatagramSender.TheVariants.{Refused, Foreign, Sender, First, Other}

-- What is kept of a leg that is heard so, and of which that was told.
pub record Knows (s : Senders) (h : Hearing) (d : Told) : Type 0 where
  pub payload_types : s.payload_types ≡ h.payload_types
  pub most : primary_limit s.long ≡ h.most
  pub follow : s.follow ≡ h.follow
  pub sender : s.sender ≡ d.sender
  pub known : s.known.items ≡ known_senders d.before
  pub moment : s.moment ≡ d.moment
  pub last : s.last ≡ last_moment d.past

abbrev pub KnowsFirst : Hearing → Senders → Type 0
KnowsFirst h s = Knows s h (untold h)

-- time goes on
abbrev pub Passes : Senders → Senders → ℕ → Type 0
Passes old new t = (h : Hearing) (d : Told) → Knows old h d → Knows new h (told_moment d t)

-- who takes over is the first sender, or takes over from one
abbrev pub over_from : Option ℕ → DatagramSender
over_from None = First
over_from (Some s) = Other

-- who sent a packet that comes at the moment t
abbrev pub sent_of : Hearing → Told → ℕ → Result Packet TextFault → DatagramSender
sent_of h d t (Ok p) =
    if is_sender d.sender p.ssrc then Sender
    else (if takes_over h d t p.ssrc then over_from d.sender else Foreign)
sent_of h d t (Err fault) = Refused

-- what is known is known after what comes at the moment t, and this is who sent it
pub record IsMet (old new : Senders) (t : ℕ) (r : Hearing → Result Packet TextFault) (sent : DatagramSender) (h : Hearing) (d : Told) : Type 0 where
  pub knows : Knows new h (told_packet h d t (r h))
  pub sent_is : sent ≡ sent_of h d t (r h)

abbrev pub MeetsText : Senders → Senders → ℕ → ℕ → DatagramSender → Type 0
MeetsText old new t ssrc sent = (p : Packet) → p.ssrc ≡ ssrc → (h : Hearing) (d : Told) → Knows old h d
    → IsMet old new t (λ _. Ok p) sent h d

abbrev pub Meets : Senders → Senders → ℕ → List ℕ → DatagramSender → Type 0
Meets old new t octets sent = (h : Hearing) (d : Told) → Knows old h d
    → IsMet old new t (λ g. text_within g.most octets None g.payload_types) sent h d

-- ---- inside
-- one more sender before: the last 64 are known
abbrev pub remembered : ℕ → List ℕ → List ℕ
remembered sender known = sender ∷ take 63 known

abbrev pub known_after : Option ℕ → List ℕ → List ℕ
known_after None known = known
known_after (Some sender) known = remembered sender known

-- a packet of the sender comes at the moment t
pub record Notes (old new : Senders) (t : ℕ) : Type 0 where
  pub payload_types : new.payload_types ≡ old.payload_types
  pub long : new.long ≡ old.long
  pub follow : new.follow ≡ old.follow
  pub sender : new.sender ≡ old.sender
  pub known : new.known.items ≡ old.known.items
  pub moment : new.moment ≡ max old.moment t
  pub last : new.last ≡ max old.moment t

-- the sender of before is known
pub record Remembers (old new : Senders) (ssrc : ℕ) : Type 0 where
  pub payload_types : new.payload_types ≡ old.payload_types
  pub long : new.long ≡ old.long
  pub follow : new.follow ≡ old.follow
  pub sender : new.sender ≡ old.sender
  pub known : new.known.items ≡ remembered ssrc old.known.items
  pub moment : new.moment ≡ old.moment
  pub last : new.last ≡ old.last

-- one with this SSRC takes over at the moment t
pub record TakesOver (old new : Senders) (t ssrc : ℕ) (sent : DatagramSender) : Type 0 where
  pub payload_types : new.payload_types ≡ old.payload_types
  pub long : new.long ≡ old.long
  pub follow : new.follow ≡ old.follow
  pub sender : new.sender ≡ Some ssrc
  pub known : new.known.items ≡ known_after old.sender old.known.items
  pub moment : new.moment ≡ max old.moment t
  pub last : new.last ≡ max old.moment t
  pub sent_is : sent ≡ over_from old.sender

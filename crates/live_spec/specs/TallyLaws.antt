-- What the law says of what is counted of a leg.
use Rattle.std.specs.Prelude.{◌≡◌, ◌≤◌, ℕ, ◌+◌, Bool, true, false, List, [], ◌∷◌, length, if◌then◌else◌}
use Rattle.wire_spec.specs.Packets.{Arrival}
use Rattle.stream_spec.specs.Links.{Came, Datagram, Large, Quiet, Closed, Takes}
use Rattle.live_spec.specs.Told.{Former, Hearing, Told, told_by}
use Rattle.live_spec.specs.Tally.{tally_by}

-- it gave a datagram, which may have been too large
abbrev pub is_datagram : Came → Bool
is_datagram (Datagram octets) = true
is_datagram Large = true
is_datagram Quiet = false
is_datagram Closed = false

-- how many did
abbrev pub datagrams_in : Takes → ℕ
datagrams_in [] = 0
datagrams_in (a ∷ past) = (if is_datagram a.came then 1 else 0) + datagrams_in past

-- how many packets these senders sent, each while it was heard
abbrev pub former_packets : List Former → ℕ
former_packets [] = 0
former_packets (f ∷ before) = length f.past + former_packets before

abbrev pub all_packets : Told → ℕ
all_packets d = length d.past + former_packets d.before

-- 1, where there is a packet
abbrev pub one_if_any : List Arrival → ℕ
one_if_any [] = 0
one_if_any (a ∷ past) = 1

-- those before, and the sender, where something came of it
abbrev pub all_senders : Told → ℕ
all_senders d = one_if_any d.past + length d.before

-- Each datagram is counted once, and by one cause; what is counted as text are the packets of those who were heard, and these are the
-- senders. A leg that is not followed has one at most.
pub record AddsUp (h : Hearing) (takes : Takes) : Type 0 where
  pub came : (tally_by h takes).came ≡ datagrams_in takes
  pub parts : (tally_by h takes).came ≡ (tally_by h takes).text + (tally_by h takes).refused + (tally_by h takes).foreign
  pub text : (tally_by h takes).text ≡ all_packets (told_by h takes)
  pub senders : (tally_by h takes).senders ≡ all_senders (told_by h takes)
  pub one : h.follow ≡ false → (tally_by h takes).senders ≤ 1

abbrev pub TalliesAddUp : Type 0
TalliesAddUp = (h : Hearing) (takes : Takes) → AddsUp h takes

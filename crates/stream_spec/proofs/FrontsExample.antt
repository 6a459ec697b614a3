-- Of the numbers 0 and 2 at 0 and 1000 ms, with a wait of 500, both are ready by 1500. They stay the first of all where 1
-- comes at 1500, which is too late for it; where 1 comes at 1200 they don't: so a law that lets packets come before the
-- moment does not hold.
use Rattle.std.proofs.Common.{◌≡◌, ℕ, List, [], ◌∷◌, refl, map}
use Rattle.std.specs.Prelude.{Bool}
use Rattle.wire_spec.specs.Packets.{Arrival}
use Rattle.stream_spec.specs.Numbering.{Numbered}
use Rattle.stream_spec.specs.ChunksBy.{used_ready}
use Rattle.stream_spec.specs.Fronts.{packets_ready_by}

-- the packet with this number, at its time
abbrev at : ℕ → ℕ → Arrival
at time seq = record { time = time; packet = record { marker_bit = Bool.false; seq = seq; timestamp = seq; ssrc = 1001; source = 1001; older = []; primary = 65 ∷ [] } }

abbrev earlier : List Arrival
earlier = at 1000 2 ∷ at 0 0 ∷ []

abbrev numbers : List Numbered → List ℕ
numbers us = map (λ u. u.number) us

pub both_ready : numbers (packets_ready_by 500 1500 earlier) ≡ 65536 ∷ 65538 ∷ []
both_ready = refl

pub none_ready_before : numbers (packets_ready_by 500 1499 earlier) ≡ 65536 ∷ []
none_ready_before = refl

pub too_late : numbers (used_ready 500 (at 1500 1 ∷ earlier)) ≡ 65536 ∷ 65538 ∷ []
too_late = refl

pub in_between : numbers (used_ready 500 (at 1200 1 ∷ earlier)) ≡ 65536 ∷ 65537 ∷ 65538 ∷ []
in_between = refl

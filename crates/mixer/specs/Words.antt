-- What the mixer's calls say of chunks and packets, call by call: what was taken, who was given it, and what was put out.
use Rattle.std.specs.Prelude.{ℕ, ◌==◌, ◌&&◌, List, [], ◌∷◌, ◌++◌, map, filter, if◌then◌else◌}
use Rattle.stream_spec.specs.Ready.{Chunk}
use Rattle.wire_spec.specs.Packets.{Arrival}
use Rattle.mixer_spec.specs.Setups.{Setup}
use Rattle.mixer_spec.specs.Table.{Call, Admit, Hush, Leave, Offer, Turn, has_room, is_given, batch, after_calls}

-- the chunks of the leg i that were offered where there was room, in order
abbrev pub accepted : Setup → ℕ → List Call → List Chunk
accepted s i [] = []
accepted s i (Admit k l ∷ past) = accepted s i past
accepted s i (Hush k ∷ past) = accepted s i past
accepted s i (Leave k ∷ past) = accepted s i past
accepted s i (Offer c ∷ past) = accepted s i past ++ (if (i == c.source) && has_room s c.source c (after_calls s past) then c ∷ [] else [])
accepted s i (Turn now ∷ past) = accepted s i past

-- those of them that came while the terminal j, another leg's, listened
abbrev pub given_to : Setup → ℕ → ℕ → List Call → List Chunk
given_to s j i [] = []
given_to s j i (Admit k l ∷ past) = given_to s j i past
given_to s j i (Hush k ∷ past) = given_to s j i past
given_to s j i (Leave k ∷ past) = given_to s j i past
given_to s j i (Offer c ∷ past) =
    given_to s j i past ++ (if (i == c.source) && (has_room s c.source c (after_calls s past) && is_given (after_calls s past).seats c.source j) then c ∷ [] else [])
given_to s j i (Turn now ∷ past) = given_to s j i past

-- the packets to the terminal j in the batches of all turns, one batch behind the other, each at the moment of its turn
abbrev pub put_out : Setup → ℕ → List Call → List Arrival
put_out s j [] = []
put_out s j (Admit k l ∷ past) = put_out s j past
put_out s j (Hush k ∷ past) = put_out s j past
put_out s j (Leave k ∷ past) = put_out s j past
put_out s j (Offer c ∷ past) = put_out s j past
put_out s j (Turn now ∷ past) = put_out s j past ++ map (λ p. record { time = now; packet = p.packet }) (filter (λ p. p.terminal == j) (batch s now (after_calls s past)))

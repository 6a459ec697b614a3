-- What a ring keeps of the chunks of one source: their octets, one chunk behind the other, and how long each is.
use Rattle.std.specs.Prelude.{◌≡◌, ℕ, suc, ◌-◌, ◌≤◌, List, [], ◌∷◌, ◌++◌, length, take, drop, sum, nat_le, if◌then◌else◌}
use Rattle.mixer_places.specs.declared.rings.RingPosition.{RingPosition}

pub record Chunks : Type 0 where
  pub octets : List ℕ
  pub lengths : List ℕ

abbrev pub no_chunks : Chunks
no_chunks = record { octets = []; lengths = [] }

abbrev pub pushed : List ℕ → Chunks → Chunks
pushed text c = record { octets = c.octets ++ text; lengths = c.lengths ++ length text ∷ [] }

-- without the chunks before the place
abbrev pub given_up : RingPosition → Chunks → Chunks
given_up p c = record { octets = drop p.octets c.octets; lengths = drop p.chunks c.lengths }

abbrev pub end_of : Chunks → RingPosition
end_of c = record { chunks = length c.lengths; octets = length c.octets }

-- the octets before the place are those of the chunks before it
pub record IsPlace (c : Chunks) (p : RingPosition) : Type 0 where
  pub chunks : p.chunks ≤ length c.lengths
  pub octets : p.octets ≡ sum (take p.chunks c.lengths)

-- the lengths of the chunks from one index up to another
abbrev pub chunks_between : Chunks → ℕ → ℕ → List ℕ
chunks_between c from end = take (end - from) (drop from c.lengths)

-- how many of these chunks, from the first on, have room
abbrev pub count_fitting : ℕ → List ℕ → ℕ
count_fitting room [] = 0
count_fitting room (n ∷ ns) = if nat_le n room then suc (count_fitting (room - n) ns) else 0

-- What is kept of one source: its chunks, and what part of them waits for each terminal.
use Rattle.std.specs.Prelude.{◌≡◌, ℕ, ◌-◌, ◌<◌, ◌≤◌, ◌⊎◌, ◌==◌, Bool, Option, None, Some, List, map, slice_get, unwrap_or, if◌then◌else◌}
use Rattle.mixer_places.specs.declared.rings.RingPosition.{RingPosition}
use Rattle.mixer_places.specs.declared.parts.Part.{Part}
use Rattle.mixer_places.specs.Rings.{Chunks, given_up}

pub record Waiting : Type 0 where
  pub chunks : Chunks
  pub parts : List Part

-- the place before all chunks
abbrev pub start : RingPosition
start = record { chunks = 0; octets = 0 }

-- where the part ends: at the end of all chunks, while the terminal listens
abbrev pub part_end : RingPosition → Part → RingPosition
part_end end p = unwrap_or p.to end

-- the part of a terminal that listens from now on, or no more
abbrev pub part_heard : Bool → RingPosition → Part → Part
part_heard on end p = if on then record { from = end; to = None } else record { from = p.from; to = Some (part_end end p) }

-- the place counted from another one, or from the start where it stands before that
abbrev pub place_after : RingPosition → RingPosition → RingPosition
place_after front p = record { chunks = p.chunks - front.chunks; octets = p.octets - front.octets }

abbrev pub end_after : RingPosition → Option RingPosition → Option RingPosition
end_after front None = None
end_after front (Some p) = Some (place_after front p)

abbrev pub part_after : RingPosition → Part → Part
part_after front p = record { from = place_after front p.from; to = end_after front p.to }

-- without the chunks before the place
abbrev pub without : RingPosition → Waiting → Waiting
without front w = record { chunks = given_up front w.chunks; parts = map (part_after front) w.parts }

-- the first part of the terminal k, which listens but to its own source
abbrev pub first_part : ℕ → ℕ → Part
first_part own k = record { from = start; to = if k == own then Some start else None }

-- a chunk waits, where `end` is the end of all
abbrev pub Waits : RingPosition → Part → Type 0
Waits end p = p.from.chunks < (part_end end p).chunks

-- the place before the oldest chunk that waits for some terminal, or the end
pub record IsOldest (end : RingPosition) (parts : List Part) (p : RingPosition) : Type 0 where
  pub least : (j : ℕ) (q : Part) → slice_get parts j ≡ Some q → Waits end q → p.chunks ≤ q.from.chunks
  pub first : (p ≡ end) ⊎ ((j : ℕ) × (q : Part) × (slice_get parts j ≡ Some q) × Waits end q × (p ≡ q.from))

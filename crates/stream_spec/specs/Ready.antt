-- When a number ends, when a packet is ready, and the heard texts with their moments (profile).
use Rattle.std.specs.Prelude.{ℕ, ◌≤◌, zero, suc, ◌+◌, ◌-◌, ◌==◌, Bool, Option, None, Some, List, [], ◌∷◌, ◌++◌, filter, map, ◌&&◌, nat_lt, if◌then◌else◌, min, max}
use Rattle.rtt_base.specs.declared.records.Chunk.{Chunk as ChunkValue}
use Rattle.wire_spec.specs.Packets.{Arrival}
use Rattle.stream_spec.specs.Lists.{In}
use Rattle.stream_spec.specs.Numbering.{Numbered, numbered, used, in_time, distinct_from, has_number, first_number}
use Rattle.stream_spec.specs.Hearing.{piece, is_packet_of}
use Rattle.rtt_base.specs.declared.limits.TheConstants.{MOST_HELD}

abbrev pub when : Bool → ℕ → List ℕ
when b m = if b then m ∷ [] else []

-- The moments that end n: its arrival in time, `wait` after each arrival of a greater number, and each arrival by
-- which more than MOST_HELD different greater ones have come.
abbrev pub moments : ℕ → List Numbered → ℕ → List ℕ
moments wait [] n = []
moments wait (e ∷ past) n =
    when (in_time wait e past && e.number == n) e.time
    ++ (when (nat_lt n e.number) (e.time + wait)
    ++ (when (nat_lt MOST_HELD (distinct_from (suc n) (e ∷ past))) e.time ++ moments wait past n))

abbrev pub least : List ℕ → ℕ
least [] = 0
least (m ∷ []) = m
least (m ∷ k ∷ ms) = min m (least (k ∷ ms))

-- the end of n: the earliest of these moments
abbrev pub end_of : ℕ → List Numbered → ℕ → ℕ
end_of wait past n = least (moments wait past n)

-- the latest end of the k numbers from low on
abbrev pub latest_end : ℕ → List Numbered → ℕ → ℕ → ℕ
latest_end wait past low zero = 0
latest_end wait past low (suc k) = max (latest_end wait past low k) (end_of wait past (low + k))

-- b, which is used, is ready when it came and each number from the first up to it has ended
abbrev pub ready_of : ℕ → List Numbered → Numbered → ℕ
ready_of wait past b = max b.time (latest_end wait past (first_number 0 past) (suc b.number - first_number 0 past))

-- A heard text: the number of the leg of which it is heard, the moment in milliseconds from which it may be mixed, and the
-- octets.
pub record Chunk : Type 0 where
  pub source : ℕ
  pub ready : ℕ
  pub text : List ℕ

-- as a value of the program has it
abbrev pub chunk_of : ChunkValue → Chunk
chunk_of c = record { source = c.source; ready = c.ready; text = c.text }

abbrev pub chunk : ℕ → ℕ → List ℕ → Chunk
chunk place ready text = record { source = place; ready = ready; text = text }

-- `heard_over`, each text with the moment at which its packet is ready
abbrev pub chunks_over : (Numbered → ℕ) → ℕ → (ℕ → Bool) → ℕ → Option Numbered → List Numbered → List Chunk
chunks_over ready place present first prev [] = []
chunks_over ready place present first prev (b ∷ bs) =
    map (chunk place (ready b)) (piece present first prev b) ++ chunks_over ready place present first (Some b) bs

-- ready moments never fall
abbrev pub ReadyRises : List Chunk → Type 0
ReadyRises [] = Unit {0}
ReadyRises (c ∷ cs) = ((d : Chunk) → In d cs → c.ready ≤ d.ready) × ReadyRises cs

-- What is heard of the source s as chunks, the source being at this place among the legs.
abbrev pub chunks : ℕ → ℕ → List Arrival → ℕ → List Chunk
chunks wait place a s =
    chunks_over (ready_of wait (numbered a)) place (has_number (used wait (numbered a))) (first_number 0 (numbered a)) None
    (filter (is_packet_of s) (used wait (numbered a)))

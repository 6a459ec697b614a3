-- Words of the laws: the first of a list, what is ready by a moment, and what comes from a moment on.
use Rattle.std.specs.Prelude.{◌≡◌, ℕ, ◌≤◌, Bool, nat_le, List, ◌++◌, filter}
use Rattle.wire_spec.specs.Packets.{Arrival}
use Rattle.stream_spec.specs.Lists.{In}
use Rattle.stream_spec.specs.Numbering.{Numbered}
use Rattle.stream_spec.specs.Ready.{Chunk, chunks}
use Rattle.stream_spec.specs.ChunksBy.{used_ready}

module _ {X : Type 0} where
  -- these are the first of all
  abbrev pub IsFront : List X → List X → Type 0
  IsFront front all = (rest : List X) × (all ≡ front ++ rest)

-- each of these came at t or later
abbrev pub AreFrom : ℕ → List Arrival → Type 0
AreFrom t later = (a : Arrival) → In a later → t ≤ a.time

-- a packet that bears the moment at which it is ready is ready by t
abbrev pub is_packet_ready_by : ℕ → Numbered → Bool
is_packet_ready_by t u = nat_le u.time t

-- the used packets that are ready by t, each with the moment at which it is ready
abbrev pub packets_ready_by : ℕ → ℕ → List Arrival → List Numbered
packets_ready_by wait t a = filter (is_packet_ready_by t) (used_ready wait a)

abbrev pub is_ready_by : ℕ → Chunk → Bool
is_ready_by t c = nat_le c.ready t

-- the chunks of the source s that are ready by t
abbrev pub chunks_ready_by : ℕ → ℕ → ℕ → List Arrival → ℕ → List Chunk
chunks_ready_by wait place t a s = filter (is_ready_by t) (chunks wait place a s)

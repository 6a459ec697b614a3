-- Chunks, packet by packet: what used packets of rising number give, each at the moment at which it is ready.
use Rattle.std.specs.Prelude.{ℕ, ◌==◌, None, List, [], ◌∷◌, ◌++◌, filter, map, if◌then◌else◌}
use Rattle.stream_spec.specs.Ready.{Chunk}
use Rattle.wire_spec.specs.Packets.{Arrival}
use Rattle.stream_spec.specs.Numbering.{Numbered, numbered, used, has_number}
use Rattle.stream_spec.specs.Hearing.{is_packet_of, adds_marker, adds_texts, marker}
use Rattle.stream_spec.specs.Ready.{chunk, chunks_over, ready_of}

-- the packet with the moment at which it is ready in the place of that at which it came
abbrev pub stamped : ℕ → List Numbered → Numbered → Numbered
stamped wait past u = record { time = ready_of wait past u; number = u.number; packet = u.packet }

-- the used packets of these arrivals in rising number, each with the moment at which it is ready
abbrev pub used_ready : ℕ → List Arrival → List Numbered
used_ready wait a = map (stamped wait (numbered a)) (used wait (numbered a))

-- the chunks of these packets, which bear the moments at which they are ready
abbrev pub chunks_from : ℕ → ℕ → ℕ → List Numbered → List Chunk
chunks_from place first s us = chunks_over (λ u. u.time) place (has_number us) first None (filter (is_packet_of s) us)

abbrev pub chunks_by : ℕ → List Numbered → ℕ → List Chunk
chunks_by place [] s = []
chunks_by place (u ∷ us) s = chunks_from place u.number s (u ∷ us)

-- what b adds behind these
abbrev pub texts_added : List Numbered → Numbered → ℕ → List (List ℕ)
texts_added us b s = if b.packet.source == s then (if adds_marker us b then marker ∷ [] else []) ++ adds_texts us b else []

abbrev pub chunks_added : ℕ → List Numbered → Numbered → ℕ → List Chunk
chunks_added place us b s = map (chunk place b.time) (texts_added us b s)

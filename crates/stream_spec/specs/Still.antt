-- What a mixer hears of an idle terminal. Terminals send U+FEFF, T.140's byte order mark, while nobody types; to a mixer a
-- block of such marks alone is a block without text (profile).
use Rattle.std.specs.Prelude.{ℕ, ◌==◌, Bool, true, false, List, [], ◌∷◌, map, ◌&&◌, not, if◌then◌else◌}
use Rattle.rtt_base.specs.declared.blocks.TextBlock.{TextBlock}
use Rattle.wire_spec.specs.Packets.{Packet, Arrival}
use Rattle.stream_spec.specs.Numbering.{Numbered}
use Rattle.stream_spec.specs.Ready.{Chunk}
use Rattle.stream_spec.specs.History.{History, Entry, Placed}

-- nothing but U+FEFF, however often
abbrev pub is_blank : List ℕ → Bool
is_blank [] = true
is_blank (a ∷ []) = false
is_blank (a ∷ b ∷ []) = false
is_blank (a ∷ b ∷ c ∷ text) = (a == 0xEF && b == 0xBB && c == 0xBF) && is_blank text

abbrev pub still_text : List ℕ → List ℕ
still_text text = if is_blank text then [] else text

-- ---- what is heard
-- a text, or a chunk, that is no keep-alive
abbrev pub is_lively : List ℕ → Bool
is_lively text = not (is_blank text)

abbrev pub is_lively_chunk : Chunk → Bool
is_lively_chunk c = is_lively c.text

-- ---- of a packet
abbrev pub still_block : TextBlock → TextBlock
still_block b = record { offset = b.offset; text = still_text b.text }

abbrev pub still_packet : Packet → Packet
still_packet p = record p { older = map still_block p.older; primary = still_text p.primary }

abbrev pub still_arrival : Arrival → Arrival
still_arrival a = record { time = a.time; packet = still_packet a.packet }

-- ---- of what came
abbrev pub still : List Arrival → List Arrival
still past = map still_arrival past

abbrev pub still_numbered : Numbered → Numbered
still_numbered u = record { time = u.time; number = u.number; packet = still_packet u.packet }

-- ---- of what was sent
abbrev pub still_entry : Entry → Entry
still_entry e = record { source = e.source; media = e.media; text = still_text e.text; generations = e.generations; reach = e.reach }

abbrev pub still_history : History → History
still_history h = record { ssrc = h.ssrc; first = h.first; base = h.base; entries = map still_entry h.entries }

abbrev pub still_placed : Placed → Placed
still_placed x = record { place = x.place; index = x.index; source = x.source; media = x.media; text = still_text x.text; generations = x.generations; reach = x.reach }

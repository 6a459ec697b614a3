-- A text in pieces: it is cut where it is heard, so that each packet of the next hop has room for whole pieces. An octet of what was
-- sent on a hop has an address: 8192 times the place of its block, and where in the block's text it stands. So addresses of later
-- blocks, and of later octets of a block, are greater (profile).
use Rattle.std.specs.Prelude.{◌≡◌, ℕ, zero, suc, ◌+◌, ◌*◌, ◌≤◌, ◌==◌, true, List, [], ◌∷◌, ◌++◌, length, take, drop, map, nat_le, if◌then◌else◌}
use Rattle.std.specs.List.{AllByRecursion, concat}
use Rattle.wire_spec.specs.Packets.{has_text}
use Rattle.stream_spec.specs.Lists.{In}
use Rattle.stream_spec.specs.Hearing.{marker, text_list}
use Rattle.stream_spec.specs.Typed.{is_end, last_end}
use Rattle.stream_spec.specs.History.{Placed}
use Rattle.stream_spec.specs.Kept.{Item, Marker, Block}
use Rattle.stream_spec.specs.Ready.{Chunk}

-- ---- how a text is cut
-- A way to cut: the pieces are together the text, none is empty, and a marker is not cut.
pub record IsCutting (cutting : List ℕ → List (List ℕ)) : Type 0 where
  pub whole : (text : List ℕ) → concat (cutting text) ≡ text
  pub some : (text : List ℕ) → AllByRecursion (λ piece. has_text piece ≡ true) (cutting text)
  pub marker_whole : cutting marker ≡ marker ∷ []

-- where a text of more than n octets is cut: behind the last whole character of these, or behind n octets where none is whole
abbrev pub cut_at : ℕ → List ℕ → ℕ
cut_at n text = if last_end text n == 0 then n else last_end text n

abbrev pub pieces_within : ℕ → ℕ → List ℕ → List (List ℕ)
pieces_within zero n text = text_list text
pieces_within (suc fuel) n text =
    if nat_le (length text) n then text_list text else take (cut_at n text) text ∷ pieces_within fuel n (drop (cut_at n text) text)

-- the pieces of a text, of at most n octets each: the text itself, where it is no longer
abbrev pub pieces : ℕ → List ℕ → List (List ℕ)
pieces n text = pieces_within (length text) n text

-- the octet x in front of the first of these
abbrev pub in_front : ℕ → List (List ℕ) → List (List ℕ)
in_front x [] = (x ∷ []) ∷ []
in_front x (c ∷ cs) = (x ∷ c) ∷ cs

-- the characters of a text: it is cut wherever one ends
abbrev pub characters : List ℕ → List (List ℕ)
characters [] = []
characters (x ∷ text) = if is_end text 0 then (x ∷ []) ∷ characters text else in_front x (characters text)

-- ---- the pieces of what was sent
-- A piece of the block x, which begins at this octet of its text: an entry of its own, whose place is its address.
abbrev pub piece_at : Placed → ℕ → List ℕ → Placed
piece_at x from text = record x { place = 8192 * x.place + from; text = text }

-- these pieces of the block x, one behind the other, from this octet of its text on
abbrev pub pieces_from : Placed → ℕ → List (List ℕ) → List Item
pieces_from x from [] = []
pieces_from x from (t ∷ ts) = Block (piece_at x from t) ∷ pieces_from x (from + length t) ts

-- the pieces of the block x
abbrev pub pieces_of : (List ℕ → List (List ℕ)) → Placed → List Item
pieces_of cutting x = pieces_from x 0 (cutting x.text)

-- what is told, each block in its pieces; marks stay
abbrev pub in_pieces : (List ℕ → List (List ℕ)) → List Item → List Item
in_pieces cutting [] = []
in_pieces cutting (Marker ∷ items) = Marker ∷ in_pieces cutting items
in_pieces cutting (Block x ∷ items) = pieces_of cutting x ++ in_pieces cutting items

-- k is a piece of the block x
abbrev pub IsPieceOf : (List ℕ → List (List ℕ)) → Placed → Placed → Type 0
IsPieceOf cutting x k = In (Block k) (pieces_of cutting x)

-- The octets of these pieces rise in address, so no octet stands twice: each piece ends before the next one begins.
abbrev pub Apart : List Placed → Type 0
Apart [] = Unit {0}
Apart (k ∷ ks) = ((m : Placed) → In m ks → k.place + length k.text ≤ m.place) × Apart ks

-- ---- the pieces of what is heard
-- the pieces of a chunk, each at its moment
abbrev pub chunk_pieces : (List ℕ → List (List ℕ)) → Chunk → List Chunk
chunk_pieces cutting c = map (λ t. record { source = c.source; ready = c.ready; text = t }) (cutting c.text)

abbrev pub chunks_cut : (List ℕ → List (List ℕ)) → List Chunk → List Chunk
chunks_cut cutting [] = []
chunks_cut cutting (c ∷ cs) = chunk_pieces cutting c ++ chunks_cut cutting cs

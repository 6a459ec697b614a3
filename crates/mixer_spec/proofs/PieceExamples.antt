-- Texts in pieces, by computing.
use Rattle.std.proofs.Common.{◌≡◌, ◌≤◌, ℕ, inl, List, [], ◌∷◌, ◌++◌, length, drop, refl, ap, sym, arith}
use Rattle.std.specs.Prelude.{◌==◌, ◌||◌, codes, filter, flat_map, map, replicate, IsUtf8}
use Rattle.std.specs.List.{AllByRecursion, concat}
use Rattle.std.specs.Char.{encode_utf8}
use Rattle.std.specs.Str.{chars, is_utf8}
use Rattle.std.proofs.lemmas.Bool.{true≢false}
use Rattle.std.proofs.lemmas.Str.{IsUtf8-from_is_utf8, is_utf8-from_IsUtf8}
use Rattle.stream_spec.specs.Hearing.{text_list}
use Rattle.stream_spec.specs.History.{History, Placed, octets, placed}
use Rattle.stream_spec.specs.Kept.{Block, Item, texts}
use Rattle.stream_spec.specs.Own.{Sent, sent_history}
use Rattle.stream_spec.specs.Ready.{Chunk}
use Rattle.stream_spec.specs.Still.{still_text}
use Rattle.mixer_spec.specs.Chunks.{front}
use Rattle.mixer_spec.specs.Through.{through}
use Rattle.mixer_spec.specs.Pieces.{Apart, IsCutting, characters, chunks_cut, in_pieces, piece_at, pieces}
use Rattle.mixer_spec.specs.Rooms.{room}

abbrev times : ℕ → List ℕ → List ℕ
times n text = concat (replicate n text)

-- how long the pieces of a text are
abbrev sizes : ℕ → List ℕ → List ℕ
sizes n text = map length (pieces n text)

-- ---- between characters
-- é, three times
cut_between : pieces 5 (195 ∷ 169 ∷ 195 ∷ 169 ∷ 195 ∷ 169 ∷ []) ≡ (195 ∷ 169 ∷ 195 ∷ 169 ∷ []) ∷ (195 ∷ 169 ∷ []) ∷ []
cut_between = refl

-- a short one is left
cut_none : pieces 5 (codes "Hi") ≡ codes "Hi" ∷ []
cut_none = refl

-- U+20AC, fifty times
of_three : sizes 128 (times 50 (0xE2 ∷ 0x82 ∷ 0xAC ∷ [])) ≡ 126 ∷ 24 ∷ []
of_three = refl

-- U+1F600, fifty times
of_four : sizes 128 (times 50 (0xF0 ∷ 0x9F ∷ 0x98 ∷ 0x80 ∷ [])) ≡ 128 ∷ 72 ∷ []
of_four = refl

-- ---- characters
-- A, é and U+20AC
three : characters (65 ∷ 195 ∷ 169 ∷ 226 ∷ 130 ∷ 172 ∷ []) ≡ (65 ∷ []) ∷ (195 ∷ 169 ∷ []) ∷ (226 ∷ 130 ∷ 172 ∷ []) ∷ []
three = refl

-- octets that go on with none are a piece
none_first : characters (169 ∷ 130 ∷ 65 ∷ []) ≡ (169 ∷ 130 ∷ []) ∷ (65 ∷ []) ∷ []
none_first = refl

-- ---- keep-alives go before texts are cut
abbrev blank : List ℕ
blank = 0xEF ∷ 0xBB ∷ 0xBF ∷ []

-- a text may begin with a piece of U+FEFF alone,
blank_begins : pieces 126 (still_text (times 42 blank ++ codes "Hi")) ≡ times 42 blank ∷ codes "Hi" ∷ []
blank_begins = refl

-- and a keep-alive has no piece, though it is longer than one
blank_alone : pieces 128 (still_text (times 43 blank)) ≡ []
blank_alone = refl

-- ---- a paste of 1500 octets
abbrev paste : List ℕ
paste = times 1500 (codes "A")

pasted : sizes 128 paste ≡ 128 ∷ 128 ∷ 128 ∷ 128 ∷ 128 ∷ 128 ∷ 128 ∷ 128 ∷ 128 ∷ 128 ∷ 128 ∷ 92 ∷ []
pasted = refl

-- ---- rooms
small : room 548 0 ∷ room 548 1 ∷ room 548 2 ∷ room 548 3 ∷ [] ≡ 531 ∷ 263 ∷ 174 ∷ 129 ∷ []
small = refl

usual : room 1200 0 ∷ room 1200 1 ∷ room 1200 2 ∷ room 1200 3 ∷ [] ≡ 1023 ∷ 589 ∷ 391 ∷ 292 ∷ []
usual = refl

great : room 4224 0 ∷ room 4224 1 ∷ room 4224 2 ∷ room 4224 3 ∷ [] ≡ 1023 ∷ 1023 ∷ 1023 ∷ 1023 ∷ []
great = refl

-- ---- the paste behind the mixer
-- Ann's, heard at 0
abbrev heard : List Chunk
heard = chunks_cut (pieces 128) (record { source = 0; ready = 0; text = paste } ∷ [])

abbrev lengths : List Chunk → List ℕ
lengths cs = map (λ c. length c.text) cs

-- three pieces go into a room of 391 octets, and two beside a label that is 9 octets long
three_go : lengths (front 391 heard) ≡ 128 ∷ 128 ∷ 128 ∷ []
three_go = refl

two_go : lengths (front 382 heard) ≡ 128 ∷ 128 ∷ []
two_go = refl

abbrev sent : ℕ → ℕ → Sent
sent media n = record { source = 1001; media = media; text = times n (codes "A") }

-- what is sent to Bob, who is sent two generations, with 1200 octets a packet
abbrev to_bob : History
to_bob = sent_history (record { ssrc = 9000; first = 100; base = 5000; generations = 2 })
    (sent 1500 0 ∷ sent 1200 0 ∷ sent 900 348 ∷ sent 600 384 ∷ sent 300 384 ∷ sent 0 384 ∷ [])

within : map (octets to_bob) (placed to_bob) ≡ 409 ∷ 793 ∷ 1177 ∷ 1141 ∷ 757 ∷ 373 ∷ []
within = refl

-- with 548 octets a packet and three generations: one piece in each
abbrev to_cy : History
to_cy = sent_history (record { ssrc = 9000; first = 0; base = 0; generations = 3 })
    (sent 4200 0 ∷ sent 3900 0 ∷ sent 3600 0 ∷ sent 3300 92 ∷ sent 3000 128 ∷ sent 2700 128 ∷ sent 2400 128 ∷ sent 2100 128 ∷ sent 1800 128 ∷ sent 1500 128
    ∷ sent 1200 128 ∷ sent 900 128 ∷ sent 600 128 ∷ sent 300 128 ∷ sent 0 128 ∷ [])

within_small : map (octets to_cy) (placed to_cy) ≡ 157 ∷ 285 ∷ 413 ∷ 541 ∷ 541 ∷ 541 ∷ 541 ∷ 541 ∷ 541 ∷ 541 ∷ 541 ∷ 505 ∷ 377 ∷ 249 ∷ 121 ∷ []
within_small = refl

abbrev block : List ℕ → Placed
block text = record { place = 0; index = 0; source = 1001; media = 0; text = text; generations = 2; reach = 0 }

-- Bob's second, third and fourth packets are lost, and with them a part of the one block: it is marked
abbrev told : List Item
told = through (in_pieces (pieces 128) (Block (block paste) ∷ [])) to_bob (filter (λ x. x.place == 0 || (x.place == 4 || x.place == 5)) (placed to_bob)) 1001

part_lost : map length (texts told) ≡ 128 ∷ 128 ∷ 128 ∷ 3 ∷ 128 ∷ 128 ∷ 128 ∷ 128 ∷ 128 ∷ 92 ∷ []
part_lost = refl

-- ---- what the definitions refuse
-- a character that is cut
inside : AllByRecursion IsUtf8 ((195 ∷ []) ∷ (169 ∷ []) ∷ []) → ⊥
unfolding is_utf8 chars
inside t = true≢false (sym (is_utf8-from_IsUtf8 (195 ∷ []) t.0))

-- an octet that is dropped
dropped : IsCutting (λ text. text_list (drop 1 text)) → ⊥
dropped c = let n = ap length (c.whole (codes "Hi")) in absurd (omega (arith, n))

-- a piece without text
empty : IsCutting (λ text. text ∷ []) → ⊥
empty c = cc (c.some []).0

-- a marker that is cut
marker_cut : IsCutting (λ text. map (λ x. x ∷ []) text) → ⊥
marker_cut c = let n = ap length c.marker_whole in absurd (omega (arith, n))

-- a way to cut within characters: of A, é and é in pieces it gives others than of the text
abbrev twos : List ℕ → List (List ℕ)
twos [] = []
twos (x ∷ []) = (x ∷ []) ∷ []
twos (x ∷ y ∷ text) = (x ∷ y ∷ []) ∷ twos text

within_characters : ((n : ℕ) (text : List ℕ) → 4 ≤ n → IsUtf8 text → flat_map twos (pieces n text) ≡ twos text) → ⊥
unfolding is_utf8 chars encode_utf8
within_characters same =
    let text : List ℕ = 65 ∷ 195 ∷ 169 ∷ 195 ∷ 169 ∷ [] in
    let n = ap (λ (ts : List (List ℕ)). map length ts) (same 4 text (omega arith) (IsUtf8-from_is_utf8 text refl)) in
    absurd (cc n)

-- a room that is one octet too great: 392 in place of 391
abbrev full : History
full = sent_history (record { ssrc = 9000; first = 0; base = 0; generations = 2 }) (sent 600 392 ∷ sent 300 392 ∷ sent 0 392 ∷ [])

too_great : map (octets full) (placed full) ≡ 417 ∷ 809 ∷ 1201 ∷ []
too_great = refl

-- an octet that stands twice: the second one, in two pieces
abbrev two_from : ℕ → Placed
two_from n = piece_at (block paste) n (codes "AA")

twice : Apart (two_from 0 ∷ two_from 1 ∷ []) → ⊥
twice a = let l = a.0 (two_from 1) (inl refl) in absurd (omega (arith, l))

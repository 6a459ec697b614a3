-- How many of the heard texts are markers: so many as there are markers in what places tell of a history.
use Rattle.std.proofs.Common.{◌≡◌, ℕ, ◌+◌, ◌-◌, Bool, true, false, Option, Some, None, List, [], ◌∷◌, ◌++◌, refl, ap, arith}
use Rattle.std.specs.Prelude.{filter, length, ◌&&◌, if◌then◌else◌}
use Rattle.std.specs.List.{AllZip}
use Rattle.std.proofs.lemmas.Bool.{le-ltb}
use Rattle.std.proofs.lemmas.List.{length-append, length-map}
use Rattle.wire_spec.specs.Packets.{Arrival, has_text}
use Rattle.stream_spec.specs.Numbering.{Numbered, numbered, first_number, used, has_number}
use Rattle.stream_spec.specs.Hearing.{missing_between, marker, is_marked, new_texts, piece, heard_over, heard, is_packet_of}
use Rattle.stream_spec.specs.History.{History, Placed, Lawful, Come, places}
use Rattle.stream_spec.specs.Kept.{Item, Marker, Block, has_place, is_above, has_marker, blocks_of, items_of, kept_over, kept, least_place, is_entry_of, texts, text_of}
use Rattle.stream_spec.proofs.Gaps.{none_missing}
use Rattle.stream_spec.proofs.Blocks.{Walk, walk_of, carried}
use Rattle.stream_spec.proofs.Matched.{Matches}
use Rattle.stream_spec.proofs.Walks.{same_tests, pairs_filter, walk_is, first_place, first_seq, beside, first_beside, are_places}
use Rattle.view_spec.specs.Markers.{markers_over, marker_count, new_texts_over, new_texts_heard, markers_in}

abbrev pub one_if : Bool → ℕ
one_if b = if b then 1 else 0

-- ---- markers and new texts are all that is heard
-- with its marker and without
pub piece_length : (f : ℕ → Bool) (first : ℕ) (prev : Option Numbered) (b : Numbered) → length (piece f first prev b) ≡ one_if (is_marked f first prev b) + length (new_texts prev b)
piece_length f first prev b = go (is_marked f first prev b)
  where
    go : (t : Bool) → length ((if t then marker ∷ [] else []) ++ new_texts prev b) ≡ one_if t + length (new_texts prev b)
    go true = omega arith
    go false = omega arith

heard_length : (f : ℕ → Bool) (first : ℕ) (prev : Option Numbered) (bs : List Numbered) → length (heard_over f first prev bs) ≡ markers_over f first prev bs + length (new_texts_over prev bs)
heard_length f first prev [] = refl
heard_length f first prev (b ∷ bs) =
    let r = heard_length f first (Some b) bs in
    omega (arith, r, piece_length f first prev b, length-append (piece f first prev b) (heard_over f first (Some b) bs), length-append (new_texts prev b) (new_texts_over (Some b) bs))

pub all_heard : (wait : ℕ) (a : List Arrival) (s : ℕ) → length (heard wait a s) ≡ marker_count wait a s + length (new_texts_heard wait a s)
all_heard wait a s = heard_length (has_number (used wait (numbered a))) (first_number 0 (numbered a)) None (filter (is_packet_of s) (used wait (numbered a)))

-- where no number is missing there is no marker
abbrev all_there : ℕ → Bool
all_there n = true

between_none : (m n : ℕ) → missing_between all_there m n ≡ 0
between_none m n = none_missing all_there (m + 1) (n - (m + 1)) (λ k l u. refl)

unmarked : (first : ℕ) (prev : Option Numbered) (b : Numbered) → is_marked all_there first prev b ≡ false
unmarked first None b = rw (between_none first b.number, le-ltb (length b.packet.older) 0 (omega arith)) refl
unmarked first (Some a) b = rw (between_none a.number b.number, le-ltb (length b.packet.older) 0 (omega arith)) refl

no_markers : (first : ℕ) (prev : Option Numbered) (bs : List Numbered) → markers_over all_there first prev bs ≡ 0
no_markers first prev [] = refl
no_markers first prev (b ∷ bs) =
    let bare : one_if (is_marked all_there first prev b) ≡ 0 = ap one_if (unmarked first prev b) in
    omega (arith, bare, no_markers first (Some b) bs)

-- ---- markers and blocks are all that is kept
markers_joined : (xs ys : List Item) → markers_in (xs ++ ys) ≡ markers_in xs + markers_in ys
markers_joined [] ys = omega arith
markers_joined (Marker ∷ xs) ys = omega (arith, markers_joined xs ys)
markers_joined (Block x ∷ xs) ys = markers_joined xs ys

none_marked : (prev : Option Placed) (ys : List Placed) → markers_in (blocks_of prev ys) ≡ 0
none_marked prev [] = refl
none_marked prev (y ∷ ys) = go (is_above prev y && has_text y.text) (none_marked prev ys)
  where
    go : (t : Bool) → markers_in (blocks_of prev ys) ≡ 0 → markers_in ((if t then Block y ∷ [] else []) ++ blocks_of prev ys) ≡ 0
    go true e = e
    go false e = e

unmarked_place : (least : ℕ) (prev : Option Placed) (b : Placed) → has_marker all_there least prev b ≡ false
unmarked_place least None b = rw (between_none least b.place, le-ltb b.generations 0 (omega arith)) refl
unmarked_place least (Some a) b = rw (between_none a.place b.place, le-ltb b.generations 0 (omega arith)) refl

items_length : (h : History) (g : ℕ → Bool) (least : ℕ) (prev : Option Placed) (b : Placed) → length (items_of h g least prev b) ≡ markers_in (items_of h g least prev b) + length (blocks_of prev (carried h b))
items_length h g least prev b = go (has_marker g least prev b) (none_marked prev (carried h b))
  where
    go : (t : Bool) → markers_in (blocks_of prev (carried h b)) ≡ 0 → length ((if t then Marker ∷ [] else []) ++ blocks_of prev (carried h b)) ≡ markers_in ((if t then Marker ∷ [] else []) ++ blocks_of prev (carried h b)) + length (blocks_of prev (carried h b))
    go true e = omega (arith, e)
    go false e = omega (arith, e)

bare_items : (h : History) (least : ℕ) (prev : Option Placed) (b : Placed) → items_of h all_there least prev b ≡ blocks_of prev (carried h b)
bare_items h least prev b = rw (unmarked_place least prev b) refl

kept_length : (h : History) (g : ℕ → Bool) (least : ℕ) (prev : Option Placed) (bs : List Placed) → length (kept_over h g least prev bs) ≡ markers_in (kept_over h g least prev bs) + length (kept_over h all_there least prev bs)
kept_length h g least prev [] = refl
kept_length h g least prev (b ∷ bs) =
    let r = kept_length h g least (Some b) bs in
    let bare : length (items_of h all_there least prev b) ≡ length (blocks_of prev (carried h b)) = ap length (bare_items h least prev b) in
    omega (
      arith,
      r,
      bare,
      items_length h g least prev b,
      markers_joined (items_of h g least prev b) (kept_over h g least (Some b) bs),
      length-append (items_of h g least prev b) (kept_over h g least (Some b) bs),
      length-append (items_of h all_there least prev b) (kept_over h all_there least (Some b) bs),
    )

-- ---- so as many as are told
-- what is heard of these packets is what their places tell, with the missing ones and as if none were missing
over_is : (h : History) (law : Lawful h) (p d s : ℕ) (f g : ℕ → Bool) (first least : ℕ) (us : List Numbered) (xs : List Placed) → ((n k : ℕ) → n + p ≡ k + d → f n ≡ g k) → first + p ≡ least + d
    → Walk h s None xs → AllZip (Matches h p d) us xs → markers_over f first None us ≡ markers_in (kept_over h g least None xs)
over_is h law p d s f g first least us xs e z w q =
    let one : heard_over f first None us ≡ texts (kept_over h g least None xs) = walk_is h law p d s f g first least None None us xs e z tt w q in
    let bare : heard_over all_there first None us ≡ texts (kept_over h all_there least None xs) = walk_is h law p d s all_there all_there first least None None us xs (λ n k t. refl) z tt w q in
    omega (
      arith,
      heard_length f first None us,
      heard_length all_there first None us,
      no_markers first None us,
      kept_length h g least None xs,
      ap length one,
      ap length bare,
      length-map (kept_over h g least None xs) text_of,
      length-map (kept_over h all_there least None xs) text_of,
    )

pub markers_kept : (wait : ℕ) (h : History) → Lawful h → (a : List Arrival) → Come h a → (s : ℕ) → marker_count wait a s ≡ markers_in (kept h (places wait h a) s)
markers_kept wait h law [] c s = refl
markers_kept wait h law (a ∷ before) c s =
    let all = a ∷ before in
    let pairs = beside wait h all c in
    over_is h law (first_place h all) (first_seq all) s (has_number (used wait (numbered all))) (has_place (places wait h all)) (first_number 0 (numbered all)) (least_place (places wait h all))
    (filter (is_packet_of s) (used wait (numbered all))) (filter (is_entry_of s) (places wait h all)) (same_tests h (first_place h all) (first_seq all) (used wait (numbered all)) (places wait h all) pairs) (first_beside wait h a before c)
    (walk_of h (places wait h all) s (are_places wait h all c)) (pairs_filter h (first_place h all) (first_seq all) s (used wait (numbered all)) (places wait h all) pairs)

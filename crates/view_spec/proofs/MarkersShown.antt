-- Each marker that is heard is shown, and each U+FFFD that was typed.
use Rattle.std.proofs.Common.{◌≡◌, ℕ, ◌+◌, Bool, true, false, Option, Some, None, List, [], ◌∷◌, ◌++◌, refl, sym, ap, ◌∙◌, arith}
use Rattle.std.specs.Prelude.{filter, length, if◌then◌else◌}
use Rattle.std.specs.List.{concat}
use Rattle.std.specs.Str.{chars}
use Rattle.std.specs.Char.{encode_utf8}
use Rattle.std.proofs.lemmas.List.{append_assoc, length-append}
use Rattle.std.proofs.lemmas.List.Elements.{filter-append}
use Rattle.std.proofs.lemmas.Str.{chars-append}
use Rattle.wire_spec.specs.Packets.{Arrival, AreTextArrivals}
use Rattle.stream_spec.specs.Numbering.{Numbered, numbered, used, has_number, first_number}
use Rattle.stream_spec.specs.Hearing.{AreHeardTexts, heard, heard_over, is_marked, is_packet_of, marker, new_texts, piece}
use Rattle.stream_spec.proofs.HeardTexts.{heard_texts, heard_utf8, utf8_concat, all_append}
use Rattle.view_spec.specs.Characters.{class_of, is_marker}
use Rattle.view_spec.specs.Shown as text
use Rattle.view_spec.proofs.Parts.{markers_seen}
use Rattle.view_spec.specs.Markers.{marker_count, markers_over, shown_markers, new_texts_heard, new_texts_over, typed_markers}
use Rattle.view_spec.proofs.Markers.{one_if}

-- ---- texts one behind the other
front_texts : (xs ys : List (List ℕ)) → AreHeardTexts (xs ++ ys) → AreHeardTexts xs
front_texts [] ys a = tt
front_texts (x ∷ xs) ys a = (a.0, a.1, front_texts xs ys a.2)

back_texts : (xs ys : List (List ℕ)) → AreHeardTexts (xs ++ ys) → AreHeardTexts ys
back_texts [] ys a = a
back_texts (x ∷ xs) ys a = back_texts xs ys a.2

concat_append : (xs ys : List (List ℕ)) → concat (xs ++ ys) ≡ concat xs ++ concat ys
concat_append [] ys = refl
concat_append (x ∷ xs) ys = ap (λ l. x ++ l) (concat_append xs ys) ∙ sym (append_assoc x (concat xs) (concat ys))

markers_append : (xs ys : List ℕ) → text.marker_count (xs ++ ys) ≡ text.marker_count xs + text.marker_count ys
markers_append xs ys = ap length (filter-append (λ c. is_marker (class_of c)) xs ys) ∙ length-append _ _

typed_append : (xs ys : List (List ℕ)) → AreHeardTexts (xs ++ ys) → typed_markers (xs ++ ys) ≡ typed_markers xs + typed_markers ys
typed_append xs ys a =
    ap (λ l. text.marker_count (chars l)) (concat_append xs ys)
    ∙ (ap text.marker_count (chars-append (concat xs) (concat ys) (utf8_concat xs (front_texts xs ys a))) ∙ markers_append (chars (concat xs)) (chars (concat ys)))

one_marker : typed_markers (marker ∷ []) ≡ 1
unfolding chars encode_utf8 class_of
one_marker = refl

no_marker : typed_markers [] ≡ 0
unfolding chars
no_marker = refl

-- ---- what packets add
marked : (t : Bool) → typed_markers (if t then marker ∷ [] else []) ≡ one_if t
marked true = one_marker
marked false = no_marker

in_piece : (f : ℕ → Bool) (first : ℕ) (prev : Option Numbered) (b : Numbered) → AreHeardTexts (piece f first prev b) → typed_markers (piece f first prev b) ≡ one_if (is_marked f first prev b) + typed_markers (new_texts prev b)
in_piece f first prev b a =
    typed_append (if is_marked f first prev b then marker ∷ [] else []) (new_texts prev b) a
    ∙ ap (λ n. n + typed_markers (new_texts prev b)) (marked (is_marked f first prev b))

new_front : (f : ℕ → Bool) (first : ℕ) (prev : Option Numbered) (b : Numbered) → AreHeardTexts (piece f first prev b) → AreHeardTexts (new_texts prev b)
new_front f first prev b a = back_texts (if is_marked f first prev b then marker ∷ [] else []) (new_texts prev b) a

new_all : (f : ℕ → Bool) (first : ℕ) (prev : Option Numbered) (bs : List Numbered) → AreHeardTexts (heard_over f first prev bs) → AreHeardTexts (new_texts_over prev bs)
new_all f first prev [] a = tt
new_all f first prev (b ∷ bs) a =
    all_append (new_texts prev b) (new_texts_over (Some b) bs)
    (new_front f first prev b (front_texts (piece f first prev b) (heard_over f first (Some b) bs) a))
    (new_all f first (Some b) bs (back_texts (piece f first prev b) (heard_over f first (Some b) bs) a))

in_heard : (f : ℕ → Bool) (first : ℕ) (prev : Option Numbered) (bs : List Numbered) → AreHeardTexts (heard_over f first prev bs)
    → typed_markers (heard_over f first prev bs) ≡ markers_over f first prev bs + typed_markers (new_texts_over prev bs)
in_heard f first prev [] a = omega (arith, no_marker)
in_heard f first prev (b ∷ bs) a =
    let front = front_texts (piece f first prev b) (heard_over f first (Some b) bs) a in
    let back = back_texts (piece f first prev b) (heard_over f first (Some b) bs) a in
    let whole = typed_append (piece f first prev b) (heard_over f first (Some b) bs) a in
    let one = in_piece f first prev b front in
    let rest = in_heard f first (Some b) bs back in
    let new = typed_append (new_texts prev b) (new_texts_over (Some b) bs) (all_append (new_texts prev b) (new_texts_over (Some b) bs) (new_front f first prev b front) (new_all f first (Some b) bs back)) in
    omega (arith, whole, one, rest, new)

pub all_shown : (wait : ℕ) (a : List Arrival) (s : ℕ) → AreTextArrivals a → shown_markers (text.shown (concat (heard wait a s))) ≡ marker_count wait a s + typed_markers (new_texts_heard wait a s)
all_shown wait a s t =
    markers_seen (concat (heard wait a s)) (heard_utf8 wait a s t)
    ∙ in_heard (has_number (used wait (numbered a))) (first_number 0 (numbered a)) None (filter (is_packet_of s) (used wait (numbered a))) (heard_texts wait a s t)

-- A text is cut into pieces that are together the text, between characters.
use Rattle.std.proofs.Common.{◌≡◌, ℕ, zero, suc, ◌-◌, ◌<◌, ◌≤◌, Bool, true, false, cond, List, [], ◌∷◌, ◌++◌, length, length-append, take, drop, refl, ap, subst, sym, ◌∙◌, arith, append-nil as nil}
use Rattle.std.specs.Prelude.{◌==◌, min, nat_le, IsUtf8}
use Rattle.std.specs.List.{AllByRecursion, concat}
use Rattle.std.proofs.Math.Seq.{take-append_seam}
use Rattle.std.proofs.Math.Utf8.{scalar, scalars, encode, encodes}
use Rattle.std.proofs.lemmas.Bool.{eqb-true, eqb-false, leb-true, leb-false, le-leb, lt-leb}
use Rattle.std.proofs.lemmas.Str.{length-encode, len_utf8_bounds}
use Rattle.wire_spec.specs.Packets.{has_text}
use Rattle.stream_spec.specs.Hearing.{marker, text_list}
use Rattle.stream_spec.specs.Typed.{last_end, whole_front}
use Rattle.stream_spec.proofs.Typing.{last_end_le, length_of_front, front_fits}
use Rattle.stream_spec.proofs.Closing.{longest}
use Rattle.mixer_spec.specs.Pieces.{IsCutting, cut_at, pieces_within, pieces}
use Rattle.stream_spec.proofs.Plain.{list_whole, longest_front}
use Rattle.wire_spec.proofs.Plain.{first_true}

-- ---- lists
take_drop : (k : ℕ) (xs : List ℕ) → take k xs ++ drop k xs ≡ xs
take_drop zero xs = refl
take_drop (suc k) [] = refl
take_drop (suc k) (x ∷ xs) = ap (λ ys. x ∷ ys) (take_drop k xs)

taken_short : (k : ℕ) (xs : List ℕ) → length (take k xs) ≤ k
taken_short zero xs = omega arith
taken_short (suc k) [] = omega arith
taken_short (suc k) (x ∷ xs) = let r = taken_short k xs in omega arith

dropped_short : (k : ℕ) (xs : List ℕ) → length (drop k xs) ≤ length xs - k
dropped_short zero xs = omega arith
dropped_short (suc k) [] = omega arith
dropped_short (suc k) (x ∷ xs) = let r = dropped_short k xs in omega arith

some_taken : (k : ℕ) (xs : List ℕ) → 0 < k → 0 < length xs → has_text (take k xs) ≡ true
some_taken zero xs p q = absurd (omega arith)
some_taken (suc k) [] p q = absurd (omega arith)
some_taken (suc k) (x ∷ xs) p q = refl

-- ---- where a text is cut
at_some : (n : ℕ) (text : List ℕ) → 0 < n → 0 < cut_at n text
at_some n text p = go (last_end text n == 0) refl
  where
    go : (b : Bool) → (last_end text n == 0) ≡ b → 0 < cond b n (last_end text n)
    go true e = p
    go false e = let d = eqb-false (last_end text n) 0 e in omega arith

at_most : (n : ℕ) (text : List ℕ) → cut_at n text ≤ n
at_most n text = go (last_end text n == 0) (last_end_le text n)
  where
    go : (b : Bool) → last_end text n ≤ n → cond b n (last_end text n) ≤ n
    go true l = omega arith
    go false l = l

-- ---- together they are the text
within_whole : (fuel n : ℕ) (text : List ℕ) → concat (pieces_within fuel n text) ≡ text
within_whole zero n text = list_whole text
within_whole (suc fuel) n text = go (nat_le (length text) n) (within_whole fuel n (drop (cut_at n text) text))
  where
    go : (b : Bool) → concat (pieces_within fuel n (drop (cut_at n text) text)) ≡ drop (cut_at n text) text
        → concat (cond b (text_list text) (take (cut_at n text) text ∷ pieces_within fuel n (drop (cut_at n text) text))) ≡ text
    go true h = list_whole text
    go false h = ap (λ ys. take (cut_at n text) text ++ ys) h ∙ take_drop (cut_at n text) text

abbrev HasTexts : List (List ℕ) → Type 0
HasTexts ts = AllByRecursion (λ (piece : List ℕ). has_text piece ≡ true) ts

list_some : (text : List ℕ) → HasTexts (text_list text)
list_some [] = tt
list_some (x ∷ text) = (refl, tt)

within_some : (fuel n : ℕ) (text : List ℕ) → 0 < n → HasTexts (pieces_within fuel n text)
within_some zero n text p = list_some text
within_some (suc fuel) n text p = go (nat_le (length text) n) refl (within_some fuel n (drop (cut_at n text) text) p)
  where
    go : (b : Bool) → nat_le (length text) n ≡ b → HasTexts (pieces_within fuel n (drop (cut_at n text) text))
        → HasTexts (cond b (text_list text) (take (cut_at n text) text ∷ pieces_within fuel n (drop (cut_at n text) text)))
    go true e h = list_some text
    go false e h = let l = leb-false (length text) n e in (some_taken (cut_at n text) text (at_some n text p) (omega arith), h)

marker_stays : (n : ℕ) → 3 ≤ n → pieces n marker ≡ marker ∷ []
marker_stays n l = ap (λ b. cond b (text_list marker) (take (cut_at n marker) marker ∷ pieces_within 2 n (drop (cut_at n marker) marker))) (le-leb 3 n l)

pub whole_law : (n : ℕ) → 4 ≤ n → IsCutting (pieces n)
whole_law n p = record {
  whole = λ text. within_whole (length text) n text;
  some = λ text. within_some (length text) n text (omega arith);
  marker_whole = marker_stays n (omega arith);
}

-- ---- none is too long
abbrev pub AreShort : ℕ → List (List ℕ) → Type 0
AreShort n ts = AllByRecursion (λ (piece : List ℕ). length piece ≤ n) ts

list_short : (n : ℕ) (text : List ℕ) → length text ≤ n → AreShort n (text_list text)
list_short n [] l = tt
list_short n (x ∷ text) l = (l, tt)

within_short : (fuel n : ℕ) (text : List ℕ) → 0 < n → length text ≤ fuel → AreShort n (pieces_within fuel n text)
within_short zero n text p l = list_short n text (omega arith)
within_short (suc fuel) n text p l =
    let d = dropped_short (cut_at n text) text in
    let s = at_some n text p in
    go (nat_le (length text) n) refl (within_short fuel n (drop (cut_at n text) text) p (omega arith))
  where
    go : (b : Bool) → nat_le (length text) n ≡ b → AreShort n (pieces_within fuel n (drop (cut_at n text) text))
        → AreShort n (cond b (text_list text) (take (cut_at n text) text ∷ pieces_within fuel n (drop (cut_at n text) text)))
    go true e h = list_short n text (leb-true (length text) n e)
    go false e h = let t = taken_short (cut_at n text) text in let m = at_most n text in (omega arith, h)

pub short_law : (n : ℕ) (text : List ℕ) → 4 ≤ n → AreShort n (pieces n text)
short_law n text p = within_short (length text) n text (omega arith) (omega arith)

-- ---- a short text is left
pub stays_law : (n : ℕ) (text : List ℕ) → length text ≤ n → pieces n text ≡ text_list text
stays_law n [] l = refl
stays_law n (x ∷ text) l =
    ap (λ b. cond b (text_list (x ∷ text)) (take (cut_at n (x ∷ text)) (x ∷ text) ∷ pieces_within (length text) n (drop (cut_at n (x ∷ text)) (x ∷ text))))
    (le-leb (suc (length text)) n l)

-- ---- a long text is cut once, and then its rest
within_nil : (fuel n : ℕ) → pieces_within fuel n [] ≡ []
within_nil zero n = refl
within_nil (suc fuel) n = ap (λ b. cond b (text_list []) (take (cut_at n []) [] ∷ pieces_within fuel n (drop (cut_at n []) []))) (le-leb 0 n (omega arith))

same_fuel : (f g n : ℕ) (text : List ℕ) → 0 < n → length text ≤ f → length text ≤ g → pieces_within f n text ≡ pieces_within g n text
same_fuel f g n [] p l m = within_nil f n ∙ sym (within_nil g n)
same_fuel zero g n (x ∷ text) p l m = absurd (omega arith)
same_fuel (suc f) zero n (x ∷ text) p l m = absurd (omega arith)
same_fuel (suc f) (suc g) n (x ∷ text) p l m =
    let d = dropped_short (cut_at n (x ∷ text)) (x ∷ text) in
    let s = at_some n (x ∷ text) p in
    ap (λ ts. cond (nat_le (length (x ∷ text)) n) (text_list (x ∷ text)) (take (cut_at n (x ∷ text)) (x ∷ text) ∷ ts))
    (same_fuel f g n (drop (cut_at n (x ∷ text)) (x ∷ text)) p (omega (arith, d, s, l)) (omega (arith, d, s, m)))

pub step_law : (n : ℕ) (text : List ℕ) → 0 < n → n < length text → pieces n text ≡ take (cut_at n text) text ∷ pieces n (drop (cut_at n text) text)
step_law n [] p l = absurd (omega arith)
step_law n (x ∷ text) p l =
    let d = dropped_short (cut_at n (x ∷ text)) (x ∷ text) in
    let s = at_some n (x ∷ text) p in
    ap (λ b. cond b (text_list (x ∷ text)) (take (cut_at n (x ∷ text)) (x ∷ text) ∷ pieces_within (length text) n (drop (cut_at n (x ∷ text)) (x ∷ text)))) (lt-leb (length (x ∷ text)) n l)
    ∙ ap (λ ts. take (cut_at n (x ∷ text)) (x ∷ text) ∷ ts)
    (same_fuel (length text) (length (drop (cut_at n (x ∷ text)) (x ∷ text))) n (drop (cut_at n (x ∷ text)) (x ∷ text)) p (omega (arith, d, s)) (omega arith))

-- ---- between characters
first_character : (n : ℕ) (cs octets : List ℕ) → 4 ≤ n → scalars cs ≡ true → encodes cs ≡ octets → 0 < length octets → IsUtf8 octets → 1 ≤ length (whole_front n octets)
first_character n [] octets f s e h u = let none : length octets ≡ 0 = ap (λ (xs : List ℕ). length xs) (sym e) in absurd (omega arith)
first_character n (c ∷ cs) octets f s e h u =
    let k = length (encode c) in
    let size = length-encode c in
    let bounds = len_utf8_bounds c in
    let one : IsUtf8 (encode c) = (c ∷ [], (first_true (scalar c) (scalars cs) s, nil (encode c))) in
    let cut : take k octets ≡ encode c = ap (take k) (sym e) ∙ take-append_seam (encode c) (encodes cs) in
    let all = ap (λ (xs : List ℕ). length xs) e in
    let longest = longest_front n k octets u (omega (arith, bounds.1)) (omega (arith, length-append (encode c) (encodes cs))) (subst IsUtf8 (sym cut) one) in
    omega (arith, bounds.0)

some_front : (n : ℕ) (octets : List ℕ) → 4 ≤ n → IsUtf8 octets → 0 < length octets → 1 ≤ length (whole_front n octets)
some_front n octets f u h = first_character n u.0 octets f u.1.0 u.1.1 h u

-- the front and the rest of a long text
record Parts (n : ℕ) (text : List ℕ) : Type 0 where
  front : IsUtf8 (take (cut_at n text) text)
  rest : IsUtf8 (drop (cut_at n text) text)

parts : (n : ℕ) (text : List ℕ) → 4 ≤ n → IsUtf8 text → n < length text → Parts n text
parts n text f u l =
    let least : min n (length text) ≡ n = omega arith in
    let fits = front_fits n text u in
    let b = last_end_le text n in
    let is : whole_front n text ≡ take (last_end text n) text = ap (λ k. take (last_end text k) text) least in
    let size : length (whole_front n text) ≡ last_end text n = ap (λ (xs : List ℕ). length xs) is ∙ length_of_front (last_end text n) text (omega arith) in
    let some = some_front n text f u (omega arith) in
    let at : cut_at n text ≡ last_end text n = go (last_end text n == 0) refl (omega arith) in
    record {
      front = subst (λ k. IsUtf8 (take k text)) (sym at) (subst IsUtf8 is fits.front_is);
      rest = subst (λ k. IsUtf8 (drop k text)) (sym at) (subst (λ k. IsUtf8 (drop k text)) size fits.rest_is);
    }
  where
    go : (b : Bool) → (last_end text n == 0) ≡ b → 1 ≤ last_end text n → cond b n (last_end text n) ≡ last_end text n
    go true e s = absurd (omega (arith, eqb-true (last_end text n) 0 e))
    go false e s = refl

list_text : (text : List ℕ) → IsUtf8 text → AllByRecursion IsUtf8 (text_list text)
list_text [] u = tt
list_text (x ∷ text) u = (u, tt)

within_text : (fuel n : ℕ) (text : List ℕ) → 4 ≤ n → IsUtf8 text → AllByRecursion IsUtf8 (pieces_within fuel n text)
within_text zero n text f u = list_text text u
within_text (suc fuel) n text f u = go (nat_le (length text) n) refl (λ r. within_text fuel n (drop (cut_at n text) text) f r)
  where
    go : (b : Bool) → nat_le (length text) n ≡ b → (IsUtf8 (drop (cut_at n text) text) → AllByRecursion IsUtf8 (pieces_within fuel n (drop (cut_at n text) text)))
        → AllByRecursion IsUtf8 (cond b (text_list text) (take (cut_at n text) text ∷ pieces_within fuel n (drop (cut_at n text) text)))
    go true e h = list_text text u
    go false e h = let p = parts n text f u (leb-false (length text) n e) in (p.front, h p.rest)

pub text_law : (n : ℕ) (text : List ℕ) → 4 ≤ n → IsUtf8 text → AllByRecursion IsUtf8 (pieces n text)
text_law n text f u = within_text (length text) n text f u

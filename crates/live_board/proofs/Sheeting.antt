-- A sheet of which nothing came, and a sheet after changes.
use Rattle.std.proofs.Common.{◌≡◌, ◌≢◌, ◌≤◌, ◌<◌, ℕ, zero, suc, ◌+◌, Bool, true, false, Option, Some, List, [], ◌∷◌, ◌++◌, length, set, get_or, refl, sym, ap, ◌∙◌, subst, arith, length-append, append_assoc, append-nil, if◌then◌else◌, eq-eqb, ne_eqb}
use Rattle.std.specs.Prelude.{slice_get, nat_lt}
use Rattle.std.proofs.lemmas.List.{length-set}
use Rattle.std.proofs.lemmas.Bool.{ltb-false}
use Rattle.std.proofs.lemmas.List.Sums.{sum_by-append}
use native.Mathlib.Decide.{ℕ_discrete, dec_le}
use Rattle.rtt_base.specs.declared.records.Chunk.{Chunk}
use Rattle.live_board.specs.Folds.{Shown, octets_in, text_of, fold_of}
use Rattle.live_board.proofs.Folding.{fold_here, fold_elsewhere}
use Rattle.live_board.specs.Histories.{octets_of}
use Rattle.live_board.specs.Sheets.{IsSheetOf, grown, grown_or_same, put, added, added_all}
use Rattle.stream_spec.proofs.Plain.{get_set_same}
use Rattle.std.proofs.lemmas.Option.{slice_get_past as get_outside, slice_get-get_or as get_inside}

get_set_other : {X : Type 0} (xs : List X) (i : ℕ) (x : X) (j : ℕ) → i ≢ j → slice_get (set xs i x) j ≡ slice_get xs j
get_set_other [] i x j ne = refl
get_set_other (y ∷ ys) zero x zero ne = absurd (ne refl)
get_set_other (y ∷ ys) zero x (suc j) ne = refl
get_set_other (y ∷ ys) (suc i) x zero ne = refl
get_set_other (y ∷ ys) (suc i) x (suc j) ne = get_set_other ys i x j (λ e. ne (ap suc e))

get_before : {X : Type 0} (xs : List X) (x : X) (j : ℕ) → j < length xs → slice_get (xs ++ x ∷ []) j ≡ slice_get xs j
get_before [] x j h = absurd (omega arith)
get_before (y ∷ ys) x zero h = refl
get_before (y ∷ ys) x (suc j) h = get_before ys x j (omega arith)

get_last : {X : Type 0} (xs : List X) (x : X) (j : ℕ) → j ≡ length xs → slice_get (xs ++ x ∷ []) j ≡ Some x
get_last [] x zero e = refl
get_last [] x (suc j) e = absurd (omega arith)
get_last (y ∷ ys) x zero e = absurd (omega arith)
get_last (y ∷ ys) x (suc j) e = get_last ys x j (omega arith)

-- a sheet of no leg
pub no_leg : IsSheetOf 0 [] []
no_leg = record { wide = refl; shows = λ leg h. absurd (omega arith) }

-- one leg more, of which nothing came
pub leg_more : (legs : ℕ) (sheet : List Shown) (t : Shown) → IsSheetOf legs [] sheet → t ≡ record { total = 0; last = [] } → IsSheetOf (legs + 1) [] (sheet ++ t ∷ [])
leg_more legs sheet t is blank = record {
  wide = let w = is.wide in let l = length-append sheet (t ∷ []) in omega (arith, w, l);
  shows = λ leg h. let w = is.wide in elim (ℕ_discrete leg legs) as (λ _. slice_get (sheet ++ t ∷ []) leg ≡ Some (fold_of leg [])) [
    | yes e ↦ get_last sheet t leg (e ∙ sym w) ∙ ap Some blank
    | no n ↦ let below : leg < legs = omega (arith, h, n) in get_before sheet t leg (omega (arith, w, below)) ∙ is.shows leg below
  ];
}

-- a change of no leg
add_nowhere : (c : Chunk) (old : List Shown) → length old ≤ c.source → (legs : ℕ) (changes : List Chunk) → IsSheetOf legs changes old → IsSheetOf legs (changes ++ c ∷ []) old
add_nowhere c old past legs changes is = record {
  wide = is.wide;
  shows = λ leg h. is.shows leg h ∙ ap Some (sym (fold_elsewhere leg changes c (λ e. let w = is.wide in absurd (omega (arith, h, e, w, past)))));
}

-- a change of a leg
add_here : (c : Chunk) (old : List Shown) → c.source < length old → (legs : ℕ) (changes : List Chunk) → IsSheetOf legs changes old
    → IsSheetOf legs (changes ++ c ∷ []) (set old c.source (grown (fold_of c.source changes) c.text))
add_here c old within legs changes is =
    let u : Shown = grown (fold_of c.source changes) c.text in
    let now : u ≡ fold_of c.source (changes ++ c ∷ []) = sym (fold_here changes c) in
    record {
      wide = length-set old c.source u ∙ is.wide;
      shows = λ leg h. elim (ℕ_discrete c.source leg) as (λ _. slice_get (set old c.source u) leg ≡ Some (fold_of leg (changes ++ c ∷ []))) [
        | yes e ↦ subst (λ (n : ℕ). slice_get (set old c.source u) n ≡ Some (fold_of n (changes ++ c ∷ []))) e (get_set_same old c.source u within ∙ ap Some now)
        | no n ↦ get_set_other old c.source u leg n ∙ is.shows leg h ∙ ap Some (sym (fold_elsewhere leg changes c n))
      ];
    }

octets_in_few : (leg : ℕ) (c : Chunk) → length (octets_in leg c) ≤ length c.text
octets_in_few leg c = elim (ℕ_discrete c.source leg) as (λ _. length (octets_in leg c) ≤ length c.text) [
  | yes e ↦ let same : length (octets_in leg c) ≡ length c.text = ap (λ b. length (if b then c.text else [])) (eq-eqb c.source leg e) in omega (arith, same)
  | no n ↦ let none : length (octets_in leg c) ≡ 0 = ap (λ b. length (if b then c.text else [])) (ne_eqb c.source leg n) in omega (arith, none)
]

-- a leg has no more octets than all
pub text_few : (leg : ℕ) (changes : List Chunk) → length (text_of leg changes) ≤ octets_of changes
text_few leg [] = omega arith
text_few leg (c ∷ cs) =
    let l = length-append (octets_in leg c) (text_of leg cs) in
    let a = octets_in_few leg c in
    let b = text_few leg cs in
    let whole : length (text_of leg (c ∷ cs)) ≡ length (octets_in leg c ++ text_of leg cs) = refl in
    let all : octets_of (c ∷ cs) ≡ octets_of (c ∷ []) + octets_of cs = sum_by-append (λ (x : Chunk). length x.text) (c ∷ []) cs in
    let one : octets_of (c ∷ []) ≡ 0 + length c.text = refl in
    omega (arith, whole, all, one, l, a, b)

-- what can be counted is shown
one_more : (legs : ℕ) (changes : List Chunk) (c : Chunk) (sheet : List Shown) → IsSheetOf legs changes sheet → octets_of (changes ++ c ∷ []) < 18446744073709551616
    → IsSheetOf legs (changes ++ c ∷ []) (added sheet c)
one_more legs changes c sheet is fits = elim (dec_le (length sheet) c.source) as (λ _. IsSheetOf legs (changes ++ c ∷ []) (added sheet c)) [
  | yes past ↦ subst (λ (o : Option Shown). IsSheetOf legs (changes ++ c ∷ []) (put sheet c o)) (sym (get_outside sheet c.source past)) (add_nowhere c sheet past legs changes is)
  | no inside ↦
      let w = is.wide in
      let within : c.source < length sheet = omega (arith, inside) in
      let t : Shown = fold_of c.source changes in
      let there : slice_get sheet c.source ≡ Some t = is.shows c.source (omega (arith, within, w)) in
      let all : length (text_of c.source (changes ++ c ∷ [])) ≡ t.total + length c.text = ap (λ (s : Shown). s.total) (fold_here changes c) in
      let few = text_few c.source (changes ++ c ∷ []) in
      let below : t.total + length c.text < 18446744073709551616 = omega (arith, all, few, fits) in
      let counted : nat_lt (t.total + length c.text) 18446744073709551616 ≡ true = is_below _ _ below in
      let same : grown_or_same t c.text ≡ grown t c.text = ap (λ b. if b then grown t c.text else t) counted in
      subst (λ (o : Option Shown). IsSheetOf legs (changes ++ c ∷ []) (put sheet c o)) (sym there)
      (subst (λ (u : Shown). IsSheetOf legs (changes ++ c ∷ []) (set sheet c.source u)) (sym same) (add_here c sheet within legs changes is))
]
  where
    go : (a b : ℕ) → a < b → (t : Bool) → nat_lt a b ≡ t → nat_lt a b ≡ true
    go a b h true e = e
    go a b h false e = absurd (let l = ltb-false a b e in omega (arith, l, h))

    is_below : (a b : ℕ) → a < b → nat_lt a b ≡ true
    is_below a b h = go a b h (nat_lt a b) refl

-- changes that can be counted are shown
pub all_more : (legs : ℕ) (changes more : List Chunk) (sheet : List Shown) → IsSheetOf legs changes sheet → octets_of (changes ++ more) < 18446744073709551616
    → IsSheetOf legs (changes ++ more) (added_all sheet more)
all_more legs changes [] sheet is fits = subst (λ (l : List Chunk). IsSheetOf legs l sheet) (sym (append-nil changes)) is
all_more legs changes (c ∷ cs) sheet is fits =
    let moved : (changes ++ c ∷ []) ++ cs ≡ changes ++ c ∷ cs = append_assoc changes (c ∷ []) cs in
    let all : octets_of ((changes ++ c ∷ []) ++ cs) < 18446744073709551616 = subst (λ (l : List Chunk). octets_of l < 18446744073709551616) (sym moved) fits in
    let split = sum_by-append (λ (x : Chunk). length x.text) (changes ++ c ∷ []) cs in
    let one : octets_of (changes ++ c ∷ []) < 18446744073709551616 = omega (arith, split, all) in
    subst (λ (l : List Chunk). IsSheetOf legs l (added_all sheet (c ∷ cs))) moved (all_more legs (changes ++ c ∷ []) cs (added sheet c) (one_more legs changes c sheet is one) all)

set_back : {X : Type 0} (xs : List X) (i : ℕ) (d : X) → set xs i (get_or xs i d) ≡ xs
set_back [] i d = refl
set_back (x ∷ xs) zero d = refl
set_back (x ∷ xs) (suc i) d = ap (λ l. x ∷ l) (set_back xs i d)

-- a change that cannot be counted
pub add_full : (sheet : List Shown) (c : Chunk) (t : Shown) → c.source < length sheet → t ≡ get_or sheet c.source t → nat_lt (t.total + length c.text) 18446744073709551616 ≡ false → sheet ≡ added sheet c
add_full sheet c t within read full =
    let there : slice_get sheet c.source ≡ Some t = get_inside sheet c.source t within ∙ ap Some (sym read) in
    let same : grown_or_same t c.text ≡ t = ap (λ b. if b then grown t c.text else t) full in
    let back : set sheet c.source t ≡ sheet = ap (λ (u : Shown). set sheet c.source u) read ∙ set_back sheet c.source t in
    sym (ap (λ (o : Option Shown). put sheet c o) there ∙ (ap (λ (u : Shown). set sheet c.source u) same ∙ back))

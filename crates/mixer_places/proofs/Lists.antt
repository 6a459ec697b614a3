-- Small facts on lists.
use Rattle.std.proofs.Common.{◌≡◌, ℕ, zero, suc, ◌+◌, ◌-◌, ◌≤◌, min, inl, inr, List, [], ◌∷◌, ◌++◌, length, map, set, take, drop, refl, ap, sym, ◌∙◌, arith, Option, Some}
use Rattle.std.specs.Prelude.{slice_get, slice_index, sum, unwrap_or}
use Rattle.std.proofs.lemmas.Option.{unwrap_or-slice_get}
use Rattle.std.proofs.lemmas.List.{take_all, drop_min, length-drop}
use Rattle.std.proofs.lemmas.List.Sums.{sum_by-take-drop}
use Rattle.std.proofs.lemmas.Bool.{cases_lt}

pub number_at : (xs : List ℕ) (i : ℕ) (o : Option ℕ) → o ≡ slice_get xs i → unwrap_or o 0 ≡ slice_index xs i
number_at xs i o e = ap (λ (p : Option ℕ). unwrap_or p 0) e ∙ unwrap_or-slice_get xs i 0

pub drop-append : {X : Type 0} (n : ℕ) (xs ys : List X) → drop n (xs ++ ys) ≡ drop n xs ++ drop (n - length xs) ys
drop-append zero [] ys = refl
drop-append zero (x ∷ xs) ys = let e : 0 - length (x ∷ xs) ≡ 0 = omega arith in rw e refl
drop-append (suc n) [] ys = let e : suc n - 0 ≡ suc n = omega arith in rw e refl
drop-append (suc n) (x ∷ xs) ys = let e : suc n - suc (length xs) ≡ n - length xs = omega arith in rw e (drop-append n xs ys)

pub take-append : {X : Type 0} (n : ℕ) (xs ys : List X) → take n (xs ++ ys) ≡ take n xs ++ take (n - length xs) ys
take-append zero xs ys = let e : 0 - length xs ≡ 0 = omega arith in rw e refl
take-append (suc n) [] ys = let e : suc n - 0 ≡ suc n = omega arith in rw e refl
take-append (suc n) (x ∷ xs) ys = let e : suc n - suc (length xs) ≡ n - length xs = omega arith in rw e (ap (λ zs. x ∷ zs) (take-append n xs ys))

-- a part of a list that lies in two pieces
pub parts_between : (whole first second : List ℕ) (from end a b : ℕ) → first ++ second ≡ whole → from ≤ end → a ≡ min from (length first) → b ≡ min end (length first)
    → take (b - a) (drop a first) ++ take ((end - b) - (from - a)) (drop (from - a) second) ≡ take (end - from) (drop from whole)
parts_between whole first second from end a b e l p q =
    let f = length first in
    let one : take (b - a) (drop a first) ≡ take (end - from) (drop from first) =
    ap (λ (n : ℕ). take (b - a) (drop n first)) p ∙ (ap (λ (zs : List ℕ). take (b - a) zs) (drop_min from first) ∙ elim (cases_lt f end) [
      | inl past ↦
          take_all (b - a) (drop from first) (omega (arith, length-drop from first)) ∙ sym (take_all (end - from) (drop from first) (omega (arith, length-drop from first)))
      | inr within ↦ let n : b - a ≡ end - from = omega arith in rw n refl
    ]) in
    let at : from - a ≡ from - f = omega arith in
    let size : (end - b) - (from - a) ≡ (end - from) - length (drop from first) = omega (arith, length-drop from first) in
    let two : take ((end - b) - (from - a)) (drop (from - a) second) ≡ take ((end - from) - length (drop from first)) (drop (from - f) second) = rw (size, at) refl in
    ap (λ (zs : List ℕ). zs ++ take ((end - b) - (from - a)) (drop (from - a) second)) one
    ∙ (ap (λ (zs : List ℕ). take (end - from) (drop from first) ++ zs) two
    ∙ (sym (take-append (end - from) (drop from first) (drop (from - f) second))
    ∙ ap (λ (zs : List ℕ). take (end - from) zs) (sym (drop-append from first second) ∙ ap (λ (zs : List ℕ). drop from zs) e)))

pub sum-take-drop : (n : ℕ) (xs : List ℕ) → sum (take n xs) + sum (drop n xs) ≡ sum xs
sum-take-drop n xs = sum_by-take-drop (λ x. x) xs n

pub get_set_same : {X : Type 0} (xs : List X) (i : ℕ) (x y : X) → slice_get (set xs i x) i ≡ Some y → y ≡ x
get_set_same [] i x y e = absurd (cc e)
get_set_same (z ∷ xs) zero x y e = cc e
get_set_same (z ∷ xs) (suc i) x y e = get_set_same xs i x y e

pub get_map : {X Y : Type 0} (f : X → Y) (xs : List X) (i : ℕ) (y : Y) → slice_get (map f xs) i ≡ Some y → (x : X) × (slice_get xs i ≡ Some x) × (y ≡ f x)
get_map f [] i y e = absurd (cc e)
get_map f (x ∷ xs) zero y e = (x, refl, cc e)
get_map f (x ∷ xs) (suc i) y e = get_map f xs i y e

-- Fronts of what is pending.
use Rattle.std.proofs.Common.{◌≡◌, ◌≤◌, ℕ, zero, suc, ◌+◌, Option, Some, IsSome, List, [], ◌∷◌, ◌++◌, length, take, refl, sym, ap, ◌∙◌, subst, arith, append_assoc}
use Rattle.std.proofs.lemmas.List.{append-nil}
use Rattle.std.proofs.Math.Seq.{take-append-add}
use Rattle.recorded_links.specs.Writing.{IsFurther}
use Rattle.wire_spec.proofs.Plain.{front_of_more as longer}

-- a front has at most as many octets as there are
pub record Capped (n : ℕ) (xs : List ℕ) : Type 0 where
  pub many : ℕ
  pub few : many ≤ length xs
  pub same : take n xs ≡ take many xs

pub capped : (n : ℕ) (xs : List ℕ) → Capped n xs
capped zero xs = record { many = zero; few = omega arith; same = refl }
capped (suc n) [] = record { many = zero; few = omega arith; same = refl }
capped (suc n) (x ∷ xs) =
    let c = capped n xs in
    record { many = suc c.many; few = omega (arith, c.few); same = ap (λ (l : List ℕ). x ∷ l) c.same }

-- a front behind what went is a front
pub further : (took pending more less : List ℕ) (n : ℕ) (ys : List ℕ) → IsFurther took pending more less
    → (m : ℕ) × (more ++ take n less ≡ took ++ take m (pending ++ ys))
further took pending more less n ys f =
    let l = longer n less ys in (
      length f.went + l.0,
      ap (λ (a : List ℕ). a ++ take n less) f.taken
          ∙ (append_assoc took f.went (take n less)
          ∙ ap (λ (a : List ℕ). took ++ a)
          (ap (λ (a : List ℕ). f.went ++ a) l.1
          ∙ (sym (take-append-add f.went (less ++ ys) l.0)
          ∙ (ap (take (length f.went + l.0)) (sym (append_assoc f.went less ys))
          ∙ ap (λ (a : List ℕ). take (length f.went + l.0) (a ++ ys)) (sym f.rest))))),
    )

all_of : (xs : List ℕ) → take (length xs) xs ≡ xs
all_of [] = refl
all_of (x ∷ xs) = ap (λ (l : List ℕ). x ∷ l) (all_of xs)

-- ---- what lies there

-- a file was handed back when all that was pending was in it
pub left_whole : (before mid after : List ℕ → Option (List ℕ)) (name other took more pending : List ℕ)
    → other ≡ name → more ≡ took ++ pending → mid ≡ before
    → (IsSome (mid other) → after other ≡ Some more)
    → IsSome (before name) → (n : ℕ) × (after name ≡ Some (took ++ take n pending))
left_whole before mid after name other took more pending named went same kept there =
    let was : IsSome (mid other) = subst (λ (n : List ℕ). IsSome (mid n)) (sym named) (subst (λ (c : List ℕ → Option (List ℕ)). IsSome (c name)) (sym same) there) in
    (length pending, ap after (sym named) ∙ (kept was ∙ ap Some (went ∙ ap (λ (l : List ℕ). took ++ l) (sym (all_of pending)))))

-- it broke off in what was pending yet
pub left_further : (before mid after : List ℕ → Option (List ℕ)) (name other took pending more less kept ys : List ℕ)
    → other ≡ name → IsFurther took pending more less → kept ≡ less → mid ≡ before
    → (IsSome (mid other) → (n : ℕ) × (after other ≡ Some (more ++ take n kept)))
    → IsSome (before name) → (n : ℕ) × (after name ≡ Some (took ++ take n (pending ++ ys)))
left_further before mid after name other took pending more less kept ys named f so same left there =
    let was : IsSome (mid other) = subst (λ (n : List ℕ). IsSome (mid n)) (sym named) (subst (λ (c : List ℕ → Option (List ℕ)). IsSome (c name)) (sym same) there) in
    let l = left was in
    let m = further took pending more less l.0 ys f in
    (m.0, ap after (sym named) ∙ (l.1 ∙ ap Some (ap (λ (a : List ℕ). more ++ take l.0 a) so ∙ m.1)))

-- what a file took and what is pending stay together
pub joins : (took pending more less : List ℕ) → IsFurther took pending more less → more ++ less ≡ took ++ pending
joins took pending more less f =
    ap (λ (a : List ℕ). a ++ less) f.taken ∙ (append_assoc took f.went less ∙ ap (λ (a : List ℕ). took ++ a) (sym f.rest))

pub all_went : (took pending more less : List ℕ) → more ≡ took ++ pending → less ≡ [] → IsFurther took pending more less
all_went took pending more less went empty = record {
  went = pending;
  taken = went;
  rest = sym (append-nil pending) ∙ ap (λ (a : List ℕ). pending ++ a) (sym empty);
}

pub none_went : (took pending : List ℕ) → IsFurther took pending took pending
none_went took pending = record { went = []; taken = sym (append-nil took); rest = refl }

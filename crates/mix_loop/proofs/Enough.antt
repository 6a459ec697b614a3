-- What was said in items.
use Rattle.std.proofs.Common.{◌≡◌, ◌≤◌, ℕ, ◌+◌, true, false, List, [], ◌∷◌, ◌++◌, ◌||◌, refl, ap, ◌∙◌, arith}
use Rattle.std.specs.Prelude.{Bool}
use Rattle.live_leg.specs.LinkLegs.{Item, has_fault}
use Rattle.live_leg.specs.Items.{signals_in}
use Rattle.live_leg.proofs.Pacing.{fault_append}
use Rattle.mix_loop.specs.Handed.{HasSignals, IsEnough, has_end, is_end}
use Rattle.std.proofs.Math.Bool.{or-true as or_some}

pub signals_append : (xs ys : List Item) → signals_in (xs ++ ys) ≡ signals_in xs + signals_in ys
signals_append [] ys = omega arith
signals_append (x ∷ xs) ys = let r = signals_append xs ys in omega (arith, r)

pub or_none : (b : Bool) → (b || false) ≡ b
or_none true = refl
or_none false = refl

pub end_both : (xs ys : List Item) → has_end (xs ++ ys) ≡ (has_end xs || has_end ys)
end_both [] ys = refl
end_both (x ∷ xs) ys = ap (λ b. is_end x || b) (end_both xs ys) ∙ go (is_end x)
  where
    go : (b : Bool) → (b || (has_end xs || has_end ys)) ≡ ((b || has_end xs) || has_end ys)
    go true = refl
    go false = refl

-- behind these the end is not
pub end_none : (xs ys : List Item) → has_end ys ≡ false → has_end (xs ++ ys) ≡ has_end xs
end_none xs ys e = end_both xs ys ∙ (ap (λ b. has_end xs || b) e ∙ or_none (has_end xs))

pub end_append : (xs ys : List Item) → has_end xs ≡ true → has_end (xs ++ ys) ≡ true
end_append xs ys e = end_both xs ys ∙ ap (λ b. b || has_end ys) e

pub fault_before : (xs ys : List Item) → has_fault xs ≡ true → has_fault (xs ++ ys) ≡ true
fault_before xs ys e = fault_append xs ys ∙ ap (λ b. b || has_fault ys) e

pub fault_behind : (xs ys : List Item) → has_fault ys ≡ true → has_fault (xs ++ ys) ≡ true
fault_behind xs ys e = fault_append xs ys ∙ (ap (λ b. has_fault xs || b) e ∙ or_some (has_fault xs))

pub signals_more : (n m : ℕ) (xs ys : List Item) → m ≤ n + signals_in ys → HasSignals n xs → HasSignals m (xs ++ ys)
signals_more n m xs ys l e =
    let a = signals_append xs ys in
    let k : n ≤ signals_in xs = e in
    let r : m ≤ signals_in (xs ++ ys) = omega (arith, l, k, a) in
    r

-- what is enough was said so often
pub has_signals : (blocked : Bool) (n : ℕ) (items : List Item) → IsEnough blocked n items → HasSignals n items
has_signals true n items e = e
has_signals false n items e = e.0

-- The least time of what is held.
use Rattle.std.proofs.Common.{◌≡◌, ℕ, ◌+◌, ◌≤◌, inl, inr, List, [], ◌∷◌, refl, ap, ◌∙◌, arith}
use Rattle.std.specs.Prelude.{min}
use Rattle.stream_spec.specs.Numbering.{Numbered}
use Rattle.stream_spec.specs.Lists.{In}
use Rattle.stream_spec.specs.Ready.{least}
use Rattle.reorder_buffer.specs.States.{oldest_from}
use Rattle.reorder_buffer.proofs.Timing.{waits_of}

oldest_min : (s t : ℕ) (xs : List Numbered) → oldest_from (min s t) xs ≡ min s (oldest_from t xs)
oldest_min s t [] = refl
oldest_min s t (x ∷ xs) = let e : min (min s t) x.time ≡ min s (min t x.time) = omega arith in ap (λ n. oldest_from n xs) e ∙ oldest_min s (min t x.time) xs

pub oldest_member : (t : ℕ) (xs : List Numbered) (v : Numbered) → In v xs → oldest_from t xs ≤ v.time
oldest_member t [] v i = absurd i
oldest_member t (x ∷ xs) v (inl e) = let s : min t x.time ≡ min x.time t = omega arith in let m = oldest_min x.time t xs in rw s (omega (arith, m, ap (λ (z : Numbered). z.time) e))
oldest_member t (x ∷ xs) v (inr i) = oldest_member (min t x.time) xs v i

least_oldest : (wait : ℕ) (x : Numbered) (xs : List Numbered) → least (waits_of wait (x ∷ xs)) ≡ oldest_from x.time xs + wait
least_oldest wait x [] = refl
least_oldest wait x (y ∷ ys) = let r = least_oldest wait y ys in let m = oldest_min x.time y.time ys in omega (arith, r, m)

-- the first moment at which one of these came `wait` ago
pub least_is_oldest : (wait t : ℕ) (x : Numbered) (xs : List Numbered) → x.time ≤ t → least (waits_of wait (x ∷ xs)) ≡ oldest_from t (x ∷ xs) + wait
least_is_oldest wait t x xs l = let same : x.time ≡ min t x.time = omega arith in least_oldest wait x xs ∙ ap (λ n. oldest_from n xs + wait) same

-- How many chunks fit.
use Rattle.std.proofs.Common.{◌≡◌, ℕ, suc, ◌+◌, ◌-◌, ◌<◌, ◌≤◌, cond, List, [], ◌∷◌, length, take, drop, get_or, refl, ap, ◌∙◌, arith}
use Rattle.std.specs.Prelude.{slice_index, sum}
use Rattle.std.proofs.lemmas.Bool.{le-leb, lt-leb}
use Rattle.std.proofs.lemmas.List.{drop_more, take_more, length-drop, get_or-drop}
use Rattle.std.proofs.lemmas.List.Sums.{sum_by-append}
use Rattle.mixer_places.specs.Rings.{Chunks, chunks_between, count_fitting}

-- the first of those between two indices
pub between_first : (c : Chunks) (k end : ℕ) → k < end → end ≤ length c.lengths → chunks_between c k end ≡ slice_index c.lengths k ∷ chunks_between c (k + 1) end
between_first c k end l m =
    let n : end - k ≡ suc (end - (k + 1)) = omega arith in
    rw n (ap (λ (zs : List ℕ). take (suc (end - (k + 1))) zs) (drop_more c.lengths k 0 (omega arith)))

pub between_none : (c : Chunks) (k end : ℕ) → end ≤ k → chunks_between c k end ≡ []
between_none c k end l = let n : end - k ≡ 0 = omega arith in rw n refl

-- and the last
pub sum_between : (c : Chunks) (from k : ℕ) → from ≤ k → k < length c.lengths → sum (chunks_between c from (k + 1)) ≡ sum (chunks_between c from k) + slice_index c.lengths k
sum_between c from k l m =
    let n : (k + 1) - from ≡ (k - from) + 1 = omega arith in
    let within : k - from < length (drop from c.lengths) = omega (arith, length-drop from c.lengths) in
    let at : get_or (drop from c.lengths) (k - from) 0 ≡ slice_index c.lengths k =
    get_or-drop from c.lengths (k - from) 0 ∙ (let e : from + (k - from) ≡ k = omega arith in ap (λ (i : ℕ). get_or c.lengths i 0) e) in
    ap (λ (i : ℕ). sum (take i (drop from c.lengths))) n
    ∙ (ap (λ (zs : List ℕ). sum zs) (take_more (drop from c.lengths) (k - from) 0 within)
    ∙ omega (arith, sum_by-append (λ x. x) (take (k - from) (drop from c.lengths)) (get_or (drop from c.lengths) (k - from) 0 ∷ []), at))

pub fits_more : (room n : ℕ) (ns : List ℕ) → n ≤ room → count_fitting room (n ∷ ns) ≡ suc (count_fitting (room - n) ns)
fits_more room n ns l = ap (λ b. cond b (suc (count_fitting (room - n) ns)) 0) (le-leb n room l)

pub fits_none : (room n : ℕ) (ns : List ℕ) → room < n → count_fitting room (n ∷ ns) ≡ 0
fits_none room n ns l = ap (λ b. cond b (suc (count_fitting (room - n) ns)) 0) (lt-leb n room l)

-- Arrivals that are sorted are what comes by the plan.
use Rattle.std.proofs.Common.{◌≡◌, ℕ, ◌+◌, ◌<◌, ◌≤◌, Bool, true, false, cond, ◌⊎◌, inl, inr, List, [], ◌∷◌, length, refl, ap, sym, ◌∙◌, subst, arith, add-one}
use Rattle.std.specs.Prelude.{◌==◌, ◌&&◌, ◌||◌, suc, nat_lt, if◌then◌else◌, slice_index_or, sum_by}
use Rattle.std.specs.declared.cmp.Ordering.{Ordering}
use Rattle.std.specs.declared.cmp.Ordering.TheVariants.{Less, Equal, Greater}
use Rattle.std.specs.Ordering.{is_lt, nat_cmp, ordering_then}
use Rattle.std.specs.List.Sorted.{IsPermutation, IsSorted}
use Rattle.std.proofs.lemmas.Bool.Decides.{nat_tests}
use Rattle.std.proofs.lemmas.List.Sorted.{sum_by-IsPermutation}
use Rattle.std.proofs.lemmas.List.Sums.{sum_by-cons}
use Rattle.file_spec.specs.declared.conference_lines.PlanLine.{PlanLine}
use Rattle.stream_spec.specs.Lists.{In}
use Rattle.mixer_spec.specs.Arrives.{Copy, arrives, InOrder, is_same, is_sooner, times_in}
use Rattle.mixer_spec.proofs.OneOrder.{only_law}
use Rattle.playback.specs.declared.copies.Arrival.{Arrival}
use Rattle.playback.specs.Arriving.{AreCopies, copies_of, copy_of}

-- how the code compares two arrivals
abbrev pub order : Arrival → Arrival → Ordering
order a b = ordering_then (nat_cmp a.at b.at) (nat_cmp a.index b.index)

same_test : (p q r s : Bool) → is_lt (ordering_then (cond p Less (cond q Equal Greater)) (cond r Less (cond s Equal Greater))) ≡ (p || (q && r))
same_test true q r s = refl
same_test false true true s = refl
same_test false true false true = refl
same_test false true false false = refl
same_test false false r s = refl

-- c comes at the moment of d with a number that is no greater, or before it
abbrev pub NotAfter : Copy → Copy → Type 0
NotAfter c d = (c.at < d.at) ⊎ ((c.at ≡ d.at) × (c.index ≤ d.index))

tells : (c d : Copy) → is_sooner d c ≡ false → NotAfter c d
tells c d e = grind (arith, nat_tests)

pub told : (c d : Copy) → NotAfter c d → is_sooner d c ≡ false
told c d (inl l) = grind (arith, nat_tests)
told c d (inr r) = let p = r.0 in let q = r.1 in grind (arith, nat_tests)

between : (c d e : Copy) → NotAfter c d → NotAfter d e → NotAfter c e
between c d e (inl a) (inl b) = inl (omega arith)
between c d e (inl a) (inr b) = inl (omega (arith, b.0))
between c d e (inr a) (inl b) = inl (omega (arith, a.0))
between c d e (inr a) (inr b) = inr (a.0 ∙ b.0, omega (arith, a.1, b.1))

-- none is sooner than the one before it
abbrev pub Rises : List Copy → Type 0
Rises [] = Unit {0}
Rises (c ∷ []) = Unit {0}
Rises (c ∷ d ∷ ds) = (is_sooner d c ≡ false) × Rises (d ∷ ds)

after_first : (c : Copy) (cs : List Copy) → Rises (c ∷ cs) → (d : Copy) → In d cs → is_sooner d c ≡ false
after_first c [] r d i = absurd i
after_first c (e ∷ es) r d (inl is) = subst (λ (x : Copy). is_sooner x c ≡ false) (sym is) r.0
after_first c (e ∷ es) r d (inr i) = told c d (between c e d (tells c e r.0) (tells e d (after_first e es r.1 d i)))

rest_rises : (c : Copy) (cs : List Copy) → Rises (c ∷ cs) → Rises cs
rest_rises c [] r = tt
rest_rises c (d ∷ ds) r = r.1

pub in_order_of : (cs : List Copy) → Rises cs → InOrder cs
in_order_of [] r = tt
in_order_of (c ∷ cs) r = (after_first c cs r, in_order_of cs (rest_rises c cs r))

rising : (xs : List Arrival) → IsSorted order xs → Rises (copies_of xs)
rising [] s = tt
rising (a ∷ []) s = tt
rising (a ∷ b ∷ xs) s =
    let first : is_lt (order b a) ≡ false = s 0 a (omega arith) (omega arith) in
    (sym (same_test (nat_lt b.at a.at) (b.at == a.at) (nat_lt b.index a.index) (b.index == a.index)) ∙ first, rising (b ∷ xs) (λ k d low high. rest k d high))
  where
    rest : (k : ℕ) (d : Arrival) → k + 1 < length (b ∷ xs) → is_lt (order (slice_index_or (b ∷ xs) (k + 1) d) (slice_index_or (b ∷ xs) k d)) ≡ false
    rest k d high = rw add-one (rw add-one at (s (suc k) d (omega arith) (omega arith)))

times_is : (c : Copy) (xs : List Arrival) → times_in c (copies_of xs) ≡ sum_by (λ (a : Arrival). if is_same c (copy_of a) then 1 else 0) xs
times_is c [] = refl
times_is c (a ∷ xs) =
    ap (λ (n : ℕ). (if is_same c (copy_of a) then 1 else 0) + n) (times_is c xs) ∙ sym (sum_by-cons (λ (b : Arrival). if is_same c (copy_of b) then 1 else 0) a xs)

-- all copies in the order of their moments and numbers are what comes
pub sorted_arrives : (plan : List PlanLine) (t : ℕ) (sent : List ℕ) (all xs : List Arrival) → AreCopies plan t sent all → IsPermutation all xs → IsSorted order xs → copies_of xs ≡ arrives plan t sent
sorted_arrives plan t sent all xs are moved sorted =
    only_law plan t sent (copies_of xs) (in_order_of (copies_of xs) (rising xs sorted)) (λ c. times_is c xs ∙ (sum_by-IsPermutation (λ (a : Arrival). if is_same c (copy_of a) then 1 else 0) all xs moved ∙ (sym (times_is c all) ∙ are c)))

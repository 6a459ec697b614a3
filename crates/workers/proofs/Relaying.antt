-- Each move keeps the rule of a queue.
use Rattle.std.proofs.Common.{◌≡◌, ◌≢◌, ◌≤◌, ◌<◌, ℕ, zero, suc, true, false, true≢false, List, [], ◌∷◌, ◌++◌, length, set, sym, refl, ap, ◌∙◌, subst, ⊎_elim, append_assoc, arith, length-append}
use mathlib.Core.Option.{some, some-ne-none}
use lib.ListN.{get_elem?}
use Rattle.crossbeam_queue.specs.Fifo.{Pushes, Pops, Forks, Merges, Learns}
use Rattle.crossbeam_queue.proofs.Lists.{at_set, at_snoc}
use Rattle.workers.specs.declared.limits.TheConstants.{MOST_QUEUED}
use Rattle.workers.specs.declared.rule.PassHistory.{PassHistory}
use Rattle.workers.specs.Rule.{known, Fits, Relayed}

module _ {Q : Type 0} where
  at_end : (l : List (PassHistory Q)) (a b : PassHistory Q) (j : ℕ) → get_elem? l j ≢ some b → get_elem? (l ++ a ∷ []) j ≡ some b → j ≡ length l
  at_end [] a b zero n e = refl
  at_end [] a b (suc j) n e = absurd (some-ne-none b (sym e))
  at_end (x ∷ xs) a b zero n e = absurd (n e)
  at_end (x ∷ xs) a b (suc j) n e = ap suc (at_end xs a b j n e)

  abbrev All : (ℕ → PassHistory Q → Type 0) → List (PassHistory Q) → Type 0
  All F views = (port : ℕ) (v : PassHistory Q) → get_elem? views port ≡ some v → F port v

  all_set : (F : ℕ → PassHistory Q → Type 0) (views : List (PassHistory Q)) (port : ℕ) (w : PassHistory Q) → F port w → ((j : ℕ) (u : PassHistory Q) → j ≢ port → get_elem? views j ≡ some u → F j u) → All F (set views port w)
  all_set F views port w mine others j u e = ⊎_elim (λ (x : (j ≡ port) × (w ≡ u)). subst (λ (y : ℕ × PassHistory Q). F y.0 y.1) (λ i. (sym x.0 i, x.1 i)) mine)
      (λ (x : (j ≢ port) × (get_elem? views j ≡ some u)). others j u x.0 x.1) (at_set views port j w u e)

  snoc_fits : (items : List Q) (x : Q) (n : ℕ) → length items < n → n ≡ MOST_QUEUED → length (items ++ x ∷ []) ≤ MOST_QUEUED
  snoc_fits items x n h e = omega (arith, length-append items (x ∷ []))

  tail_fits : (items : List Q) (x : Q) → length (x ∷ items) ≤ MOST_QUEUED → length items ≤ MOST_QUEUED
  tail_fits items x h = omega arith

  pub begins : Relayed {Q = Q} [] (known true true [] [] ∷ [])
  begins = (0, 0, [], [], refl, all_set (Fits 0 0 [] []) (known true true [] [] ∷ []) 0 (known true true [] []) ((λ _. (refl, refl)), λ _. (refl, refl)) (λ j u other e. absurd (other (at_end [] _ u j (λ x. some-ne-none u (sym x)) e))), omega arith)

  pub sends : (n port : ℕ) (v : PassHistory Q) (x : Q) → n ≡ MOST_QUEUED → v.pushes ≡ true → Pushes Relayed n port v x (λ w. w ≡ known v.pushes v.pops (v.pushed ++ x ∷ []) v.popped)
  sends n port v x places may items views room h at = let w : PassHistory Q = known v.pushes v.pops (v.pushed ++ x ∷ []) v.popped in let mine = h.5 port v at in let pushed = h.2 ++ x ∷ [] in (
    w,
    (
      h.0,
      h.1,
      pushed,
      h.3,
      ap (λ l. l ++ x ∷ []) h.4 ∙ append_assoc h.3 items (x ∷ []),
      all_set (Fits h.0 h.1 pushed h.3) views port w ((λ _. ((mine.0 may).0, ap (λ l. l ++ x ∷ []) (mine.0 may).1)), mine.1)
          (λ j u other e. ((λ p. absurd (other (((h.5 j u e).0 p).0 ∙ sym (mine.0 may).0))), (h.5 j u e).1)),
      snoc_fits items x n room places,
    ),
    refl,
  )

  pub gets : (port : ℕ) (v : PassHistory Q) → v.pops ≡ true → Pops Relayed port v (λ x w. w ≡ known v.pushes v.pops v.pushed (v.popped ++ x ∷ []))
  gets port v may x items views h at = let w : PassHistory Q = known v.pushes v.pops v.pushed (v.popped ++ x ∷ []) in let mine = h.5 port v at in let popped = h.3 ++ x ∷ [] in (
    w,
    (
      h.0,
      h.1,
      h.2,
      popped,
      h.4 ∙ sym (append_assoc h.3 (x ∷ []) items),
      all_set (Fits h.0 h.1 h.2 popped) views port w (mine.0, λ _. ((mine.1 may).0, ap (λ l. l ++ x ∷ []) (mine.1 may).1))
          (λ j u other e. ((h.5 j u e).0, λ p. absurd (other (((h.5 j u e).1 p).0 ∙ sym (mine.1 may).0)))),
      tail_fits items x h.6,
    ),
    refl,
  )

  pub forks : (port : ℕ) (v : PassHistory Q) → v.pushes ≡ true → v.pops ≡ true → Forks Relayed port v (known true false v.pushed []) (known false true [] v.popped)
  forks port v a b items views h at = let l : PassHistory Q = known true false v.pushed [] in let r : PassHistory Q = known false true [] v.popped in let mine = h.5 port v at in let vs : List (PassHistory Q) = set views port l in
      let Old : ℕ → PassHistory Q → Type 0 = λ j u. (u.pushes ≡ true → (j ≡ h.0) × (u.pushed ≡ h.2)) × (u.pops ≢ true) in
      let old : All Old vs = all_set Old views port l ((λ _. mine.0 a), λ p. true≢false (sym p)) (λ j u other e. ((h.5 j u e).0, λ p. other (((h.5 j u e).1 p).0 ∙ sym (mine.1 b).0))) in (
        h.0,
        length vs,
        h.2,
        h.3,
        h.4,
        (λ j u e. ⊎_elim (λ x. ((old j u x).0, λ p. absurd ((old j u x).1 p)))
            (λ (is : r ≡ u). ((λ p. absurd (true≢false (sym (ap (λ (y : PassHistory Q). y.pushes) is ∙ p)))), λ p. (at_end vs r u j (λ x. (old j u x).1 p) e, ap (λ (y : PassHistory Q). y.popped) (sym is) ∙ (mine.1 b).1))) (at_snoc vs r u j e)),
        h.6,
      )

  pub merges : (port : ℕ) (v : PassHistory Q) (other : ℕ) (u : PassHistory Q) → v.pushes ≡ true → u.pops ≡ true → Merges Relayed port v other u (known true true v.pushed u.popped) (known false false [] [])
  merges port v other u a b items views h at two at' = let both : PassHistory Q = known true true v.pushed u.popped in let mine = h.5 port v at in let vs : List (PassHistory Q) = set views port both in
      let was : get_elem? views other ≡ some u = ⊎_elim (λ x. absurd (two x.0)) (λ x. x.1) (at_set views port other both u at') in let theirs = (h.5 other u was).1 b in
      let Now : ℕ → PassHistory Q → Type 0 = λ j y. j ≢ other → Fits h.0 port h.2 h.3 j y in
      let now : All Now vs = all_set Now views port both (λ _. ((λ _. mine.0 a), λ _. (refl, theirs.1))) (λ j y _ e apart. ((h.5 j y e).0, λ p. absurd (apart (((h.5 j y e).1 p).0 ∙ sym theirs.0)))) in
      (h.0, port, h.2, h.3, h.4, all_set (Fits h.0 port h.2 h.3) vs other (known false false [] []) ((λ p. absurd (true≢false (sym p))), λ p. absurd (true≢false (sym p))) (λ j y apart e. now j y e apart), h.6)

  pub tells_push : (port : ℕ) (v : PassHistory Q) → v.pushes ≡ true → Learns Relayed port v (λ items. (before : List Q) × (v.pushed ≡ before ++ items))
  tells_push port v a items views h at = (h.3, ((h.5 port v at).0 a).1 ∙ h.4)

  pub tells_pop : (port : ℕ) (v : PassHistory Q) → v.pops ≡ true → Learns Relayed port v (λ items. (all : List Q) × (all ≡ v.popped ++ items))
  tells_pop port v b items views h at = (h.2, h.4 ∙ ap (λ l. l ++ items) (sym ((h.5 port v at).1 b).1))

  pub totals : (port : ℕ) (v : PassHistory Q) → v.pushes ≡ true → v.pops ≡ true → Learns Relayed port v (λ items. (v.pushed ≡ v.popped ++ items) × (length items ≤ MOST_QUEUED))
  totals port v a b items views h at = let mine = h.5 port v at in ((mine.0 a).1 ∙ h.4 ∙ ap (λ l. l ++ items) (sym (mine.1 b).1), h.6)

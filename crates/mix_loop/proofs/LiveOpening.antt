-- Ports that are made, one for each place where items are popped.
use Rattle.std.proofs.Common.{◌≡◌, ℕ, List, [], ◌∷◌, ◌++◌, length, inl, inr, ap, sym, subst, ◌∙◌}
use Rattle.std.specs.Prelude.{slice_get}
use Rattle.mix_loop.proofs.Lists.{get_push}
use Rattle.mix_loop.specs.declared.live_ports.LivePort.{LivePort}
use Rattle.mix_loop.specs.Opening.{EachBegun}
use Rattle.mix_loop.specs.LivePorts.{IsBegun}
use Rattle.mix_loop.specs.Walks.{AreAt}

module _ {I : Type 0} where
  abbrev pub inlet_in : LivePort I → I
  inlet_in p = p.inlet

  pub each_none : (ps : List (LivePort I)) → ps ≡ [] → EachBegun ps
  each_none ps none j p e = absurd (cc (ap (λ (l : List (LivePort I)). slice_get l j) (sym none) ∙ e))

  pub each_more : (ps qs : List (LivePort I)) (i : I) (leg : ℕ) (p : LivePort I) → EachBegun ps → leg ≡ length ps → IsBegun i leg p → qs ≡ ps ++ p ∷ [] → EachBegun qs
  each_more ps qs i leg p each at new is j q e = elim (get_push ps p q j (ap (λ (l : List (LivePort I)). slice_get l j) (sym is) ∙ e)) [
    | inl old ↦ each j q old
    | inr r ↦
        let here : IsBegun p.inlet leg p = subst (λ (x : I). IsBegun x leg p) (sym new.is) new in
        subst (λ (n : ℕ). IsBegun q.inlet n q) (at ∙ sym r.0) (subst (λ (x : LivePort I). IsBegun x.inlet leg x) r.1 here)
  ]

  -- so each leg has its number
  pub at_begun : (ps qs : List (LivePort I)) → qs ≡ ps → EachBegun ps → AreAt qs
  at_begun ps qs is each j p e = (each j p (ap (λ (l : List (LivePort I)). slice_get l j) (sym is) ∙ e)).leg_is

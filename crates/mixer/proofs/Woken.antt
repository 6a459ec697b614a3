-- Terminals are woken one by one.
use Rattle.std.proofs.Common.{◌≡◌, ℕ, ◌+◌, inl, inr, Some, List, length-set, set, refl, ap, subst, sym, ◌∙◌, arith}
use Rattle.std.specs.Prelude.{slice_get}
use Rattle.std.proofs.lemmas.Bool.{cases_eq}
use Rattle.mixer_places.proofs.Lists.{get_set_same}
use Rattle.terminal_scheduler.specs.declared.schedulers.TerminalScheduler.{TerminalScheduler}
use Rattle.mixer.specs.Waking.{IsWoken, AreWokenBelow}
use Rattle.mixer_spec.proofs.Lists.{get_set_other}

pub none_woken : (old : List TerminalScheduler) → AreWokenBelow 0 old old
none_woken old = record { count = refl; first = λ j o l g. absurd (omega arith); rest = λ j o l g. g }

pub one_woken : (n : ℕ) (old new : List TerminalScheduler) (p o : TerminalScheduler) → AreWokenBelow n old new → slice_get new n ≡ Some p → IsWoken p o → AreWokenBelow (n + 1) old (set new n o)
one_woken n old new p o h g w = record {
  count = length-set new n o ∙ h.count;
  first = λ j x l e. elim (cases_eq j n) [
    | inl q ↦
        let at : slice_get (set new n o) n ≡ Some x = ap (λ (i : ℕ). slice_get (set new n o) i) (sym q) ∙ e in
        let is : x ≡ o = get_set_same new n o x at in
        (p, ap (λ (i : ℕ). slice_get old i) q ∙ h.rest n p (omega arith) g, subst (λ (y : TerminalScheduler). IsWoken p y) (sym is) w)
    | inr m ↦ h.first j x (omega (arith, l, m)) (sym (get_set_other new n j o m) ∙ e)
  ];
  rest = λ j x l e. h.rest j x (omega arith) (sym (get_set_other new n j o (λ q. omega (arith, q, l))) ∙ e);
}

-- Seats that stay as they are.
use Rattle.std.proofs.Common.{◌≡◌, ℕ, Bool, true, false, true≢false, not, ap, sym, ◌∙◌}
use Rattle.mixer_spec.specs.Setups.{is_before_end}
use Rattle.mix_loop.specs.declared.ports.SeatState.{SeatState}
use Rattle.mix_loop.specs.declared.ports.SeatState.TheVariants.{Listens, Hushed}
use Rattle.mix_loop.specs.declared.ports.Port.{Port}
use Rattle.mix_loop.specs.Ports.{is_away, is_spent, is_to_stop, is_to_leave}

module _ {I F : Type 0} (p : Port I F) (x : SeatState) (is : p.seat ≡ x) where
  pub not_stop : (t : ℕ) → elim x as (λ x. Bool) [ Listens ↦ not (is_before_end t p.stay.until) | _ ↦ false ] ≡ false → is_to_stop t p ≡ false
  not_stop t e = ap (λ (y : SeatState). elim y as (λ x. Bool) [ Listens ↦ not (is_before_end t p.stay.until) | _ ↦ false ]) is ∙ e

  pub not_leave : elim x as (λ x. Bool) [ Hushed ↦ is_spent p | _ ↦ false ] ≡ false → is_to_leave p ≡ false
  not_leave e = ap (λ (y : SeatState). elim y as (λ x. Bool) [ Hushed ↦ is_spent p | _ ↦ false ]) is ∙ e

  pub came : is_away x ≡ false → is_away p.seat ≡ true → ⊥
  came e a = true≢false (sym a ∙ (ap is_away is ∙ e))

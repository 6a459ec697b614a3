use Rattle.std.proofs.Common.{◌≡◌, ◌<◌, ℕ, Some}
use Rattle.std.specs.Prelude.{slice_get}
use Rattle.mix_loop.specs.declared.ports.Port.{Port}
use Rattle.mix_loop.specs.Calm.{IsCalm}
use Rattle.mix_loop.proofs.turns.calm_until.Given as goal

abbrev pub invariant-loop-leg : goal.invariant-loop-leg
invariant-loop-leg g l = (j : ℕ) (p : Port _ _) → j < l.leg → slice_get l.ports j ≡ Some p → (t : ℕ) → t < l.until → IsCalm t p

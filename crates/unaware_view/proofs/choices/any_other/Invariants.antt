use Rattle.std.proofs.Common.{◌≡◌, ◌==◌, ◌&&◌, false, not}
use Rattle.mixer_spec.specs.Rounds.{any_below}
use Rattle.unaware_view.specs.Choices.{is_set}
use Rattle.unaware_view.proofs.choices.any_other.Given as goal

abbrev pub invariant-loop-i : goal.invariant-loop-i
invariant-loop-i l = any_below (λ s. not (s == l.fn.own) && is_set l.fn.flags s) l.i ≡ false

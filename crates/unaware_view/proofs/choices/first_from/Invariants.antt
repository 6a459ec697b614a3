use Rattle.std.proofs.Common.{◌≡◌, ◌-◌}
use Rattle.mixer_spec.specs.Rounds.{first_from}
use Rattle.unaware_view.specs.Choices.{is_set}
use Rattle.unaware_view.proofs.choices.first_from.Given as goal

abbrev pub invariant-loop-i : goal.invariant-loop-i
invariant-loop-i l = first_from (is_set l.fn.flags) l.fn.low (l.fn.high - l.fn.low) ≡ first_from (is_set l.fn.flags) l.i (l.fn.high - l.i)

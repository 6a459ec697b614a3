use Rattle.std.proofs.Common.{◌≡◌, ◌==◌, ◌&&◌, false, not}
use Rattle.mixer_spec.specs.Rounds.{any_below}
use Rattle.mixer_spec.specs.Composed.{is_ago}
use Rattle.unaware_view.specs.Choices.{is_set, since_at}
use Rattle.unaware_view.proofs.choices.any_long.Given as goal

abbrev pub invariant-loop-i : goal.invariant-loop-i
invariant-loop-i l = any_below (λ s. not (s == l.fn.own) && (is_set l.fn.flags s && is_ago l.fn.ms l.fn.now (since_at l.fn.since s))) l.i ≡ false

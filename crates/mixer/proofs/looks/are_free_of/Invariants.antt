use Rattle.std.proofs.Common.{◌≡◌, true, not}
use Rattle.std.specs.Prelude.{◌==◌, ◌||◌}
use Rattle.mixer_spec.specs.Rounds.{all_below}
use Rattle.mixer_spec.specs.Table.{has_work}
use Rattle.mixer.specs.Looks.{OfTables}
use Rattle.mixer.proofs.looks.are_free_of.Given as goal

abbrev pub invariant-loop-terminal : goal.invariant-loop-terminal
invariant-loop-terminal l = OfTables l.schedulers l.slots (λ s table. all_below (λ j. (j == l.leg) || not (has_work s j (table.terminals j) l.leg)) l.terminal ≡ true)

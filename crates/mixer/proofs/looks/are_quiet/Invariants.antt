use Rattle.std.proofs.Common.{◌≡◌, true}
use Rattle.mixer_spec.specs.Rounds.{all_below}
use Rattle.mixer_spec.specs.Table.{is_quiet}
use Rattle.mixer.specs.Looks.{OfTables}
use Rattle.mixer.proofs.looks.are_quiet.Given as goal

abbrev pub invariant-loop-terminal : goal.invariant-loop-terminal
invariant-loop-terminal l = OfTables l.schedulers l.slots (λ s table. all_below (λ j. is_quiet s j (table.terminals j)) l.terminal ≡ true)

use Rattle.std.proofs.Common.{◌≡◌, ℕ, Some, length}
use Rattle.std.specs.Prelude.{slice_get}
use Rattle.terminal_scheduler.specs.declared.schedulers.TerminalScheduler.{TerminalScheduler}
use Rattle.file_spec.specs.Conferences.{meaning_of}
use Rattle.mixer.specs.Making.{IsMade}
use Rattle.mixer.proofs.builders.schedulers_of.Given as goal

abbrev pub invariant-loop-own : goal.invariant-loop-own
invariant-loop-own l = record {
  count : length l.schedulers.items ≡ l.own;
  each : (j : ℕ) (o : TerminalScheduler) → slice_get l.schedulers.items j ≡ Some o → IsMade (meaning_of l.conference) j o;
}

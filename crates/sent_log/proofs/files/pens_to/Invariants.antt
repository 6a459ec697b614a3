use Rattle.std.proofs.Common.{◌≡◌, ℕ, Some, length}
use Rattle.std.specs.Prelude.{slice_get}
use Rattle.sent_log.specs.declared.pens.Pen.{Pen}
use Rattle.sent_log.specs.States.{Sending}
use Rattle.sent_log.specs.Pens.{IsPenTo}
use Rattle.sent_log.proofs.files.pens_to.Given as goal

abbrev pub invariant-loop-terminal : goal.invariant-loop-terminal
invariant-loop-terminal l = record {
  each : length l.pens.items ≡ l.terminal;
  stand : (j : ℕ) (x : Sending) (o : Pen) → slice_get l.log j ≡ Some x → slice_get l.pens.items j ≡ Some o → IsPenTo x o;
}

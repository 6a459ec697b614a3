use Rattle.std.proofs.Common.{◌≡◌, vec_len}
use Rattle.std.specs.Prelude.{All}
use Rattle.sent_log.specs.Runs.{empty_run}
use Rattle.sent_log.proofs.runs.empty_runs.Given as goal

abbrev pub invariant-loop-number : goal.invariant-loop-number
invariant-loop-number l = record {
  count : vec_len l.runs ≡ l._number;
  empty : All (λ run. run ≡ empty_run) l.runs.items;
}

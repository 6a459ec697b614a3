use Rattle.std.proofs.Common.{◌≡◌, ◌++◌, take}
use Rattle.std.specs.List.{concat}
use Rattle.receiver.specs.Steps.{older_since}
use Rattle.receiver.proofs.receivers.append_older.Given as goal

abbrev pub invariant-loop-block : goal.invariant-loop-block
invariant-loop-block l = l.out ≡ l.initial.out ++ concat (older_since l.seen l.timestamp (take l.block-index l.older))

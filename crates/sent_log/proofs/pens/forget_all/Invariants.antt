use Rattle.std.proofs.Common.{◌≡◌, ◌++◌, map, take, drop}
use Rattle.sent_log.specs.Repeats.{anew}
use Rattle.sent_log.proofs.pens.forget_all.Given as goal

abbrev pub invariant-loop-source : goal.invariant-loop-source
invariant-loop-source l = l.sources ≡ map anew (take l.source-index l.fn.sources) ++ drop l.source-index l.fn.sources

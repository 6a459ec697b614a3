use Rattle.std.proofs.Common.{◌<◌, ◌^◌, take}
use Rattle.std.specs.Prelude.{All}
use Rattle.sent_log.proofs.terminals.TerminalLog.has_ssrcs.Given as goal

abbrev pub invariant-loop-source : goal.invariant-loop-source
invariant-loop-source l = All (λ s. s < 2 ^ 32) (take l.source-index l.self.sources.items)

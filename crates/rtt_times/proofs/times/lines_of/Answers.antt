use Rattle.rtt_times.specs.declared.lines.Lines.{Lines}
use Rattle.rtt_times.specs.Found.{IsToldOf}
use Rattle.rtt_times.proofs.Rowing.{some_is}
use Rattle.rtt_times.proofs.Telling.{lines_early}
use Rattle.rtt_times.proofs.times.lines_of.Goals as goal

pub returns-in-Some-clause-early : goal.returns-in-Some-clause-early
returns-in-Some-clause-early c = lines_early c.args.found.now c.in-Some.lines 0 (some_is (λ (lines : Lines). IsToldOf c.args.found.now lines 0) _ c.in-Some.lines c.in-Some.is c.in_ok-lines.ensures) c.requires

use Rattle.rtpdump_io.specs.Reading.{most_answers}
use Rattle.rtt_attend.proofs.Records.{Going}
use Rattle.rtt_attend.proofs.inputs.hear_records.Given as goal

abbrev pub invariant-loop-item : goal.invariant-loop-item
invariant-loop-item g l = Going g.S.Source.tells g.S.Source.left g.S.Source.faults g.S.Source.name l.sender l.initial.reader l.reader l.latest l.said

abbrev pub decreases-loop-item : goal.decreases-loop-item
decreases-loop-item g l = most_answers l.reader

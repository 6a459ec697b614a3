use Rattle.rtpdump_io.specs.Reading.{most_answers}
use Rattle.rtt_check.proofs.Hearing.{Going}
use Rattle.rtt_check.proofs.streams.hear_leg.Given as goal

abbrev pub invariant-loop-item : goal.invariant-loop-item
invariant-loop-item g l = Going g.S.Source.tells g.S.Source.left g.S.Source.faults g.S.Source.name l.leg l.initial.reader l.reader l.so_far.heard l.so_far.first

abbrev pub decreases-loop-item : goal.decreases-loop-item
decreases-loop-item g l = most_answers l.reader

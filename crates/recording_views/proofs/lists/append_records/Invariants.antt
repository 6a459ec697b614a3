use Rattle.rtpdump_io.specs.Reading.{most_answers}
use Rattle.recording_views.proofs.Going.{Going}
use Rattle.recording_views.proofs.lists.append_records.Given as goal

abbrev pub invariant-loop-item : goal.invariant-loop-item
invariant-loop-item g l =
    Going g.S.Source.tells g.S.Source.left g.S.Source.faults g.S.Source.name l.fn.payload_types l.initial.reader l.initial.out l.reader l.out l.records l.lines.payload_types

abbrev pub decreases-loop-item : goal.decreases-loop-item
decreases-loop-item g l = most_answers l.reader

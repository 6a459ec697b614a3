use Rattle.rtpdump_io.specs.Reading.{most_answers}
use Rattle.recording_views.proofs.Writing.{Going}
use Rattle.recording_views.proofs.heard_texts.write_records.Given as goal

abbrev pub invariant-loop-item : goal.invariant-loop-item
invariant-loop-item g l =
    Going (g.W.TextWriter.wrote l.fn.writer) g.S.Source.tells g.S.Source.left g.S.Source.faults g.S.Source.name l.initial.reader l.initial.ear l.initial.out l.reader l.ear l.out

abbrev pub decreases-loop-item : goal.decreases-loop-item
decreases-loop-item g l = most_answers l.reader

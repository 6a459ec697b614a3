use Rattle.rtpdump_io.specs.Reading.{to_come}
use Rattle.recording_views.proofs.Writing.{script_written}
use Rattle.recording_views.proofs.recordings.script_recording.Goals as goal

pub returns-clause-printed : goal.returns-clause-printed
returns-clause-printed g c = λ t.
    script_written c.args.request (to_come g.S.Source.left c.args.reader.now) c.new-out.result c.write_texts.new.out c.new-out.ensures (c.in_ok-write_texts.ensures.written t)

use Rattle.rtpdump_io.specs.Reading.{to_come}
use Rattle.recording_views.proofs.Writing.{whole_written}
use Rattle.recording_views.proofs.heard_texts.write_texts.Goals as goal

pub returns-clause-written : goal.returns-clause-written
returns-clause-written g c = λ t.
    whole_written (g.W.TextWriter.wrote c.args.writer.now) c.args.request g.S.Source.tells (to_come g.S.Source.left c.args.reader.now) c.in_ok-ear.ear c.write_records.new.ear c.args.out.now c.write_records.new.out c.write_rest.new.out t
    c.in_ok-ear.ensures.begun c.in_ok-write_records.ensures.writes c.in_ok-write_rest.ensures

use Rattle.stream_spec.specs.Ready.{chunk_of}
use Rattle.recording_views.proofs.Writing.{line_written}
use Rattle.recording_views.proofs.recordings.ScriptLinesTextWriter.write.Goals as goal
use Rattle.receiver.proofs.Parts.{on_ok_then as on_ok}

pub returns : goal.returns
returns c = on_ok c.append_line.result (line_written c.args.out.now c.append_line.new.out (chunk_of c.args.text.now)) c.append_line.ensures

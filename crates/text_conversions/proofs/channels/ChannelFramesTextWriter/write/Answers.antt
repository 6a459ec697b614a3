use Rattle.stream_spec.specs.Ready.{chunk_of}
use Rattle.receiver.proofs.Parts.{on_ok_then as on_ok}
use Rattle.text_conversions.proofs.Framing.{frame_more}
use Rattle.text_conversions.proofs.channels.ChannelFramesTextWriter.write.Goals as goal

pub returns : goal.returns
returns c = on_ok c.append_chunk.result (frame_more c.args.out.now c.append_chunk.new.out (chunk_of c.args.text.now)) c.append_chunk.ensures

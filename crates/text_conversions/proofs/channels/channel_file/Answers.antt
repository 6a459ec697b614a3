use Rattle.std.proofs.Common.{subst}
use Rattle.rtpdump_io.specs.Reading.{to_come}
use Rattle.command_spec.specs.declared.requests.ReadRequest.{ReadRequest}
use Rattle.recording_views.specs.Writing.{WritesRecording}
use Rattle.text_conversions.specs.Channels.{AreFrames}
use Rattle.text_conversions.proofs.Framing.{all_frames, cause_from, few_frames, source_failed, source_kept, source_refused, too_many}
use Rattle.text_conversions.proofs.channels.channel_file.Goals as goal

pub returns-in-Err-clause-refused : goal.returns-in-Err-clause-refused
returns-in-Err-clause-refused g c = λ t. cause_from c.args.ssrc (to_come g.S.Source.left c.args.reader.now) c.in-Err.fault c.unread.result c.unread.ensures (c.in-Err.ensures.reads.fault t)

pub returns-in-Err-clause-source : goal.returns-in-Err-clause-source
returns-in-Err-clause-source g c =
    source_failed g.S.Source.tells g.S.Source.left g.S.Source.faults g.S.Source.name c.args.reader.now c.write_texts.new.reader c.in-Err.fault c.unread.result c.unread.ensures c.in-Err.ensures.reads

pub returns-then-octets-gt-MOST_FRAMES_OCTETS-clause-refused : goal.returns-then-octets-gt-MOST_FRAMES_OCTETS-clause-refused
returns-then-octets-gt-MOST_FRAMES_OCTETS-clause-refused g c = λ t.
    let recording = to_come g.S.Source.left c.args.reader.now in
    let w = subst (λ (r : ReadRequest). WritesRecording AreFrames r recording c.new-out.result c.write_texts.new.out) c.request_for.ensures (c.in-Ok.ensures.written t) in
    too_many c.args.ssrc recording c.write_texts.new.out c.len-octets.result c.len-octets.ensures c.if-octets-gt-MOST_FRAMES_OCTETS.true (c.in-Ok.ensures.reads.whole t)
    (all_frames c.args.ssrc recording c.new-out.result c.write_texts.new.out c.new-out.ensures w)

pub returns-then-octets-gt-MOST_FRAMES_OCTETS-clause-source : goal.returns-then-octets-gt-MOST_FRAMES_OCTETS-clause-source
returns-then-octets-gt-MOST_FRAMES_OCTETS-clause-source g c =
    source_refused g.S.Source.tells g.S.Source.left g.S.Source.faults g.S.Source.name c.args.reader.now c.write_texts.new.reader _ _ c.in-Ok.ensures.reads

pub returns-clause-written : goal.returns-clause-written
returns-clause-written g c = λ t octets is.
    let recording = to_come g.S.Source.left c.args.reader.now in
    let w = subst (λ (r : ReadRequest). WritesRecording AreFrames r recording c.new-out.result c.write_texts.new.out) c.request_for.ensures (c.in-Ok.ensures.written t) in
    few_frames c.args.ssrc octets c.write_texts.new.out c.len-octets.result c.len-octets.ensures c.if-octets-gt-MOST_FRAMES_OCTETS.false
    (all_frames c.args.ssrc recording c.new-out.result c.write_texts.new.out c.new-out.ensures w octets is)

pub returns-clause-source : goal.returns-clause-source
returns-clause-source g c = source_kept g.S.Source.tells g.S.Source.left g.S.Source.faults g.S.Source.name c.args.reader.now c.write_texts.new.reader _ _ c.in-Ok.ensures.reads

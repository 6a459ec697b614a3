use Rattle.std.proofs.Common.{sym, ◌∙◌}
use Rattle.conf_text.specs.Lines.{above_of}
use Rattle.conf_text.proofs.ConferenceLoop.{line_read}
use Rattle.conf_text.proofs.conference_reader.read_conf.Goals as goal

pub loop-line-preserved-in-Continue-1 : goal.loop-line-preserved-in-Continue-1
loop-line-preserved-in-Continue-1 c =
    line_read c.args.form c.args.bytes.now c.loop-line.rest.now c.in-Some.line.now c.in-Some.after.now (above_of c.loop-line.draft) (above_of c.read_line.new.draft) c.loop-line.number
    c.in-Some.ensures.lines c.in-Some.ensures.shorter (sym c.is_passed_over.ensures ∙ c.if-not-is_passed_over.true) c.in_ok-read_line.ensures.ok c.loop-line.invariant

use Rattle.std.proofs.Common.{ap, sym, ◌∙◌, map}
use Rattle.std.specs.Prelude.{◌&&◌}
use Rattle.wire_spec.specs.Dump.{sent_item}
use Rattle.report_spec.specs.Guesses.{are_mostly_text}
use Rattle.rtt_show.proofs.Showing.{mostly_is}
use Rattle.rtt_show.proofs.pairs.are_mostly_texts.Goals as goal

pub returns-then-not-near : goal.returns-then-not-near
returns-then-not-near c = λ records a e. sym (ap (λ b. b && are_mostly_text c.args.ssrc c.args.payload_types (map sent_item records)) c.if-not-near.true)

pub returns : goal.returns
returns c = λ records a e.
    mostly_is c.args.ssrc c.args.payload_types (map sent_item records) c.args.number c.accepted_of.result e (c.accepted_of.ensures.number records a)
    ∙ sym (ap (λ b. b && are_mostly_text c.args.ssrc c.args.payload_types (map sent_item records)) c.if-not-near.false)

use Rattle.std.proofs.Common.{ap, sym, ◌∙◌, Some}
use Rattle.std.specs.Prelude.{◌&&◌}
use Rattle.wire_spec.specs.Packets.{has_text}
use Rattle.wire_spec.specs.Text.{text_of}
use Rattle.report_spec.specs.Guesses.{is_ok}
use Rattle.rtt_show.specs.Surveys.{is_read}
use Rattle.rtt_show.proofs.Surveying.{read_ok}
use Rattle.rtt_show.proofs.likes.is_accepted.Goals as goal

pub returns-then-not-has_octets : goal.returns-then-not-has_octets
returns-then-not-has_octets c =
    let t = text_of c.args.octets.now (Some c.args.ssrc) c.args.payload_types in
    sym (ap (λ b. b && is_ok t) (ap has_text (sym c.payload_of.ensures) ∙ (sym c.has_octets.ensures ∙ c.if-not-has_octets.true)))

pub returns : goal.returns
returns c =
    let t = text_of c.args.octets.now (Some c.args.ssrc) c.args.payload_types in
    c.is_text.ensures
    ∙ (ap is_read c.read_source.ensures
    ∙ (read_ok t
    ∙ sym (ap (λ b. b && is_ok t) (ap has_text (sym c.payload_of.ensures) ∙ (sym c.has_octets.ensures ∙ c.if-not-has_octets.false)))))

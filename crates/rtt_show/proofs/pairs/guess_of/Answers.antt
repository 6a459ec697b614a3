use Rattle.std.proofs.Common.{ap, sym, ◌∙◌, map}
use Rattle.std.specs.Prelude.{◌&&◌}
use Rattle.wire_spec.specs.Dump.{sent_item}
use Rattle.command_spec.specs.Streams.{are_like_text}
use Rattle.rtt_show.proofs.Showing.{guess_is}
use Rattle.rtt_show.proofs.pairs.guess_of.Goals as goal

pub returns : goal.returns
returns c = λ records a s.
    let came = map sent_item records in
    let signs = c.args.signs in
    c.guess_from.ensures
    ∙ guess_is c.args.ssrc c.args.pt came signs c.are_near_where-red.result c.are_near_where-near.result c.are_mostly_texts-text.result s (sym c.may_be_given.ensures ∙ c.if-not-may_be_given.false)
    (c.are_near_where-red.ensures records a ∙ ap (λ b. b && are_like_text c.args.ssrc (record { t140 = signs.inside; red = c.args.pt }) came) c.show_red.ensures)
    (c.are_near_where-near.ensures records a ∙ ap (λ b. b && are_like_text c.args.ssrc (record { t140 = c.args.pt; red = 0 }) came) c.has_filled.ensures)
    (c.are_mostly_texts-text.ensures records a)

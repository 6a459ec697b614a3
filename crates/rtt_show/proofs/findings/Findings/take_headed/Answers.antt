use Rattle.std.proofs.Common.{◌≡◌, ◌+◌, ◌*◌, ◌<◌, ◌^◌, sym, ◌∙◌, subst, refl, arith}
use Rattle.rtp_text.specs.Headers.{reading}
use Rattle.rtt_show.specs.Groups.{GroupsMore}
use Rattle.rtt_show.proofs.Grouping.{on_ok}
use Rattle.rtt_show.proofs.Finding.{some_octets, small_pair, is_record, of_stream, of_pair}
use Rattle.rtt_show.proofs.findings.Findings.take_headed.Goals as goal

pub take-requires-clause-some : goal.take-requires-clause-some
take-requires-clause-some c = some_octets c.args.octets.now (reading c.args.view.now) c.requires.headed

pub returns-then-has_text_type-clause-more : goal.returns-then-has_text_type-clause-more
returns-then-has_text_type-clause-more c =
    let old = c.args.self.now in
    let header = reading c.args.view.now in
    let octets = c.args.octets.now in
    let ssrc_fits : header.ssrc < 2 ^ 32 = search in
    let at_fits : c.args.at < 2 ^ 32 = search in
    on_ok c.take.result (λ g.
    of_stream old (record old { streams = c.take.new.self }) (c.args.at, octets) header c.requires.headed (sym c.has_text_type.ensures ∙ c.if-has_text_type.true) ssrc_fits (is_record c.args.at octets at_fits c.requires.fits)
    (subst (λ n. GroupsMore old.streams n (c.args.at, octets) c.take.new.self) c.from-ssrc.ensures g) refl)
    c.take.ensures.more

pub take-requires-2-clause-some : goal.take-requires-2-clause-some
take-requires-2-clause-some c = some_octets c.args.octets.now (reading c.args.view.now) c.requires.headed

pub returns-clause-more : goal.returns-clause-more
returns-clause-more c =
    let old = c.args.self.now in
    let header = reading c.args.view.now in
    let octets = c.args.octets.now in
    let ssrc_fits : header.ssrc < 2 ^ 32 = search in
    let at_fits : c.args.at < 2 ^ 32 = search in
    let pair_is : 128 * c.from-ssrc.result + c.from.result ≡ 128 * c.args.view.now.ssrc + c.args.view.now.pt = omega (arith, c.from-ssrc.ensures, c.from.ensures) in
    on_ok c.take-2.result (λ g.
    of_pair old (record old { pairs = c.take-2.new.self }) (c.args.at, octets) header c.requires.headed (sym c.has_text_type.ensures ∙ c.if-has_text_type.false) (small_pair octets header c.requires.headed ssrc_fits) (is_record c.args.at octets at_fits c.requires.fits)
    (subst (λ n. GroupsMore old.pairs n (c.args.at, octets) c.take-2.new.self) pair_is g) refl)
    c.take-2.ensures.more

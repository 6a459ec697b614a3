use Rattle.std.proofs.Common.{◌++◌, ◌∙◌, ℕ, List, ap, arith, refl, subst, sym}
use Rattle.std.specs.Prelude.{IsUtf8, flat_map, slice_index}
use Rattle.std.specs.List.{concat}
use Rattle.view_spec.specs.Views.{source_view}
use Rattle.sent_log.specs.States.{sents}
use Rattle.rtt_mix.specs.Shown.{lines_of}
use Rattle.rtt_mix.specs.SentViews.{said_of}
use Rattle.rtt_mix.proofs.SentViews.{said_end, said_step}
use Rattle.rtt_mix.proofs.sent_views.add_said.Goals as goal
use Rattle.sent_log.proofs.Recorded.{terminal_there as found_at}

pub add_lines-requires : goal.add_lines-requires
add_lines-requires c =
    let x = found_at c.args.log.now c.args.terminal c.requires.terminal in
    subst IsUtf8 (sym (c.in-Some.ensures x.0 x.1)) (c.requires.utf8 x.0 x.1 (slice_index c.args.sources.now c.loop-place.place))

pub loop-place-preserved : goal.loop-place-preserved
loop-place-preserved c = λ x at.
    let names = c.args.names.now in
    let sources = c.args.sources.now in
    let name = c.index-names-place.result in
    let old = concat c.loop-place.pieces.items in
    said_step names sources (sents x.sent) c.loop-place.place name 0 name (slice_index sources c.loop-place.place) c.in-Some.text.now (concat c.args.pieces.now.items ++ flat_map source_view (said_of names sources (sents x.sent))) old (concat c.add_lines.new.pieces.items)
    c.requires.each c.loop-place-test.true c.index-names-place.is refl (c.in-Some.ensures x at)
    (c.in_ok-add_lines.ensures ∙ ap (λ (n : List ℕ). old ++ lines_of n c.in-Some.text.now) c.as_slice.ensures.value) (c.loop-place.invariant x at)

pub returns : goal.returns
returns c = λ e x at.
    let names = c.args.names.now in
    let sources = c.args.sources.now in
    said_end names sources (sents x.sent) c.loop-place.place (concat c.args.pieces.now.items ++ flat_map source_view (said_of names sources (sents x.sent))) (concat c.loop-place.pieces.items)
    c.requires.each (omega (arith, c.loop-place-test.false)) (c.loop-place.invariant x at)

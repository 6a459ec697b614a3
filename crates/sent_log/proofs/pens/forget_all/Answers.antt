use Rattle.std.proofs.Common.{◌<◌, List, slice_set, get_or, length, ap, ◌∙◌, arith}
use Rattle.std.proofs.lemmas.List.{get_or_default}
use Rattle.std.proofs.lemmas.List.Edits.{map_over_more}
use Rattle.sent_log.specs.declared.repeats.PacketKey.{PacketKey}
use Rattle.sent_log.specs.Repeats.{anew, fresh}
use Rattle.sent_log.proofs.pens.forget_all.Goals as goal

pub loop-source-preserved : goal.loop-source-preserved
loop-source-preserved c =
    let sources = c.loop-source.sources in
    let i = c.loop-source.source-index in
    let l : i < length c.args.sources.now = c.loop-source-test.true in
    let m : i < length sources = omega (arith, l, c.loop-source.auto.sources) in
    let x = get_or sources i fresh in
    ap (λ (y : List PacketKey). slice_set sources i y) c.new.ensures
    ∙ map_over_more anew c.args.sources.now sources i x l c.loop-source.invariant (get_or_default sources i fresh x m)

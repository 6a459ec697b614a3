use Rattle.std.proofs.Common.{◌<◌, slice_set, get_or, length, ap, ◌∙◌, arith}
use Rattle.std.proofs.lemmas.List.{get_or_default}
use Rattle.std.proofs.lemmas.List.Edits.{map_over_more}
use Rattle.packetizer.specs.declared.speakers.Speaker.{Speaker}
use Rattle.packetizer.specs.Speakers.{anew}
use Rattle.packetizer.proofs.speakers.forget_all.Goals as goal

pub loop-speaker-preserved : goal.loop-speaker-preserved
loop-speaker-preserved c = λ base.
    let speakers = c.loop-speaker.speakers in
    let i = c.loop-speaker.speaker-index in
    let l : i < length c.args.speakers.now = c.loop-speaker-test.true in
    let m : i < length speakers = omega (arith, l, c.loop-speaker.auto.speakers) in
    let x = get_or speakers i c.speaker-item.result in
    ap (λ (y : Speaker). slice_set speakers i y) (c.new.ensures base)
    ∙ map_over_more (anew c.args.generations base) c.args.speakers.now speakers i x l (c.loop-speaker.invariant base) (get_or_default speakers i c.speaker-item.result x m)

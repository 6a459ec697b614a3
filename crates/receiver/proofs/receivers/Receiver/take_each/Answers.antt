use Rattle.std.proofs.Common.{◌+◌, ◌++◌, refl, ap, sym, ◌∙◌, arith}
use Rattle.std.specs.Prelude.{◌==◌, position}
use Rattle.std.specs.List.{concat}
use Rattle.receiver.specs.declared.receivers.ListedSource.{ListedSource}
use Rattle.receiver.specs.declared.source_texts.SourceText.{SourceText}
use Rattle.receiver.specs.Each.{one_if}
use Rattle.receiver.specs.Steps.{is_marked_since, told_since}
use Rattle.receiver.proofs.receivers.Receiver.take_each.Goals as goal
use Rattle.receiver.proofs.Takes.{IsCounted, counted, no_place, stands_unlisted, seat, stands_listed, each_unlisted, each_listed}

pub returns-in_default-clause-stands : goal.returns-in_default-clause-stands
returns-in_default-clause-stands c sources us time s =
    let k : IsCounted c.args.self.now c.count.new.self c.args.number = counted c.args.self.now c.count.new.self sources us c.args.number s c.requires.rises (omega (arith, c.ranges.number.fits)) c.count.ensures.listed c.count.ensures.latest c.count.ensures.missing in
    let none = no_place c.args.self.now c.count.new.self sources us time c.args.number c.args.packet.now s c.requires.rises k (sym (c.place_of.ensures ∙ ap (position (λ (x : ListedSource). x.source == c.args.packet.now.source)) c.as_slice.ensures.value) ∙ c.in_default.is) in
    stands_unlisted c.args.self.now c.count.new.self sources us time c.args.number c.args.packet.now s c.requires.rises k none

pub returns-in_default-clause-heard : goal.returns-in_default-clause-heard
returns-in_default-clause-heard c sources us time s =
    let k : IsCounted c.args.self.now c.count.new.self c.args.number = counted c.args.self.now c.count.new.self sources us c.args.number s c.requires.rises (omega (arith, c.ranges.number.fits)) c.count.ensures.listed c.count.ensures.latest c.count.ensures.missing in
    let none = no_place c.args.self.now c.count.new.self sources us time c.args.number c.args.packet.now s c.requires.rises k (sym (c.place_of.ensures ∙ ap (position (λ (x : ListedSource). x.source == c.args.packet.now.source)) c.as_slice.ensures.value) ∙ c.in_default.is) in
    each_unlisted c.args.self.now c.count.new.self sources us time c.args.number c.args.packet.now s c.requires.rises k c.args.heard.now none

pub returns-clause-stands : goal.returns-clause-stands
returns-clause-stands c sources us time s =
    let k : IsCounted c.args.self.now c.count.new.self c.args.number = counted c.args.self.now c.count.new.self sources us c.args.number s c.requires.rises (omega (arith, c.ranges.number.fits)) c.count.ensures.listed c.count.ensures.latest c.count.ensures.missing in
    let t = seat c.args.self.now c.count.new.self sources us time c.args.number c.args.packet.now s c.requires.rises k c.in-Some.place c.index_mut.result.now (sym (c.place_of.ensures ∙ ap (position (λ (x : ListedSource). x.source == c.args.packet.now.source)) c.as_slice.ensures.value) ∙ c.in-Some.is) c.index_mut.ensures.value in
    stands_listed c.args.self.now c.count.new.self sources us time c.args.number c.args.packet.now s c.requires.rises k c.in-Some.place c.index_mut.result.now _ _ t refl refl refl refl refl

pub returns-clause-heard : goal.returns-clause-heard
returns-clause-heard c sources us time s are =
    let k : IsCounted c.args.self.now c.count.new.self c.args.number = counted c.args.self.now c.count.new.self sources us c.args.number s c.requires.rises (omega (arith, c.ranges.number.fits)) c.count.ensures.listed c.count.ensures.latest c.count.ensures.missing in
    let t = seat c.args.self.now c.count.new.self sources us time c.args.number c.args.packet.now s c.requires.rises k c.in-Some.place c.index.result.now (sym (c.place_of.ensures ∙ ap (position (λ (x : ListedSource). x.source == c.args.packet.now.source)) c.as_slice.ensures.value) ∙ c.in-Some.is) c.index.ensures in
    each_listed c.args.self.now c.count.new.self sources us time c.args.number c.args.packet.now s c.requires.rises k c.args.heard.now c.in-Some.place c.index.result.now c.index-heard-place.result c.tell_more.new.heard t c.requires.each c.index-heard-place.is are
    (c.in_ok-tell_more.ensures.text ∙ ap (λ (x : SourceText). x.text ++ concat (told_since c.index.result.now.seen c.count.new.self.missing c.args.packet.now)) (sym c.index-heard-place.is))
    (c.in_ok-tell_more.ensures.markers ∙ ap (λ (x : SourceText). x.markers + one_if (is_marked_since c.index.result.now.seen c.count.new.self.missing c.args.packet.now.timestamp c.args.packet.now.older)) (sym c.index-heard-place.is))

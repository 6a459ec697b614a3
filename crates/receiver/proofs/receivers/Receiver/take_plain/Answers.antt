use Rattle.std.proofs.Common.{◌++◌, get_or, ap, sym, ◌∙◌, arith}
use Rattle.receiver.specs.declared.source_texts.SourceText.{SourceText}
use Rattle.receiver.proofs.Plain.{plain_stands, plain_heard}
use Rattle.receiver.proofs.receivers.Receiver.take_plain.Goals as goal

pub returns-clause-stands : goal.returns-clause-stands
returns-clause-stands c t sources us time s = plain_stands c.args.self.now c.keep.new.self c.args.number c.in-Some.place c.args.view.now sources us time s c.requires.rises (omega (arith, c.ranges.number.fits)) c.in-Some.ensures c.keep.ensures

pub returns-clause-heard : goal.returns-clause-heard
returns-clause-heard c t sources us time s are =
    let x = c.index-heard-place.result in
    let here = c.index-heard-place.is in
    let before : SourceText = get_or c.args.heard.now c.in-Some.place x in
    plain_heard c.args.self.now c.keep.new.self c.args.number c.in-Some.place c.args.view.now sources us time s c.requires.rises (omega (arith, c.ranges.number.fits)) c.in-Some.ensures c.keep.ensures
    c.args.heard.now x (record { text = c.append.new.self; markers = before.markers }) c.requires.each here are
    (c.in_ok-append.ensures.ok ∙ ap (λ (y : SourceText). y.text ++ c.args.view.now.primary.now) (sym here))
    (ap (λ (y : SourceText). y.markers) (sym here))

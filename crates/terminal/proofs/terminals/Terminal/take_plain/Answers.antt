use Rattle.std.proofs.Common.{◌≡◌, ◌+◌, List, length, refl, ap, sym, subst, arith}
use Rattle.std.specs.Vec.{with_items}
use Rattle.std.proofs.lemmas.List.{with_items_is}
use Rattle.receiver.specs.declared.source_texts.SourceText.{SourceText}
use Rattle.receiver.specs.EarPlain.{HearsPlain}
use Rattle.terminal.specs.declared.terminals.Terminal.{Terminal}
use Rattle.terminal.proofs.Listening.{took_plain}
use Rattle.terminal.proofs.terminals.Terminal.take_plain.Goals as goal

pub returns-clause-listens : goal.returns-clause-listens
returns-clause-listens c = λ plain q sources came li.
    let before = c.args.self.now in
    let ear = c.hear_plain.new.self in
    let more = c.hear_plain.new.heard in
    let r = c.in_ok-hear_plain.ensures in
    let t = c.if-not-branch.false in
    let after : Terminal = record { ear = ear; heard = with_items before.heard more; counts = record before.counts { packets = before.counts.packets + 1; used = before.counts.used + 1 }; spent = before.spent } in
    let size : length more ≡ before.heard.len = omega (arith, c.hear_plain.auto.heard, ap (λ (ts : List SourceText). length ts) c.as_mut_slice.ensures.value, before.heard.ok.0) in
    let told = subst (λ (ts : List SourceText). HearsPlain before.ear ear c.args.at c.args.octets.now ts more) c.as_mut_slice.ensures.value (r.hears t) in
    took_plain before after c.args.at c.args.octets.now (subst (λ (ts : List SourceText). HearsPlain before.ear ear c.args.at c.args.octets.now before.heard.items ts) (sym (with_items_is before.heard more size)) told)
    (r.packet t) refl r.quiet r.arrivals r.finished refl q sources came li

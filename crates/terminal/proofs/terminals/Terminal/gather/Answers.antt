use Rattle.std.proofs.Common.{◌≡◌, ◌+◌, List, length, refl, ap, sym, subst, arith}
use Rattle.std.specs.Vec.{with_items}
use Rattle.std.proofs.lemmas.List.{with_items_is}
use Rattle.receiver.specs.declared.source_texts.SourceText.{SourceText}
use Rattle.receiver.specs.EarEach.{GathersEach}
use Rattle.terminal.specs.declared.terminals.Terminal.{Terminal}
use Rattle.terminal.proofs.Listening.{gathers}
use Rattle.terminal.proofs.terminals.Terminal.gather.Goals as goal

pub returns-clause-gathers : goal.returns-clause-gathers
returns-clause-gathers c =
    let before = c.args.self.now in
    let more = c.gather_each.new.heard in
    let after : Terminal = record { ear = c.gather_each.new.self; heard = with_items before.heard more; counts = record before.counts { used = before.counts.used + c.in_ok-used.used }; spent = before.spent } in
    let size : length more ≡ before.heard.len = omega (arith, c.gather_each.auto.heard, ap (λ (ts : List SourceText). length ts) c.as_mut_slice.ensures.value, before.heard.ok.0) in
    let told = subst (λ (ts : List SourceText). GathersEach before.ear c.gather_each.new.self c.in_ok-used.used ts more) c.as_mut_slice.ensures.value c.in_ok-used.ensures.gathers in
    gathers before after c.in_ok-used.used (subst (λ (ts : List SourceText). GathersEach before.ear c.gather_each.new.self c.in_ok-used.used before.heard.items ts) (sym (with_items_is before.heard more size)) told) refl

use Rattle.std.proofs.Common.{◌≡◌, List, length, map, ap, ◌∙◌, arith}
use Rattle.std.proofs.lemmas.List.{length-map, with_items_is}
use Rattle.sent_log.specs.declared.repeats.PacketKey.{PacketKey}
use Rattle.sent_log.specs.Repeats.{anew}
use Rattle.sent_log.proofs.pens.Pen.restart.Goals as goal

pub returns-clause-sources : goal.returns-clause-sources
returns-clause-sources c =
    let sources = c.args.self.now.sources in
    let forgotten : c.forget_all.new.sources ≡ map anew sources.items = c.forget_all.ensures ∙ ap (λ (xs : List (List PacketKey)). map anew xs) c.deref_mut.ensures.value in
    let many = ap (λ (xs : List (List PacketKey)). length xs) forgotten in
    let size : length c.forget_all.new.sources ≡ sources.len = omega (arith, many, length-map sources.items anew, sources.ok.0) in
    with_items_is sources c.forget_all.new.sources size ∙ forgotten

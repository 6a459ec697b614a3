use Rattle.std.proofs.Common.{◌≡◌, List, length, ap, subst, sym, arith}
use Rattle.std.proofs.lemmas.List.{with_items_is}
use Rattle.receiver.specs.declared.source_texts.SourceText.{SourceText}
use Rattle.sent_log.specs.States.{sents}
use Rattle.playback.specs.Whole.{AreSaid}
use Rattle.playback.proofs.sent_texts.said_texts.Goals as goal

pub returns : goal.returns
returns c = λ x at.
    let added = c.in_ok-added.added in
    let more = c.add_said.new.texts in
    let size : length more ≡ added.len = omega (arith, c.add_said.auto.texts, ap (λ (ts : List SourceText). length ts) c.as_mut_slice.ensures.value, added.ok.0) in
    subst (λ (ts : List SourceText). AreSaid c.args.sources.now (sents x.sent) ts) (sym (with_items_is added more size)) (c.in_ok-add_said.ensures x at)

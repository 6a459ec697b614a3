use Rattle.std.proofs.Common.{◌≡◌, ◌<◌, ◌++◌, ◌∷◌, [], ℕ, List, length, ap, ◌∙◌, arith}
use Rattle.std.proofs.lemmas.List.{length-append}
use Rattle.receiver.specs.declared.source_texts.SourceText.{SourceText}
use Rattle.sent_log.specs.States.{sents}
use Rattle.playback.proofs.SaidTexts.{one_said}
use Rattle.playback.proofs.sent_texts.said_at_once.Goals as goal

pub loop-place-preserved : goal.loop-place-preserved
loop-place-preserved c =
    let before = c.loop-place.invariant in
    let texts = c.loop-place.texts.items in
    let source : SourceText = record c.new-source.result { text = c.append.new.self } in
    record {
      each = omega (arith, before.each, ap (λ (ts : List SourceText). length ts) c.in_ok-push.ensures.items, length-append texts (source ∷ []));
      are = λ x at. one_said c.args.sources.now (sents x.sent) texts c.push.new.self.items c.loop-place.place source before.each c.in_ok-push.ensures.items (before.are x at) (record {
        text =
            c.in_ok-append.ensures.ok
            ∙ (ap (λ (xs : List ℕ). xs ++ c.in-Some.said.now) c.new-source.ensures.text ∙ c.in-Some.ensures x at);
        markers = c.new-source.ensures.markers;
      });
    }

pub returns : goal.returns
returns c = λ x at. record {
  each = omega (arith, c.loop-place.invariant.each, c.loop-place-test.false);
  are = λ k d l. c.loop-place.invariant.are x at k d (omega (arith, l, c.loop-place-test.false));
}

use Rattle.std.proofs.Common.{ℕ, List, sym, subst}
use Rattle.stream_spec.specs.Own.{Sent}
use Rattle.sent_log.specs.States.{first_sent, sents}
use Rattle.playback.specs.Whole.{AreSaid}
use Rattle.playback.proofs.sent_texts.add_said.Goals as goal

pub loop-number-preserved : goal.loop-number-preserved
loop-number-preserved c = λ x at.
    let t = c.text-source.ensures x at in
    subst (λ (sent : List (ℕ × Sent)). AreSaid c.args.sources.now (sents sent) c.add_text.new.texts) (sym t.next)
    (c.in_ok-add_text.ensures.says (sents (first_sent c.loop-number.number x.sent)) t.media (c.loop-number.invariant x at))

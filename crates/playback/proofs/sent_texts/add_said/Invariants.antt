use Rattle.sent_log.specs.States.{OfTerminal, first_sent, sents}
use Rattle.playback.specs.Whole.{AreSaid}
use Rattle.playback.proofs.sent_texts.add_said.Given as goal

abbrev pub invariant-loop-number : goal.invariant-loop-number
invariant-loop-number l = OfTerminal l.log l.terminal (λ x. AreSaid l.sources (sents (first_sent l.number x.sent)) l.texts)

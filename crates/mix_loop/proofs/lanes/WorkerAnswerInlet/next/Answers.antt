use Rattle.std.proofs.Common.{sym, ◌∙◌, subst}
use Rattle.std.proofs.lemmas.List.{append-nil}
use Rattle.stream_spec.specs.Ready.{Chunk, chunk_of}
use Rattle.mix_loop.specs.Answers.{said_in}
use Rattle.mix_loop.specs.Items.{IsSaid}
use Rattle.mix_loop.proofs.Answering.{is_said, pulled, waited}
use Rattle.mix_loop.proofs.lanes.WorkerAnswerInlet.next.Goals as goal

pub returns-in-Some-clause-stands : goal.returns-in-Some-clause-stands
returns-in-Some-clause-stands g c = λ first gave s.
    pulled g.L.Producer.stands first c.args.self.now _ gave c.in-Some.answer c.hand_out-item.result (chunk_of c.hand_out-item.new.chunk) s c.in-Some.ensures.popped c.in-Some.ensures.runs c.hand_out-item.ensures.is c.hand_out-item.ensures.text

pub returns-in-Some-clause-text : goal.returns-in-Some-clause-text
returns-in-Some-clause-text g c = λ e.
    subst (λ (t : Chunk). IsSaid t) (sym c.hand_out-item.ensures.text) (is_said c.in-Some.answer.item (said_in c.in-Some.answer) c.in-Some.answer.text (sym c.hand_out-item.ensures.is ∙ e))

pub returns-in-None-clause-stands : goal.returns-in-None-clause-stands
returns-in-None-clause-stands g c = λ first gave s.
    waited g.L.Producer.stands first c.args.self.now _ gave s (c.wait.ensures.popped ∙ (c.in-None.ensures.popped ∙ append-nil _)) (λ f r. c.wait.ensures.runs f (c.in-None.ensures.runs f r))

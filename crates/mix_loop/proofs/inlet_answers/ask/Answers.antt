use Rattle.stream_spec.specs.Ready.{chunk_of}
use Rattle.mix_loop.proofs.Answering.{has_text_of}
use Rattle.mix_loop.proofs.inlet_answers.ask.Goals as goal

pub invariant_of-answer : goal.invariant_of-answer
invariant_of-answer g c = record { text = has_text_of c.next-answer.result (chunk_of c.next-answer.new.chunk) c.next-answer.ensures.text }

use Rattle.workers.proofs.producers.GatedProducerProducer.next.Goals as goal

pub returns-clause-stands : goal.returns-clause-stands
returns-clause-stands g c = λ first gave s. c.next-is_given.ensures.stands first.gives gave s

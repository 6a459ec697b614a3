use Rattle.live_spec.proofs.Senders.{senders_law, formers_law}
use Rattle.live_spec.proofs.laws.senders_take_over.Goals as goal

pub returns-clause-senders : goal.returns-clause-senders
returns-clause-senders c = senders_law

pub returns-clause-stays : goal.returns-clause-stays
returns-clause-stays c = formers_law

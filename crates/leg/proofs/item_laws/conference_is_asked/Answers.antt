use Rattle.leg.proofs.OfConferences.{asked_law, stays_law}
use Rattle.leg.proofs.item_laws.conference_is_asked.Goals as goal

pub returns-clause-chunks : goal.returns-clause-chunks
returns-clause-chunks c = asked_law

pub returns-clause-stays : goal.returns-clause-stays
returns-clause-stays c = stays_law

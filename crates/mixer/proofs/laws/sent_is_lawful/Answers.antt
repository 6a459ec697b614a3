use Rattle.mixer.proofs.laws.sent_is_lawful.Goals as goal
use Rattle.mixer.proofs.Rounding.{lawful_history, own_history, come_history}

pub returns-clause-lawful : goal.returns-clause-lawful
returns-clause-lawful c = lawful_history

pub returns-clause-own : goal.returns-clause-own
returns-clause-own c = own_history

pub returns-clause-come : goal.returns-clause-come
returns-clause-come c = come_history

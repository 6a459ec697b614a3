use Rattle.mixer.proofs.laws.turns_send_next.Goals as goal
use Rattle.mixer.proofs.Sending.{any_law, aware_law, unaware_law}

pub returns-clause-any : goal.returns-clause-any
returns-clause-any c = any_law

pub returns-clause-aware : goal.returns-clause-aware
returns-clause-aware c = aware_law

pub returns-clause-unaware : goal.returns-clause-unaware
returns-clause-unaware c = unaware_law

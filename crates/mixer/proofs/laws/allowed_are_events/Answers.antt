use Rattle.mixer.proofs.laws.allowed_are_events.Goals as goal
use Rattle.mixer.proofs.Allowing.{events_law, good_taken}

pub returns-clause-events : goal.returns-clause-events
returns-clause-events c = events_law

pub returns-clause-texts : goal.returns-clause-texts
returns-clause-texts c = λ s calls i a. (good_taken s calls a i).texts

pub returns-clause-short : goal.returns-clause-short
returns-clause-short c = λ s calls i a. (good_taken s calls a i).short

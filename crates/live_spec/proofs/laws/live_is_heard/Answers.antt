use Rattle.live_spec.proofs.Unfollowed.{unfollowed_law}
use Rattle.live_spec.proofs.Texts.{texts_law}
use Rattle.live_spec.proofs.Fronts.{front_law, stays_law}
use Rattle.live_spec.proofs.laws.live_is_heard.Goals as goal

pub returns-clause-plain : goal.returns-clause-plain
returns-clause-plain c = unfollowed_law

pub returns-clause-texts : goal.returns-clause-texts
returns-clause-texts c = texts_law

pub returns-clause-front : goal.returns-clause-front
returns-clause-front c = front_law

pub returns-clause-stays : goal.returns-clause-stays
returns-clause-stays c = stays_law

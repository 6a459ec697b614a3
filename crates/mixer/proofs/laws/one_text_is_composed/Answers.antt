use Rattle.mixer.proofs.laws.one_text_is_composed.Goals as goal
use Rattle.mixer.proofs.Sent.{composed_sent, texts_composed, given_composed}

pub returns-clause-composed : goal.returns-clause-composed
returns-clause-composed c = composed_sent

pub returns-clause-texts : goal.returns-clause-texts
returns-clause-texts c = texts_composed

pub returns-clause-given : goal.returns-clause-given
returns-clause-given c = given_composed

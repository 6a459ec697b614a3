use Rattle.mixer.proofs.laws.chunks_go_once.Goals as goal
use Rattle.mixer.proofs.Waiting.{part}
use Rattle.mixer.proofs.Going.{accepted_law, sent_law, idle_law}
use Rattle.mixer.proofs.Sent.{front_sent}

pub returns-clause-taken : goal.returns-clause-taken
returns-clause-taken c = accepted_law

pub returns-clause-sent : goal.returns-clause-sent
returns-clause-sent c = sent_law

pub returns-clause-idle : goal.returns-clause-idle
returns-clause-idle c = idle_law

pub returns-clause-part : goal.returns-clause-part
returns-clause-part c = λ s calls j i a. part s calls a j i

pub returns-clause-carried : goal.returns-clause-carried
returns-clause-carried c = front_sent

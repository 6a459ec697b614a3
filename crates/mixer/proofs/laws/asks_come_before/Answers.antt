use Rattle.mixer.proofs.laws.asks_come_before.Goals as goal
use Rattle.mixer.proofs.Waiting.{asked_law}

pub returns : goal.returns
returns c = asked_law

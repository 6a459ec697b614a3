use Rattle.mixer.proofs.laws.due_legs_are_served.Goals as goal
use Rattle.mixer.proofs.Rounding.{served_soon, nearer_soon}

pub returns-clause-soon : goal.returns-clause-soon
returns-clause-soon c = served_soon

pub returns-clause-nearer : goal.returns-clause-nearer
returns-clause-nearer c = nearer_soon

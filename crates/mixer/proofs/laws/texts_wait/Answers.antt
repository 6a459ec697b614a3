use Rattle.mixer.proofs.laws.texts_wait.Goals as goal
use Rattle.mixer.proofs.Waiting.{texts_wait, short_wait, none_own, none_before, came_once}

pub returns-clause-texts : goal.returns-clause-texts
returns-clause-texts c = texts_wait

pub returns-clause-short : goal.returns-clause-short
returns-clause-short c = short_wait

pub returns-clause-own : goal.returns-clause-own
returns-clause-own c = none_own

pub returns-clause-fresh : goal.returns-clause-fresh
returns-clause-fresh c = none_before

pub returns-clause-came : goal.returns-clause-came
returns-clause-came c = came_once

use Rattle.stream_spec.proofs.laws.numbers_are_nearest.Goals as goal
use Rattle.stream_spec.proofs.Timestamps.{nearest_mod, nearest_is, lower_is}

pub returns-clause-congruent : goal.returns-clause-congruent
returns-clause-congruent c = nearest_mod

pub returns-clause-nearest : goal.returns-clause-nearest
returns-clause-nearest c = nearest_is

pub returns-clause-lower : goal.returns-clause-lower
returns-clause-lower c = lower_is

use Rattle.stream_spec.proofs.laws.numbers_end.Goals as goal
use Rattle.stream_spec.proofs.InTime.{up_why, why_up, ended_by, ended_tells}

pub returns-clause-causes : goal.returns-clause-causes
returns-clause-causes c wait t n past = (up_why wait t n past, why_up wait t n past)

pub returns-clause-by_then : goal.returns-clause-by_then
returns-clause-by_then c wait t n past falls came first = (ended_tells wait t n past, ended_by wait t n past falls came first)

use Rattle.stream_spec.proofs.laws.heard_one_by_one.Goals as goal
use Rattle.stream_spec.proofs.Taking.{heard_used, heard_by_more}

pub returns-clause-used : goal.returns-clause-used
returns-clause-used c = heard_used

pub returns-clause-next : goal.returns-clause-next
returns-clause-next c us b s above = heard_by_more us b s above

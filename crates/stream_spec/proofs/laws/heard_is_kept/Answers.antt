use Rattle.stream_spec.proofs.laws.heard_is_kept.Goals as goal
use Rattle.stream_spec.proofs.Walks.{are_places, l1}

pub returns-clause-places : goal.returns-clause-places
returns-clause-places c = are_places

pub returns-clause-heard : goal.returns-clause-heard
returns-clause-heard c = l1

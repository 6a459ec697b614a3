use Rattle.stream_spec.proofs.laws.used_came_in_time.Goals as goal
use Rattle.stream_spec.proofs.Rising.{used_rises}
use Rattle.stream_spec.proofs.InTime.{used_came, came_used}

pub returns-clause-rising : goal.returns-clause-rising
returns-clause-rising c = used_rises

pub returns-clause-exact : goal.returns-clause-exact
returns-clause-exact c wait past x = (used_came wait past x, came_used wait past x)

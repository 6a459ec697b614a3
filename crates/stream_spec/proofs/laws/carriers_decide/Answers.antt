use Rattle.stream_spec.proofs.laws.carriers_decide.Goals as goal
use Rattle.stream_spec.proofs.Blocks.{l2, l2_rises}

pub returns-clause-rising : goal.returns-clause-rising
returns-clause-rising c h i a s = l2_rises h i s a

pub returns-clause-exact : goal.returns-clause-exact
returns-clause-exact c = l2

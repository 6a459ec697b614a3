use Rattle.wire_spec.proofs.Records.{unrolled, enough_steps}
use Rattle.wire_spec.proofs.laws.records_unroll.Goals as goal

pub returns-clause-one_step : goal.returns-clause-one_step
returns-clause-one_step c = unrolled

pub returns-clause-enough : goal.returns-clause-enough
returns-clause-enough c = enough_steps

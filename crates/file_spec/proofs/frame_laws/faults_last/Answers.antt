use Rattle.file_spec.proofs.Fronts.{fault_lasts}
use Rattle.file_spec.proofs.frame_laws.faults_last.Goals as goal

pub returns : goal.returns
returns c = fault_lasts

use Rattle.file_spec.proofs.Fronts.{long_front}
use Rattle.file_spec.proofs.frame_laws.long_fronts_decide.Goals as goal

pub returns : goal.returns
returns c = long_front

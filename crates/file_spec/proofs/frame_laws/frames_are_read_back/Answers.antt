use Rattle.file_spec.proofs.Sound.{read_back}
use Rattle.file_spec.proofs.frame_laws.frames_are_read_back.Goals as goal

pub returns : goal.returns
returns c = read_back

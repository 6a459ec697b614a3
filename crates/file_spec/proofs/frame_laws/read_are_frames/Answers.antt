use Rattle.file_spec.proofs.Sound.{read_are_frames}
use Rattle.file_spec.proofs.frame_laws.read_are_frames.Goals as goal

pub returns : goal.returns
returns c = read_are_frames

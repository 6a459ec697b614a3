use Rattle.live_spec.proofs.Growing.{files_whole}
use Rattle.live_spec.proofs.record_laws.files_are_whole.Goals as goal

pub returns : goal.returns
returns c = files_whole

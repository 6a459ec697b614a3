use Rattle.live_spec.proofs.Heard.{files_heard}
use Rattle.live_spec.proofs.record_laws.files_are_heard.Goals as goal

pub returns : goal.returns
returns c = files_heard

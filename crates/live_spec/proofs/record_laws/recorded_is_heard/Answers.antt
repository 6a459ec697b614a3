use Rattle.live_spec.proofs.Heard.{file_heard}
use Rattle.live_spec.proofs.record_laws.recorded_is_heard.Goals as goal

pub returns : goal.returns
returns c = file_heard

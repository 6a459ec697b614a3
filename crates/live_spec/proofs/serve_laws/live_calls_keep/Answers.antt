use Rattle.live_spec.proofs.Promised.{head_law}
use Rattle.live_spec.proofs.serve_laws.live_calls_keep.Goals as goal

pub returns : goal.returns
returns c = head_law

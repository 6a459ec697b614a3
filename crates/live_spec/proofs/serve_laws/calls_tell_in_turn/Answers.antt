use Rattle.live_spec.proofs.ServeSenders.{calls_law}
use Rattle.live_spec.proofs.serve_laws.calls_tell_in_turn.Goals as goal

pub returns : goal.returns
returns c = calls_law

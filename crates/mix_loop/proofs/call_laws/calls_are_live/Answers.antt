use Rattle.mix_loop.proofs.Following.{calls_law}
use Rattle.mix_loop.proofs.call_laws.calls_are_live.Goals as goal

pub returns : goal.returns
returns c = calls_law

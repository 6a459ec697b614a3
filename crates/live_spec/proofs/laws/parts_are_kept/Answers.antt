use Rattle.live_spec.proofs.Parts.{parts_law}
use Rattle.live_spec.proofs.laws.parts_are_kept.Goals as goal

pub returns : goal.returns
returns c = parts_law

use Rattle.mixer_spec.proofs.piece_laws.hops_have_pieces.Goals as goal
use Rattle.mixer_spec.proofs.TwoHops.{hops_law}

pub returns : goal.returns
returns c = hops_law

use Rattle.live_spec.proofs.LinksStay.{apart_law}
use Rattle.live_spec.proofs.serve_laws.links_are_apart.Goals as goal

pub returns : goal.returns
returns c = apart_law

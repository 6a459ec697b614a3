use Rattle.live_spec.proofs.LinksStay.{stay_law}
use Rattle.live_spec.proofs.serve_laws.links_stay.Goals as goal

pub returns : goal.returns
returns c = stay_law

use Rattle.view_spec.proofs.Parts.{markers_seen}
use Rattle.view_spec.proofs.text_laws.markers_are_seen.Goals as goal

pub returns : goal.returns
returns c = markers_seen

use Rattle.view_spec.proofs.MarkersShown.{all_shown}
use Rattle.view_spec.proofs.laws.markers_are_shown.Goals as goal

pub returns : goal.returns
returns c = all_shown

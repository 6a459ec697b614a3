use Rattle.view_spec.proofs.Markers.{all_heard, markers_kept}
use Rattle.view_spec.proofs.laws.markers_are_told.Goals as goal

pub returns-clause-heard : goal.returns-clause-heard
returns-clause-heard c = all_heard

pub returns-clause-markers : goal.returns-clause-markers
returns-clause-markers c = markers_kept

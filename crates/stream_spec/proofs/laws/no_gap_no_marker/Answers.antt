use Rattle.stream_spec.proofs.laws.no_gap_no_marker.Goals as goal
use Rattle.stream_spec.proofs.Gaps.{l4_no_marker, l4_all}

pub returns-clause-no_marker : goal.returns-clause-no_marker
returns-clause-no_marker c = l4_no_marker

pub returns-clause-all : goal.returns-clause-all
returns-clause-all c h law s = l4_all h s law

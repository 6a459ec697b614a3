use Rattle.stream_spec.proofs.laws.marker_stands.Goals as goal
use Rattle.stream_spec.proofs.Gaps.{l3}

pub returns : goal.returns
returns c h law i a s k below above = l3 h law i s k below above a

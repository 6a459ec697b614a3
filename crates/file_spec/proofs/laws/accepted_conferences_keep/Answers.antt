use Rattle.file_spec.proofs.laws.accepted_conferences_keep.Goals as goal
use Rattle.file_spec.proofs.KeptLines.{accepted_keeps}

pub returns : goal.returns
returns c = accepted_keeps

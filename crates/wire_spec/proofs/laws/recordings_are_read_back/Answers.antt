use Rattle.wire_spec.proofs.Recordings.{read_back}
use Rattle.wire_spec.proofs.laws.recordings_are_read_back.Goals as goal

pub returns : goal.returns
returns c = read_back

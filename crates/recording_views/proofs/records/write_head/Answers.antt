use Rattle.std.proofs.Common.{append_assoc}
use Rattle.recording_views.proofs.records.write_head.Goals as goal

pub returns : goal.returns
returns c = simp append_assoc (cc)

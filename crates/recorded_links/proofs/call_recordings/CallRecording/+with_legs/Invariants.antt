use Rattle.std.proofs.Common.{length}
use Rattle.recorded_links.proofs.call_recordings.CallRecording.+with_legs.Given as goal

abbrev pub decreases-with_legs : goal.decreases-with_legs
decreases-with_legs g l = length l.legs.now

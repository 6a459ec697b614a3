use Rattle.playback.proofs.PlayedUnplanned.{as_written}
use Rattle.playback.proofs.played_laws.unplanned_records_come_as_written.Goals as goal

pub returns : goal.returns
returns c plan t records u h = as_written plan t records u h

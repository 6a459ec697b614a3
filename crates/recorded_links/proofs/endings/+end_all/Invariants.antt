use Rattle.std.proofs.Common.{length}
use Rattle.recorded_links.proofs.endings.+end_all.Given as goal

abbrev pub decreases-end_all : goal.decreases-end_all
decreases-end_all g l = length l.tracks.items

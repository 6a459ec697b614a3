use Rattle.std.proofs.Common.{◌-◌, length}
use Rattle.text_conversions.proofs.Feeding.{Feeding}
use Rattle.text_conversions.proofs.readers.FrameReader.feed.Given as goal

abbrev pub invariant-loop-taken : goal.invariant-loop-taken
invariant-loop-taken l = Feeding l.fn.self l.self l.piece l.out l.taken

abbrev pub decreases-loop-taken : goal.decreases-loop-taken
decreases-loop-taken l = length l.piece - l.taken

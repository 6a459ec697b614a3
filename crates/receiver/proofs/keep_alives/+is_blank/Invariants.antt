use Rattle.std.proofs.Common.{length}
use Rattle.receiver.proofs.keep_alives.+is_blank.Given as goal

abbrev pub decreases-is_blank : goal.decreases-is_blank
decreases-is_blank l = length l.text.now

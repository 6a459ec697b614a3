use Rattle.std.proofs.Common.{length}
use Rattle.sent_log.proofs.writers.+any_text.Given as goal

abbrev pub decreases-any_text : goal.decreases-any_text
decreases-any_text l = length l.kept.now

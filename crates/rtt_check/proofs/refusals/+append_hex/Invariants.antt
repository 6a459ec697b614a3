use Rattle.std.proofs.Common.{length}
use Rattle.rtt_check.proofs.refusals.+append_hex.Given as goal

abbrev pub decreases-append_hex : goal.decreases-append_hex
decreases-append_hex l = length l.octets.now

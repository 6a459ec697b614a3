use Rattle.std.proofs.Common.{length}
use Rattle.text_conversions.proofs.RelayLines.{Reads}
use Rattle.text_conversions.proofs.relays.read_lines.Given as goal

abbrev pub invariant-loop-rest : goal.invariant-loop-rest
invariant-loop-rest l = Reads l.octets l.script l.place l.rest

abbrev pub decreases-loop-rest : goal.decreases-loop-rest
decreases-loop-rest l = length l.rest

use Rattle.std.proofs.Common.{◌≡◌, ℕ, List, length}
use Rattle.rtpdump_io.specs.InMemory.{AreRecords}
use Rattle.rtpdump_io.proofs.Fronts.{Left, Front}
use Rattle.report_spec.specs.Guesses.{accepted}
use Rattle.rtt_show.proofs.likes.accepted_of.Given as goal

abbrev pub invariant-loop-octets : goal.invariant-loop-octets
invariant-loop-octets l = record {
  left : Left l.rest l.number;
  found : (all : List (ℕ × List ℕ)) → AreRecords l.fn.records all → Front (λ came. l.number ≡ length (accepted l.fn.ssrc l.fn.payload_types came)) l.rest all;
}

abbrev pub decreases-loop-octets : goal.decreases-loop-octets
decreases-loop-octets l = length l.rest

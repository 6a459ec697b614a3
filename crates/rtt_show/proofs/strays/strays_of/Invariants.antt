use Rattle.std.proofs.Common.{ℕ, List, [], length}
use Rattle.wire_spec.specs.Dump.{arrivals_after}
use Rattle.rtpdump_io.specs.InMemory.{AreRecords}
use Rattle.rtpdump_io.proofs.Fronts.{Left, Front}
use Rattle.rtt_show.specs.Strays.{IsBound, Strayed}
use Rattle.rtt_show.proofs.strays.strays_of.Given as goal

abbrev pub invariant-loop-at : goal.invariant-loop-at
invariant-loop-at l = record {
  few : (n : ℕ) × Left l.rest n × IsBound n l.follower l.strays;
  found : (all : List (ℕ × List ℕ)) → AreRecords l.fn.records all → Front (λ came. Strayed l.follower l.strays (arrivals_after l.fn.ssrc l.fn.payload_types [] came)) l.rest all;
}

abbrev pub decreases-loop-at : goal.decreases-loop-at
decreases-loop-at l = length l.rest

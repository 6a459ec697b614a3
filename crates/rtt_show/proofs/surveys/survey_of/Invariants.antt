use Rattle.std.proofs.Common.{ℕ, List, length}
use Rattle.rtpdump_io.specs.InMemory.{AreRecords}
use Rattle.rtt_show.specs.Surveys.{IsFew, IsSurvey}
use Rattle.rtpdump_io.proofs.Fronts.{Left, Front}
use Rattle.rtt_show.proofs.surveys.survey_of.Given as goal

abbrev pub invariant-loop-at : goal.invariant-loop-at
invariant-loop-at l = record {
  few : (n : ℕ) × Left l.rest n × IsFew n l.found;
  found : (all : List (ℕ × List ℕ)) → AreRecords l.fn.records all → Front (IsSurvey l.fn.payload_types l.fn.ssrc l.found) l.rest all;
}

abbrev pub decreases-loop-at : goal.decreases-loop-at
decreases-loop-at l = length l.rest

use Rattle.std.proofs.Common.{◌≡◌, ℕ, ◌≤◌, List, length}
use Rattle.std.specs.Prelude.{All}
use Rattle.playback.specs.Written.{AreRecords}
use Rattle.playback.proofs.Going.{FoundFront}
use Rattle.playback.proofs.indexes.find_records.Given as goal
use Rattle.rtpdump_io.proofs.Fronts.{Left}

abbrev pub invariant-loop-moment : goal.invariant-loop-moment
invariant-loop-moment l = record {
  left : Left l.rest (length l.moments.items);
  each : length l.places.items ≡ length l.moments.items;
  within : All (λ place. place ≤ length l.fn.records) l.places.items;
  shorter : length l.rest ≤ length l.fn.records;
  found : (all : List (ℕ × List ℕ)) → AreRecords l.fn.records all → FoundFront l.moments.items l.places.items l.fn.records l.rest all;
}

abbrev pub decreases-loop-moment : goal.decreases-loop-moment
decreases-loop-moment l = length l.rest

use Rattle.std.proofs.Common.{◌≡◌, ℕ, Some, length}
use Rattle.std.specs.Prelude.{slice_get}
use Rattle.mixer_places.specs.Lanes.{Waiting}
use Rattle.mixer_places.proofs.Sources.{Starts}
use Rattle.mixer_places.proofs.slots.Slots.new.Given as goal

abbrev pub invariant-loop-source : goal.invariant-loop-source
invariant-loop-source l = record {
  count : length l.lanes.items ≡ l.source;
  each : (k : ℕ) (w : Waiting) → slice_get l.lanes.items k ≡ Some w → Starts l.legs k w;
}

use Rattle.std.proofs.Common.{◌≡◌, ℕ, Some, length}
use Rattle.std.specs.Prelude.{slice_get}
use Rattle.mixer_places.specs.declared.parts.Part.{Part}
use Rattle.mixer_places.specs.Lanes.{first_part}
use Rattle.mixer_places.proofs.parts.first_parts.Given as goal

abbrev pub invariant-loop-terminal : goal.invariant-loop-terminal
invariant-loop-terminal l = record {
  count : length l.parts.items ≡ l.terminal;
  each : (k : ℕ) (p : Part) → slice_get l.parts.items k ≡ Some p → p ≡ first_part l.own k;
}

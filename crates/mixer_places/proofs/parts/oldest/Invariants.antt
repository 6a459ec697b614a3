use Rattle.std.proofs.Common.{◌≡◌, ℕ, ◌<◌, ◌≤◌, ◌⊎◌, Some}
use Rattle.std.specs.Prelude.{slice_get}
use Rattle.mixer_places.specs.declared.parts.Part.{Part}
use Rattle.mixer_places.specs.Lanes.{Waits}
use Rattle.mixer_places.proofs.parts.oldest.Given as goal

abbrev pub invariant-loop-part : goal.invariant-loop-part
invariant-loop-part l = record {
  least : (j : ℕ) (q : Part) → j < l.part-index → slice_get l.parts j ≡ Some q → Waits l.end q → l.oldest.chunks ≤ q.from.chunks;
  first : (l.oldest ≡ l.end) ⊎ ((j : ℕ) × (q : Part) × (slice_get l.parts j ≡ Some q) × Waits l.end q × (l.oldest ≡ q.from));
}

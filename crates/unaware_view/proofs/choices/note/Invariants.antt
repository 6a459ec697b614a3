use Rattle.std.proofs.Common.{◌≡◌, ℕ, ◌<◌, ◌≤◌, length, false}
use Rattle.unaware_view.specs.Choices.{is_set, noted, since_at}
use Rattle.unaware_view.proofs.choices.note.Given as goal

abbrev pub invariant-loop-i : goal.invariant-loop-i
invariant-loop-i l = record {
  legs : length l.since ≡ length l.fn.since;
  before : (k : ℕ) → k < l.i → since_at l.since k ≡ noted l.fn.media false (is_set l.fn.waits k) (since_at l.fn.since k);
  behind : (k : ℕ) → l.i ≤ k → since_at l.since k ≡ since_at l.fn.since k;
}

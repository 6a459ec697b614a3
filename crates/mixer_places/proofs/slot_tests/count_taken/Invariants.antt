use Rattle.std.proofs.Common.{◌≡◌, ◌≤◌, length}
use Rattle.mixer_places.proofs.slot_tests.count_taken.Given as goal

abbrev pub invariant-loop : goal.invariant-loop
invariant-loop l = (length l.slots ≡ length l.fn.slots) × (l.count ≤ l.counter)

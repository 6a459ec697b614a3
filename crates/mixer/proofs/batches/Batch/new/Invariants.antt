use Rattle.std.proofs.Common.{◌≡◌, length}
use Rattle.mixer.proofs.batches.Batch.new.Given as goal

abbrev pub invariant-loop : goal.invariant-loop
invariant-loop l = length l.places.items ≡ l.counter

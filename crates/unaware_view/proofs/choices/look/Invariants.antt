use Rattle.std.proofs.Common.{◌≡◌, ℕ, ◌<◌, length}
use Rattle.mixer_spec.specs.Composed.{waits_here}
use Rattle.mixer_spec.specs.Setups.{Setup}
use Rattle.mixer_spec.specs.Table.{Table}
use Rattle.mixer_places.specs.SlotStanding.{SlotsStandFor}
use Rattle.unaware_view.specs.Choices.{is_set}
use Rattle.unaware_view.proofs.choices.look.Given as goal

abbrev pub invariant-loop-i : goal.invariant-loop-i
invariant-loop-i l = record {
  legs : length l.waits ≡ length l.fn.waits;
  flags : (s : Setup) (table : Table) → SlotsStandFor s l.fn.slots table → (k : ℕ) → k < l.i → is_set l.waits k ≡ waits_here l.fn.own (table.terminals l.fn.own).waits k;
}

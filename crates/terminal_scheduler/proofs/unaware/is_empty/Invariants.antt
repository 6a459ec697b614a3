use Rattle.std.proofs.Common.{◌≡◌, true}
use Rattle.mixer_spec.specs.Rounds.{all_below}
use Rattle.mixer_spec.specs.Setups.{Setup}
use Rattle.mixer_spec.specs.Table.{Table}
use Rattle.mixer_places.specs.SlotStanding.{SlotsStandFor}
use Rattle.terminal_scheduler.specs.UnawareStanding.{none_here}
use Rattle.terminal_scheduler.proofs.unaware.is_empty.Given as goal

abbrev pub invariant-loop-source : goal.invariant-loop-source
invariant-loop-source l = (s : Setup) (table : Table) → SlotsStandFor s l.slots table → all_below (none_here l.own (table.terminals l.own)) l.source ≡ true

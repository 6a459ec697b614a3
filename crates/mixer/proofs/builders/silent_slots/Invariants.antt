use Rattle.std.proofs.Common.{◌≡◌, length}
use Rattle.mixer_spec.specs.Setups.{Setup}
use Rattle.mixer.proofs.Made.{listening_from}
use Rattle.mixer_places.specs.SlotStanding.{SlotsStandFor}
use Rattle.mixer.proofs.builders.silent_slots.Given as goal

abbrev pub invariant-loop-leg : goal.invariant-loop-leg
invariant-loop-leg l = record {
  count : length l.slots ≡ l.legs;
  stands : (s : Setup) → s.legs ≡ l.legs → SlotsStandFor s l.slots (listening_from l.leg);
}

use Rattle.std.proofs.Common.{◌≡◌, ◌-◌, ◌<◌, get_or, take}
use Rattle.std.specs.List.Sorted.{IsNonDecreasingBy}
use Rattle.sent_log.specs.declared.terminals.LoggedPacket.{LoggedPacket}
use Rattle.sent_log.specs.Insides.{turn_at}
use Rattle.sent_log.proofs.terminals.never_fall.Given as goal

abbrev pub invariant-loop-entry : goal.invariant-loop-entry
invariant-loop-entry l = record {
  rises : IsNonDecreasingBy (λ (e : LoggedPacket). (turn_at l.turns e.turn).now) (take l.entry-index l.entries);
  last : (d : LoggedPacket) → 0 < l.entry-index → (turn_at l.turns (get_or l.entries (l.entry-index - 1) d).turn).now ≡ l.last;
}

use Rattle.std.proofs.Common.{◌≡◌, ◌-◌}
use Rattle.mixer_spec.specs.Rounds.{first_from}
use Rattle.mixer_spec.specs.Table.{is_due_at}
use Rattle.terminal_scheduler.specs.AwareRounds.{AtSeats}
use Rattle.terminal_scheduler.proofs.aware.AwareScheduler.first_from.Given as goal

abbrev pub invariant-loop-place : goal.invariant-loop-place
invariant-loop-place l =
    AtSeats l.fn.self l.fn.seating l.fn.slots (λ s table d.
    first_from (is_due_at s table.seats l.fn.self.own l.fn.media d) l.fn.low (l.fn.high - l.fn.low) ≡ first_from (is_due_at s table.seats l.fn.self.own l.fn.media d) l.place (l.fn.high - l.place))

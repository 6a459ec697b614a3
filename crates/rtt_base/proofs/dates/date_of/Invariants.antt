use Rattle.std.proofs.Common.{◌≡◌, ◌+◌, ◌≤◌}
use Rattle.rtt_base.specs.Dates.{first_of, days_after, date_of}
use Rattle.rtt_base.proofs.dates.date_of.Given as goal

abbrev pub invariant-loop-rest : goal.invariant-loop-rest
invariant-loop-rest l = record {
  far : days_after l.rest (first_of l.year l.month) ≡ date_of l.fn.days;
  month : l.month ≤ 12;
  small : l.year + l.rest ≤ 1970 + l.fn.days;
}

abbrev pub decreases-loop-rest : goal.decreases-loop-rest
decreases-loop-rest l = l.rest

use Rattle.std.proofs.Common.{◌≡◌, ◌++◌, List, drop}
use Rattle.rtt_times.specs.Lines.{Keeps, Line, timed_written}
use Rattle.report_spec.specs.Times.{day_of}
use Rattle.rtt_times.proofs.lines.Lines.append_timed.Given as goal

abbrev pub invariant-loop-index : goal.invariant-loop-index
invariant-loop-index l = (lines : List Line) → Keeps l.fn.self lines → l.out ++ timed_written l.fn.start l.day (drop l.index lines) ≡ l.fn.out ++ timed_written l.fn.start (day_of l.fn.start) lines

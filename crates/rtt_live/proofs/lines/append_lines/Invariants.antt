use Rattle.std.proofs.Common.{◌≡◌, ◌++◌}
use Rattle.file_spec.specs.Conferences.{meaning_of}
use Rattle.rtt_live.proofs.Reading.{totals_below}
use Rattle.rtt_live.proofs.lines.append_lines.Given as goal

abbrev pub invariant-loop-leg : goal.invariant-loop-leg
invariant-loop-leg l = (l.reader ≡ l.fn.reader) × (l.printed ≡ l.fn.printed ++ totals_below (meaning_of l.conference) l.fn.reader.seen l.leg)

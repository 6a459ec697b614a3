use Rattle.std.proofs.Common.{◌≡◌, ◌≤◌, length}
use Rattle.command_spec.specs.Inputs.{inputs_under}
use Rattle.command_spec.specs.Work.{Contents}
use Rattle.file_spec.specs.Conferences.{meaning_of}
use Rattle.rtt_attend.specs.Named.{AreTold, lines_below}
use Rattle.rtt_attend.proofs.input_notes.lines_of.Given as goal

-- the lines of the legs so far
abbrev pub invariant-loop-number : goal.invariant-loop-number
invariant-loop-number l = (held : Contents) → AreTold held (meaning_of l.conference) l.all → l.lines ≡ lines_below (meaning_of l.conference) (inputs_under held l.conference.legs) l.number

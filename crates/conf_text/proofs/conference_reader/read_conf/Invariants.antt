use Rattle.std.proofs.Common.{length}
use Rattle.conf_text.specs.Lines.{above_of}
use Rattle.conf_text.proofs.ConferenceLoop.{HasReadLines}
use Rattle.conf_text.proofs.conference_reader.read_conf.Given as goal

abbrev pub invariant-loop-line : goal.invariant-loop-line
invariant-loop-line l = HasReadLines l.form l.bytes l.rest (above_of l.draft) l.number

abbrev pub decreases-loop-line : goal.decreases-loop-line
decreases-loop-line l = length l.rest

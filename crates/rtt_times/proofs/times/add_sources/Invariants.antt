use Rattle.rtt_times.proofs.Telling.{TextsSoFar}
use Rattle.rtt_times.proofs.times.add_sources.Given as goal

abbrev pub invariant-loop-index : goal.invariant-loop-index
invariant-loop-index l = TextsSoFar l.fn.ssrc l.fn.payload_types l.fn.sources l.index l.fn.records l.fn.lines l.lines

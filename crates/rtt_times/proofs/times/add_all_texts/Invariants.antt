use Rattle.rtt_times.proofs.Telling.{TextedSoFar}
use Rattle.rtt_times.proofs.times.add_all_texts.Given as goal

abbrev pub invariant-loop-index : goal.invariant-loop-index
invariant-loop-index l = TextedSoFar l.fn.payload_types l.fn.streams l.index l.fn.named l.fn.lines l.lines

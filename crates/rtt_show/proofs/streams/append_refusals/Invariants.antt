use Rattle.std.proofs.Common.{◌≡◌, ◌++◌, take, flat_map}
use Rattle.std.specs.Prelude.{slice_index}
use Rattle.command_spec.specs.Showing.{place_of, refusal_line}
use Rattle.rtt_show.proofs.streams.append_refusals.Given as goal

abbrev pub invariant-loop-fault : goal.invariant-loop-fault
invariant-loop-fault l = l.out ≡ l.fn.out ++ flat_map (λ fault. refusal_line fault (slice_index l.refused (place_of fault))) (take l.fault-index l.faults)

use Rattle.std.proofs.Common.{◌≡◌, ◌++◌, map, flat_map, take}
use Rattle.wire_spec.specs.Dump.{record_written}
use Rattle.rtpdump_io.specs.Writing.{timed}
use Rattle.rtpdump_io.proofs.writers.append_records.Given as goal

abbrev pub invariant-loop-record : goal.invariant-loop-record
invariant-loop-record l = l.out ≡ l.fn.out ++ flat_map record_written (map timed (take l.record-index l.records))

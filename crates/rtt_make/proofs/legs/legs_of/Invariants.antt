use Rattle.std.proofs.Common.{◌≡◌, ◌++◌, ◌-◌, map}
use Rattle.std.specs.List.{range_with_len}
use Rattle.command_spec.specs.Generated.{leg}
use Rattle.rtt_make.proofs.legs.legs_of.Given as goal

abbrev pub invariant-loop-number : goal.invariant-loop-number
invariant-loop-number l = map leg (range_with_len 0 l.count) ≡ l.legs ++ map leg (range_with_len l.number (l.count - l.number))

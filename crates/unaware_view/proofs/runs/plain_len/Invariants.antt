use Rattle.std.proofs.Common.{◌≤◌, ◌-◌, length, take, All}
use Rattle.unaware_view.specs.Runs.{IsPlain}
use Rattle.unaware_view.proofs.runs.plain_len.Given as goal

abbrev pub invariant-loop-len : goal.invariant-loop-len
invariant-loop-len l = record {
  fits : l.len ≤ length l.octets;
  plain : All IsPlain (take l.len l.octets);
}

abbrev pub decreases-loop-len : goal.decreases-loop-len
decreases-loop-len l = length l.octets - l.len

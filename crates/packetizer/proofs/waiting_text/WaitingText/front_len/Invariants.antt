use Rattle.std.proofs.Common.{◌≡◌, ◌≤◌, length, min}
use Rattle.stream_spec.specs.Typed.{last_end}
use Rattle.packetizer.proofs.waiting_text.WaitingText.front_len.Given as goal
use Rattle.rtt_base.specs.declared.limits.TheConstants.{MOST_TEXT_OCTETS}

abbrev pub invariant-loop-len : goal.invariant-loop-len
invariant-loop-len l = record {
  value : last_end l.self l.len ≡ last_end l.self (min MOST_TEXT_OCTETS (length l.self));
  short : l.len ≤ MOST_TEXT_OCTETS;
  within : l.len ≤ length l.self;
}

abbrev pub decreases-loop-len : goal.decreases-loop-len
decreases-loop-len l = l.len

use Rattle.std.proofs.Common.{◌≡◌, ◌-◌, ◌*◌, ◌≤◌, length, drop}
use Rattle.wire_spec.specs.Red.{headers_at, older_size}
use Rattle.rtp_text.specs.Reading.{headers_of, after_headers}
use Rattle.rtp_text.proofs.block_readers.scan_headers.Given as goal

-- the headers so far and those of the rest are those of all
abbrev pub invariant-loop-header : goal.invariant-loop-header
invariant-loop-header l = record {
  read : after_headers (headers_of l.count l.octets) (headers_at (8 - l.count) l.t140 l.rest) ≡ headers_at 8 l.t140 l.octets;
  few : l.count ≤ 8;
  there : 4 * l.count ≤ length l.octets;
  rest : l.rest ≡ drop (4 * l.count) l.octets;
  older : l.older ≡ older_size (headers_of l.count l.octets);
  bound : l.older ≤ 1024 * l.count;
}

abbrev pub decreases-loop-header : goal.decreases-loop-header
decreases-loop-header l = length l.rest

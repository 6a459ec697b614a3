use Rattle.std.proofs.Common.{◌≡◌, ◌+◌, ◌*◌, ◌<◌, ◌≤◌, length}
use Rattle.std.specs.Prelude.{IsTrue}
use Rattle.std.specs.Str.{IsAscii}
use Rattle.rtt_base.specs.declared.limits.TheConstants.{MOST_PRIMARY_OCTETS}
use Rattle.wire_spec.specs.Red.{older_size, blocks_at, checked}
use Rattle.rtp_text.specs.Reading.{headers_of, after_blocks}
use Rattle.rtp_text.proofs.block_readers.append_blocks.Given as goal

-- the blocks so far and those of the rest are those of all
abbrev pub invariant-loop-left : goal.invariant-loop-left
invariant-loop-left l = record {
  read : after_blocks l.out (checked (blocks_at (headers_of l.left l.ahead) l.rest)) ≡ after_blocks l.fn.out (checked (blocks_at (headers_of l.count l.headers) l.texts));
  plain : IsTrue l.plain → IsAscii l.rest;
  room : length l.out + l.left < 9;
  ahead : 4 * l.left ≤ length l.ahead;
  there : older_size (headers_of l.left l.ahead) ≤ length l.rest;
  fits : length l.rest ≤ older_size (headers_of l.left l.ahead) + MOST_PRIMARY_OCTETS;
}

abbrev pub decreases-loop-left : goal.decreases-loop-left
decreases-loop-left l = l.left

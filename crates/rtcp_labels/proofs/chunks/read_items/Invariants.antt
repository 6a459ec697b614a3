use Rattle.std.proofs.Common.{◌≡◌, ◌≤◌, length}
use Rattle.wire_spec.specs.Rtcp.{items}
use Rattle.rtcp_labels.specs.Notes.{notes, after}
use Rattle.rtcp_labels.proofs.chunks.read_items.Given as goal

-- the items so far and those of the rest are all
abbrev pub invariant-loop-item : goal.invariant-loop-item
invariant-loop-item l = record {
  exact : after (notes l.out.items l.many) (items l.ssrc l.rest) ≡ after (notes l.fn.out.items l.fn.many) (items l.ssrc l.octets);
  shorter : length l.rest ≤ length l.octets;
}

abbrev pub decreases-loop-item : goal.decreases-loop-item
decreases-loop-item l = length l.rest

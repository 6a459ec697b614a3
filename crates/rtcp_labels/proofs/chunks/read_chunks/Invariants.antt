use Rattle.std.proofs.Common.{◌≡◌}
use Rattle.wire_spec.specs.Rtcp.{chunks}
use Rattle.rtcp_labels.specs.Notes.{notes, after_all}
use Rattle.rtcp_labels.proofs.chunks.read_chunks.Given as goal

-- the chunks so far and those of the rest are all
abbrev pub invariant-loop-left : goal.invariant-loop-left
invariant-loop-left l =
    after_all (notes l.out.items l.many) (chunks l.left l.rest) ≡ after_all (notes l.fn.out.items l.fn.many) (chunks l.count l.octets)

abbrev pub decreases-loop-left : goal.decreases-loop-left
decreases-loop-left l = l.left

use Rattle.std.proofs.Common.{◌≡◌, ◌*◌, ◌≤◌, length}
use Rattle.wire_spec.specs.Rtcp.{byes}
use Rattle.rtcp_labels.specs.Notes.{notes, all_noted}
use Rattle.rtcp_labels.proofs.chunks.note_byes.Given as goal

-- those so far and those of the rest are all
abbrev pub invariant-loop-left : goal.invariant-loop-left
invariant-loop-left l = record {
  exact : all_noted (notes l.out.items l.many) (byes l.left l.rest) ≡ all_noted (notes l.fn.out.items l.fn.many) (byes l.count l.octets);
  there : 4 * l.left ≤ length l.rest;
}

abbrev pub decreases-loop-left : goal.decreases-loop-left
decreases-loop-left l = l.left

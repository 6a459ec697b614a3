use Rattle.std.proofs.Common.{take}
use Rattle.std.specs.List.{flat_map}
use Rattle.wire_spec.specs.Red.{red_header}
use Rattle.rtp_text.proofs.Pieces.{Built}
use Rattle.rtp_text.proofs.block_writers.write_headers.Given as goal

abbrev pub invariant-loop-place : goal.invariant-loop-place
invariant-loop-place g l =
    Built g.O.OctetBuffer.greatest (g.O.OctetBuffer.written l.fn.out) (g.O.OctetBuffer.written l.out) (flat_map (red_header l.t140) (take l.place (g.B.OlderBlocks.blocks l.older l.timestamp)))

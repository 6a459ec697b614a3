use Rattle.std.proofs.Common.{take}
use Rattle.rtp_text.specs.Writing.{text_octets}
use Rattle.rtp_text.proofs.Pieces.{Built}
use Rattle.rtp_text.proofs.block_writers.write_texts.Given as goal

abbrev pub invariant-loop-place : goal.invariant-loop-place
invariant-loop-place g l =
    Built g.O.OctetBuffer.greatest (g.O.OctetBuffer.written l.fn.out) (g.O.OctetBuffer.written l.out) (text_octets (take l.place (g.B.OlderBlocks.blocks l.older l.timestamp)))

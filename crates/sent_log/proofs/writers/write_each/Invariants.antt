use Rattle.std.proofs.Common.{take}
use Rattle.rtp_text.proofs.Pieces.{Built}
use Rattle.sent_log.specs.Writing.{kept_texts}
use Rattle.sent_log.proofs.writers.write_each.Given as goal

abbrev pub invariant-loop-kept : goal.invariant-loop-kept
invariant-loop-kept g l =
    Built g.O.OctetBuffer.greatest (g.O.OctetBuffer.written l.fn.out) (g.O.OctetBuffer.written l.out) (kept_texts l.texts l.terminal (take l.kept-index l.older))

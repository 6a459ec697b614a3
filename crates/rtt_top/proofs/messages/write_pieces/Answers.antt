use Rattle.std.proofs.Common.{arith}
use Rattle.rtt_top.proofs.Fronts.{front_written, more_written}
use Rattle.rtt_top.proofs.messages.write_pieces.Goals as goal

pub returns-in_err-write_all-clause-partly : goal.returns-in_err-write_all-clause-partly
returns-in_err-write_all-clause-partly g c = λ told.
    front_written c.from_residual.result (g.K.Sink.took c.args.out.now) (g.K.Sink.took c.loop-piece.out) (g.K.Sink.took c.write_all.new.self) c.args.pieces.now c.loop-piece.piece-index c.piece-item.result c.as_slice.result.now
    c.loop-piece-test.true c.piece-item.is c.as_slice.ensures (c.loop-piece.invariant.written told) (c.in_err-write_all.ensures.prefix told)

pub loop-piece-preserved : goal.loop-piece-preserved
loop-piece-preserved g c = record {
  never_falls = omega (arith, c.loop-piece.invariant.never_falls, c.write_all.ensures.never_falls);
  written = λ told. more_written (g.K.Sink.took c.args.out.now) (g.K.Sink.took c.loop-piece.out) (g.K.Sink.took c.write_all.new.self) c.args.pieces.now c.loop-piece.piece-index c.piece-item.result c.as_slice.result.now
      c.loop-piece-test.true c.piece-item.is c.as_slice.ensures (c.loop-piece.invariant.written told) (c.in_ok-write_all.ensures.appended told);
}

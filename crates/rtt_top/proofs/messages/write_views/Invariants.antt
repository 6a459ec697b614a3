use Rattle.std.proofs.Common.{◌≡◌, ◌≤◌, ◌++◌, take}
use Rattle.std.specs.List.{concat}
use Rattle.rtt_top.proofs.messages.write_views.Given as goal

abbrev pub invariant-loop-piece : goal.invariant-loop-piece
invariant-loop-piece g l = record {
  never_falls : g.K.Sink.faults l.fn.out ≤ g.K.Sink.faults l.out;
  written : g.K.Sink.tells → g.K.Sink.took l.out ≡ g.K.Sink.took l.fn.out ++ concat (take l.piece-index l.pieces);
}

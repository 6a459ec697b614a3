use Rattle.std.proofs.Common.{◌≡◌, ◌++◌, length}
use Rattle.std.specs.Vec.Iter.{into_iter_items, into_iter_len}
use Rattle.rtt_mix.proofs.pieces.add_pieces.Given as goal

abbrev pub invariant-loop-piece : goal.invariant-loop-piece
invariant-loop-piece l = record {
  all : l.yielded ++ into_iter_items l.piece-iterator ≡ into_iter_items l.initial.piece-iterator;
  left : into_iter_len l.piece-iterator ≡ length (into_iter_items l.piece-iterator);
  added : l.all.items ≡ l.fn.all.items ++ l.yielded;
}

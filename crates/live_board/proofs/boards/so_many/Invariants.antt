use Rattle.std.proofs.Common.{◌≡◌, drop, replicate}
use Rattle.left_right.specs.Sides.{view}
use Rattle.live_board.specs.Views.{reading_of}
use Rattle.live_board.proofs.boards.so_many.Given as goal

abbrev pub invariant-loop : goal.invariant-loop
invariant-loop l = record {
  shown : l.outer.desk.shown ≡ l.fn.outer.desk.shown;
  waits : drop l.outer.behind l.outer.log.items ≡ drop l.fn.outer.behind l.fn.outer.log.items;
  kept : view l.outer.desk.place ≡ view l.fn.outer.desk.place;
  each : l.readers.items ≡ replicate l.counter (reading_of l.fn.outer.desk.shown.value);
}

use Rattle.std.proofs.Common.{◌≡◌, ◌++◌, length}
use Rattle.std.specs.Vec.Iter.{into_iter_items, into_iter_len}
use Rattle.file_spec.specs.Conferences.{meaning_of}
use Rattle.rtt_live.proofs.Showing.{AreFirst}
use Rattle.rtt_live.proofs.views.views_of.Given as goal

abbrev pub invariant-loop-listener : goal.invariant-loop-listener
invariant-loop-listener l = record {
  all : l.yielded ++ into_iter_items l.listener-iterator ≡ into_iter_items l.initial.listener-iterator;
  left : into_iter_len l.listener-iterator ≡ length (into_iter_items l.listener-iterator);
  number : l.own ≡ length l.yielded;
  views : AreFirst (meaning_of l.conference) (into_iter_items l.initial.listener-iterator) l.own l.views;
}

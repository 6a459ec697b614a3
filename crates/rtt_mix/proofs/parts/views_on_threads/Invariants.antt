use Rattle.std.proofs.Common.{◌≡◌, ◌++◌, ◌*◌, length}
use Rattle.std.specs.Prelude.{min}
use Rattle.std.specs.Vec.Iter.{into_iter_items, into_iter_len}
use Rattle.mixer_spec.specs.Table.{Table}
use Rattle.file_spec.specs.Conferences.{meaning_of}
use Rattle.sent_log.specs.Files.{recordings_of}
use Rattle.rtt_mix.specs.Viewed.{AreOf, AreSent, IsSeenBetween}
use Rattle.rtt_mix.proofs.parts.views_on_threads.Given as goal

abbrev pub invariant-loop-part : goal.invariant-loop-part
invariant-loop-part g l = record {
  all : l.yielded ++ into_iter_items l.part-iterator ≡ into_iter_items l.initial.part-iterator;
  left : into_iter_len l.part-iterator ≡ length (into_iter_items l.part-iterator);
  seen : (table : Table) → AreSent (meaning_of l.conference) table (recordings_of l.log) → IsSeenBetween (meaning_of l.conference) table 0 (min (length l.yielded * l.size) (length (recordings_of l.log))) l.total;
  numbers : AreOf (64 * length l.yielded) l.total;
}

use Rattle.std.proofs.Common.{◌≡◌, ◌+◌}
use Rattle.std.specs.Prelude.{sum}
use Rattle.mixer_places.specs.Rings.{count_fitting, chunks_between}
use Rattle.mixer_places.proofs.rings.Ring.place_behind.Given as goal

abbrev pub invariant-loop-index : goal.invariant-loop-index
invariant-loop-index l = record {
  at : l.place.chunks ≡ l.index;
  count : l.fn.from.chunks + count_fitting l.fn.room (chunks_between l.self l.fn.from.chunks l.end) ≡ l.index + count_fitting l.left (chunks_between l.self l.index l.end);
  octets : l.place.octets ≡ l.fn.from.octets + sum (chunks_between l.self l.fn.from.chunks l.index);
  left : l.place.octets + l.left ≡ l.fn.from.octets + l.fn.room;
}

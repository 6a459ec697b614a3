use Rattle.std.proofs.Common.{◌≡◌, ◌++◌, ◌≤◌, length}
use Rattle.std.specs.Vec.{vec_len, vec_capacity}
use Rattle.std.specs.Vec.Iter.{into_iter_items, into_iter_len}
use Rattle.rtt_io.specs.contracts.mem_sources.SteadySourceSource.TheImpl.{left-value}
use Rattle.rtt_mix.specs.Opened.{AllOver}
use Rattle.rtt_mix.proofs.legs.held_legs.Given as goal

abbrev pub invariant-loop-octets : goal.invariant-loop-octets
invariant-loop-octets l = record {
  all : l.yielded ++ into_iter_items l.octets-iterator ≡ into_iter_items l.initial.octets-iterator;
  left : into_iter_len l.octets-iterator ≡ length (into_iter_items l.octets-iterator);
  count : length l.inlets.items ≡ length l.yielded;
  len : vec_len l.inlets ≡ length l.yielded;
  room : length l.legs ≤ vec_capacity l.inlets;
  over : AllOver (Unit {0}) left-value.it l.hearing l.limit l.legs (into_iter_items l.initial.octets-iterator) l.inlets.items;
}

use Rattle.std.proofs.Common.{◌++◌, ap, rules, ◌∙◌}
use Rattle.std.specs.Prelude.{map}
use Rattle.std.specs.Vec.Iter.{into_iter_items, into_iter_len}
use Rattle.workers.proofs.Matching.{fits_first, fits_next, fits_none}
use Rattle.mix_loop.proofs.Opening.{inlets_more, inlets_all}
use Rattle.mix_loop.proofs.port_lists.inlets_of.Goals as goal

pub loop-port-init : goal.loop-port-init
loop-port-init g c = record {
  are = ap (λ l. l ++ map g.P.HasInlet.inlet (into_iter_items c.into_iter-rest.result)) c.requires.none ∙ ap (map g.P.HasInlet.inlet) c.into_iter-rest.ensures.rest;
  fits = fits_first c.args.ports _ _ c.args.inlets c.into_iter-rest.ensures.rest c.into_iter-rest.ensures.len c.requires.none c.requires.room;
}

pub loop-port-preserved : goal.loop-port-preserved
loop-port-preserved g c = record {
  are = inlets_more g.P.HasInlet.inlet c.args.ports.items _ _ c.loop-port.inlets.items _ c.in-Some.port c.into_inlet.result c.loop-port.invariant.are c.in-Some.ensures.cases.0 c.into_inlet.ensures c.push_reserved.ensures.items;
  fits = fits_next _ _ _ _ c.in-Some.port c.loop-port.inlets c.push_reserved.new.self c.loop-port.invariant.fits c.in-Some.ensures.cases c.push_reserved.ensures.len c.push_reserved.ensures.capacity;
}

pub returns : goal.returns
returns g c = inlets_all g.P.HasInlet.inlet c.args.ports.items (into_iter_items c.loop-port.rest) c.loop-port.inlets.items c.loop-port.invariant.are (fits_none (into_iter_items c.loop-port.rest) (into_iter_len c.loop-port.rest) c.loop-port.inlets c.loop-port.invariant.fits (search rules))

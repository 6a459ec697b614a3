use Rattle.std.proofs.Common.{ap, length, arith, rules}
use Rattle.std.specs.Vec.Iter.{into_iter_items, into_iter_len}
use Rattle.workers.proofs.Matching.{fits_one}
use Rattle.mix_loop.proofs.Opening.{opens_all, opens_first, opens_next}
use Rattle.mix_loop.proofs.LiveOpening.{each_more, each_none, inlet_in}
use Rattle.mix_loop.proofs.live_port_lists.ports_over.Goals as goal

pub loop-inlet-init : goal.loop-inlet-init
loop-inlet-init g c = record {
  opens = opens_first inlet_in c.args.inlets _ _ c.args.ports c.into_iter-rest.ensures.rest c.into_iter-rest.ensures.len c.requires.none c.requires.room;
  each = each_none c.args.ports.items c.requires.none;
  left = omega (arith, ap (λ l. length l) c.requires.none, c.into_iter-rest.ensures.len, c.args.ports.ok.0);
}

pub push_reserved-requires : goal.push_reserved-requires
push_reserved-requires g c = fits_one (into_iter_items c.loop-inlet.rest) _ _ c.loop-inlet.ports c.loop-inlet.invariant.opens.fits c.in-Some.ensures.cases.1

pub loop-inlet-preserved : goal.loop-inlet-preserved
loop-inlet-preserved g c =
    let i = c.loop-inlet.invariant in
    record {
      opens = opens_next inlet_in c.args.inlets.items _ _ _ _ c.in-Some.inlet c.new.result c.loop-inlet.ports c.push_reserved.new.self i.opens c.in-Some.ensures.cases c.new.ensures.is c.push_reserved.ensures.items c.push_reserved.ensures.len c.push_reserved.ensures.capacity;
      each = each_more c.loop-inlet.ports.items _ c.in-Some.inlet _ c.new.result i.each (omega (arith, c.len-leg.ensures, c.loop-inlet.ports.ok.0)) c.new.ensures c.push_reserved.ensures.items;
      left = omega (arith, i.left, c.in-Some.ensures.cases.1, c.push_reserved.ensures.len);
    }

pub returns : goal.returns
returns g c = record { are = opens_all inlet_in c.args.inlets.items (into_iter_items c.loop-inlet.rest) (into_iter_len c.loop-inlet.rest) c.loop-inlet.ports c.loop-inlet.invariant.opens (search rules); each = c.loop-inlet.invariant.each }

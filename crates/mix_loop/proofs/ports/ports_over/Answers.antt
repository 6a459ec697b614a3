use Rattle.std.proofs.Common.{◌≡◌, ◌<◌, ℕ, Some, ap, length, arith, rules, subst}
use Rattle.std.specs.Prelude.{slice_get}
use Rattle.std.specs.Vec.Iter.{into_iter_items, into_iter_len}
use Rattle.workers.proofs.Matching.{fits_one}
use Rattle.mix_loop.proofs.Opening.{inlet_in, each_none, each_more, opens_all, opens_first, opens_next}
use Rattle.mix_loop.proofs.ports.ports_over.Goals as goal
use Rattle.stream_spec.proofs.Plain.{get_read}

pub loop-inlet-init : goal.loop-inlet-init
loop-inlet-init g c = record {
  opens = opens_first inlet_in c.args.inlets _ _ c.args.ports c.into_iter-rest.ensures.rest c.into_iter-rest.ensures.len c.requires.none c.requires.room;
  each = each_none c.args.legs.now c.args.ports.items c.requires.none;
  left = omega (arith, ap (λ l. length l) c.requires.none, c.into_iter-rest.ensures.len, c.requires.legs, c.args.ports.ok.0);
}

pub bounds-legs-count : goal.bounds-legs-count
bounds-legs-count g c = let i = c.loop-inlet.invariant in omega (arith, c.len-count.ensures, i.left, c.in-Some.ensures.cases.1)

pub push_reserved-requires : goal.push_reserved-requires
push_reserved-requires g c = fits_one (into_iter_items c.loop-inlet.rest) _ _ c.loop-inlet.ports c.loop-inlet.invariant.opens.fits c.in-Some.ensures.cases.1

pub loop-inlet-preserved : goal.loop-inlet-preserved
loop-inlet-preserved g c =
    let i = c.loop-inlet.invariant in
    let place : c.len-count.result ≡ length c.loop-inlet.ports.items = omega (arith, c.len-count.ensures, c.loop-inlet.ports.ok.0) in
    let low : c.len-count.result < length c.args.legs.now = omega (arith, c.len-count.ensures, i.left, c.in-Some.ensures.cases.1) in
    let next = subst (λ (n : ℕ). slice_get c.args.legs.now n ≡ Some c.index-legs-count.result) place (get_read c.args.legs.now c.len-count.result c.index-legs-count.result low c.index-legs-count.is) in
    record {
      opens = opens_next inlet_in c.args.inlets.items _ _ _ _ c.in-Some.inlet c.new.result c.loop-inlet.ports c.push_reserved.new.self i.opens c.in-Some.ensures.cases c.new.ensures.is c.push_reserved.ensures.items c.push_reserved.ensures.len c.push_reserved.ensures.capacity;
      each = each_more c.args.legs.now c.loop-inlet.ports.items _ c.index-legs-count.result c.in-Some.inlet c.new.result i.each next c.new.ensures c.push_reserved.ensures.items;
      left = omega (arith, i.left, c.in-Some.ensures.cases.1, c.push_reserved.ensures.len);
    }

pub returns : goal.returns
returns g c = record { are = opens_all inlet_in c.args.inlets.items (into_iter_items c.loop-inlet.rest) (into_iter_len c.loop-inlet.rest) c.loop-inlet.ports c.loop-inlet.invariant.opens (search rules); each = c.loop-inlet.invariant.each }

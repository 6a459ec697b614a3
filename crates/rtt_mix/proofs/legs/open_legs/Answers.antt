use Rattle.std.proofs.Common.{◌+◌, List, length, ap, subst, sym, ◌∙◌, arith}
use Rattle.std.proofs.lemmas.List.{length_push}
use Rattle.leg.specs.declared.inlets.LegInlet.{LegInlet}
use Rattle.rtt_mix.specs.Opened.{AllOpened}
use Rattle.rtt_mix.proofs.Opening.{is_first, leg_read_at, not_opened, opened_more}
use Rattle.rtt_mix.proofs.legs.open_legs.Goals as goal

pub returns-in-Err-clause-refused : goal.returns-in-Err-clause-refused
returns-in-Err-clause-refused g c =
    not_opened g.W.World.tells g.W.Src.Source.left g.W.Src.Source.faults g.W.Src.Source.name (g.W.World.contents c.args.world.now) c.args.hearing c.args.limit c.loop-index.index c.args.legs.now c.index-legs-index.result c.loop-index.inlets.items
    (g.W.World.own_faults c.args.world.now) (g.W.World.own_faults c.loop-index.world) (g.W.World.own_faults c.open_leg.new.world) (g.W.World.own_faults c.close_legs.new.world) c.in-Err.fault
    c.loop-index.invariant.opened c.loop-index.invariant.count (leg_read_at c.args.legs.now c.loop-index.index c.index-legs-index.result (omega (arith, c.loop-index-test.true)) c.index-legs-index.is) c.loop-index.invariant.same_own c.close_legs.ensures.same_own c.in-Err.ensures.refused

pub returns-in-Err-clause-first : goal.returns-in-Err-clause-first
returns-in-Err-clause-first g c =
    is_first g.W.World.tells (g.W.World.contents c.args.world.now) (g.W.World.contents c.loop-index.world) c.args.legs.now c.loop-index.index c.index-legs-index.result
    (g.W.World.own_faults c.args.world.now) (g.W.World.own_faults c.loop-index.world) (g.W.World.own_faults c.open_leg.new.world) (g.W.World.own_faults c.close_legs.new.world) c.in-Err.fault
    (leg_read_at c.args.legs.now c.loop-index.index c.index-legs-index.result (omega (arith, c.loop-index-test.true)) c.index-legs-index.is) c.in-Err.ensures.refused c.loop-index.invariant.contents c.in-Err.ensures.no_other c.loop-index.invariant.same_own c.close_legs.ensures.same_own

pub loop-index-preserved : goal.loop-index-preserved
loop-index-preserved g c =
    let i = c.loop-index.invariant in
    let inlet = c.in-Ok-open_leg.inlet in
    let items = c.push_reserved.ensures.items in
    let opened = subst (λ (xs : List (LegInlet g.row.W-Src.Denot)). AllOpened g.W.World.tells g.W.Src.Source.left g.W.Src.Source.faults g.W.Src.Source.name (g.W.World.contents c.args.world.now) c.args.hearing c.args.limit c.args.legs.now xs) (sym items)
    (opened_more g.W.World.tells g.W.Src.Source.left g.W.Src.Source.faults g.W.Src.Source.name (g.W.World.contents c.loop-index.world) (g.W.World.contents c.args.world.now) c.args.hearing c.args.limit c.loop-index.index c.args.legs.now c.index-legs-index.result c.loop-index.inlets.items inlet
    i.contents i.opened i.count (leg_read_at c.args.legs.now c.loop-index.index c.index-legs-index.result (omega (arith, c.loop-index-test.true)) c.index-legs-index.is) c.in-Ok-open_leg.ensures.opened) in
    record {
      count = ap (λ (xs : List (LegInlet g.row.W-Src.Denot)). length xs) items ∙ (length_push c.loop-index.inlets.items inlet ∙ ap (λ n. n + 1) i.count);
      len = omega (arith, c.push_reserved.ensures.len, i.len);
      room = omega (arith, c.push_reserved.ensures.capacity, i.room);
      opened = opened;
      shown = λ t l. c.in-Ok-open_leg.ensures.shown t;
      calm = λ k x e. (opened k x e).2.fresh;
      same_own = λ n. c.in-Ok-open_leg.ensures.calm n ∙ i.same_own n;
      same_objects = λ n. c.open_leg.ensures.same_objects n ∙ i.same_objects n;
      contents = λ t n. c.open_leg.ensures.same_contents t n ∙ i.contents t n;
    }

pub returns-clause-own_never_falls : goal.returns-clause-own_never_falls
returns-clause-own_never_falls g c = λ n. omega (arith, c.loop-index.invariant.same_own n)

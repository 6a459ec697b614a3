use Rattle.std.proofs.Common.{◌≡◌, ◌+◌, List, length, ap, subst, sym, ◌∙◌, arith}
use Rattle.std.proofs.lemmas.List.{length_push}
use Rattle.leg.specs.declared.inlets.LegInlet.{LegInlet}
use Rattle.command_spec.specs.Mixing.{input_at}
use Rattle.cascade.specs.declared.trunk_sources.TrunkSource.{TrunkSource}
use Rattle.cascade.specs.Splits.{recordings_of}
use Rattle.cascade.specs.TrunkSources.{faults_in, left_in, name_in}
use Rattle.rtt_mix.proofs.Opening.{is_first, leg_read_at}
use Rattle.cascade.specs.Feeding.{AllFed}
use Rattle.cascade.proofs.MixedOpening.{fed_more, got_input, not_opened, refused}
use Rattle.cascade.proofs.feeds.open_legs.Goals as goal

pub returns-in-Err-clause-refused : goal.returns-in-Err-clause-refused
returns-in-Err-clause-refused g c =
    not_opened g.W.World.tells g.W.Src.Source.tells (left_in g.W.Src.Source.left) (faults_in g.W.Src.Source.faults) (name_in g.W.Src.Source.name) (g.W.World.contents c.args.world.now) c.args.hearing c.args.limit c.loop-index.index c.args.legs.now
    (recordings_of c.args.splits.now) c.index-legs-index.result c.loop-index.inlets.items
    (g.W.World.own_faults c.args.world.now) (g.W.World.own_faults c.loop-index.world) (g.W.World.own_faults c.open_leg.new.world) (g.W.World.own_faults c.close_legs.new.world) c.in-Err.fault
    c.loop-index.invariant.fed c.loop-index.invariant.count
    (leg_read_at c.args.legs.now c.loop-index.index c.index-legs-index.result (omega (arith, c.loop-index-test.true)) c.index-legs-index.is) c.loop-index.invariant.same_own c.close_legs.ensures.same_own c.in-Err.ensures.refused

pub returns-in-Err-clause-first : goal.returns-in-Err-clause-first
returns-in-Err-clause-first g c =
    is_first g.W.World.tells (g.W.World.contents c.args.world.now) (g.W.World.contents c.loop-index.world) c.args.legs.now c.loop-index.index c.index-legs-index.result
    (g.W.World.own_faults c.args.world.now) (g.W.World.own_faults c.loop-index.world) (g.W.World.own_faults c.open_leg.new.world) (g.W.World.own_faults c.close_legs.new.world) c.in-Err.fault
    (leg_read_at c.args.legs.now c.loop-index.index c.index-legs-index.result (omega (arith, c.loop-index-test.true)) c.index-legs-index.is)
    (refused (g.W.World.own_faults c.loop-index.world) (g.W.World.own_faults c.open_leg.new.world) c.loop-index.index c.index-legs-index.result c.in-Err.fault c.in-Err.ensures.refused)
    c.loop-index.invariant.contents c.in-Err.ensures.no_other c.loop-index.invariant.same_own c.close_legs.ensures.same_own

pub loop-index-preserved : goal.loop-index-preserved
loop-index-preserved g c =
    let i = c.loop-index.invariant in
    let recordings = recordings_of c.args.splits.now in
    let inlet = c.in-Ok-open_leg.inlet in
    let is : c.recording-recording.result.now ≡ input_at recordings c.loop-index.index = got_input recordings c.loop-index.index c.recording-recording.result.now c.recording-recording.ensures in
    let fed = subst (λ (xs : List (LegInlet (TrunkSource g.row.W-Src.Denot))). AllFed g.W.World.tells g.W.Src.Source.tells (left_in g.W.Src.Source.left) (faults_in g.W.Src.Source.faults) (name_in g.W.Src.Source.name) (g.W.World.contents c.args.world.now) c.args.hearing c.args.limit c.args.legs.now recordings xs) (sym c.push_reserved.ensures.items)
    (fed_more g.W.World.tells g.W.Src.Source.tells (left_in g.W.Src.Source.left) (faults_in g.W.Src.Source.faults) (name_in g.W.Src.Source.name) (g.W.World.contents c.loop-index.world) (g.W.World.contents c.args.world.now) c.args.hearing c.args.limit c.loop-index.index c.args.legs.now
    recordings c.index-legs-index.result c.recording-recording.result.now c.loop-index.inlets.items inlet
    i.contents i.fed i.count (leg_read_at c.args.legs.now c.loop-index.index c.index-legs-index.result (omega (arith, c.loop-index-test.true)) c.index-legs-index.is) is c.in-Ok-open_leg.ensures.fed) in
    record {
      count = ap (λ (xs : List (LegInlet (TrunkSource g.row.W-Src.Denot))). length xs) c.push_reserved.ensures.items ∙ (length_push c.loop-index.inlets.items inlet ∙ ap (λ n. n + 1) i.count);
      len = omega (arith, c.push_reserved.ensures.len, i.len);
      room = omega (arith, c.push_reserved.ensures.capacity, i.room);
      fed = fed;
      calm = λ k x e. (fed k x e).2.source.fresh;
      same_own = λ n. c.in-Ok-open_leg.ensures.calm n ∙ i.same_own n;
      same_objects = λ n. c.open_leg.ensures.same_objects n ∙ i.same_objects n;
      contents = λ t n. c.open_leg.ensures.same_contents t n ∙ i.contents t n;
    }

pub returns-clause-own_never_falls : goal.returns-clause-own_never_falls
returns-clause-own_never_falls g c = λ n. omega (arith, c.loop-index.invariant.same_own n)

use Rattle.std.proofs.Common.{List, length, subst, ◌∙◌, arith}
use Rattle.rtt_io.specs.Counts.{Rose}
use Rattle.file_spec.specs.declared.conference_lines.LegLine.{LegLine}
use Rattle.file_spec.specs.Conferences.{meaning_of}
use Rattle.cascade.specs.Splits.{recordings_of}
use Rattle.rtt_mix.specs.Mixes.{IsFirst}
use Rattle.rtt_mix.proofs.Handing.{none_refused, on_ok}
use Rattle.cascade.specs.Feeding.{IsNotOpened}
use Rattle.cascade.proofs.Mixing.{are_new, caused, caused_none, counts_kept, fed_none, kept_none, mixes_fed}
use Rattle.cascade.proofs.feeds.mix_fed.Goals as goal

pub mix_opened-mixed-requires-clause-new : goal.mix_opened-mixed-requires-clause-new
mix_opened-mixed-requires-clause-new g c = λ κs lives.
    are_new g.W.World.tells g.W.Src.Source.tells g.W.Src.Source.left g.W.Src.Source.faults g.W.Src.Source.name (g.W.World.contents c.args.world.now) (meaning_of c.args.conference.now) (recordings_of c.args.splits.now) c.as_slice.result.now c.of-hearing.result c.input_limit-limit.result c.in-Ok.legs.items
    c.as_slice.ensures c.of-hearing.ensures.value c.input_limit-limit.ensures c.in-Ok.ensures.legs c.in-Ok.ensures.fed

pub returns-clause-mixes : goal.returns-clause-mixes
returns-clause-mixes g c = λ told tells.
    mixes_fed g.W.World.tells g.W.Src.Source.tells g.W.Src.Source.left g.W.Src.Source.faults g.W.Src.Source.name (g.W.World.contents c.args.world.now) (meaning_of c.args.conference.now) (recordings_of c.args.splits.now) c.as_slice.result.now c.of-hearing.result c.input_limit-limit.result c.in-Ok.legs.items
    c.as_slice.ensures c.of-hearing.ensures.value c.input_limit-limit.ensures c.in-Ok.ensures.legs c.in-Ok.ensures.fed c.mix_opened-mixed.result.mixed c.mix_opened-mixed.ensures.leg c.mix_opened-mixed.ensures.mixes told tells

pub returns-clause-caused : goal.returns-clause-caused
returns-clause-caused g c =
    let own = g.W.World.own_faults in
    let objects = g.W.World.object_faults in
    caused g.W.World.tells g.W.Src.Source.tells g.W.Src.Source.left g.W.Src.Source.faults g.W.Src.Source.name (g.W.World.contents c.args.world.now) (meaning_of c.args.conference.now) (recordings_of c.args.splits.now) c.as_slice.result.now c.of-hearing.result c.input_limit-limit.result c.in-Ok.legs.items
    c.as_slice.ensures c.of-hearing.ensures.value c.input_limit-limit.ensures c.in-Ok.ensures.legs c.in-Ok.ensures.fed c.mix_opened-mixed.result.mixed c.mix_opened-mixed.ensures.leg
    (objects c.args.world.now) (objects c.close_legs.new.world) c.mix_opened-mixed.result.legs.items c.mix_opened-mixed.ensures.legs c.mix_opened-mixed.ensures.sources (λ n. Rose (own c.args.world.now n) (own c.close_legs.new.world n))
    (λ j q at name named rose. subst (λ n. Rose n (objects c.close_legs.new.world name)) (c.open_legs.ensures.same_objects name) (c.close_legs.ensures.failed j q at name named rose))

pub returns-clause-kept : goal.returns-clause-kept
returns-clause-kept g c =
    let objects = g.W.World.object_faults in
    counts_kept g.W.World.tells g.W.Src.Source.tells g.W.Src.Source.left g.W.Src.Source.faults g.W.Src.Source.name (g.W.World.contents c.args.world.now) (meaning_of c.args.conference.now) (recordings_of c.args.splits.now) c.as_slice.result.now c.of-hearing.result c.input_limit-limit.result c.in-Ok.legs.items
    c.as_slice.ensures c.of-hearing.ensures.value c.input_limit-limit.ensures c.in-Ok.ensures.legs c.in-Ok.ensures.fed c.mix_opened-mixed.result.mixed c.mix_opened-mixed.ensures.leg
    (objects c.args.world.now) (objects c.close_legs.new.world) c.mix_opened-mixed.result.legs.items c.mix_opened-mixed.ensures.legs c.mix_opened-mixed.ensures.sources (g.W.World.contents c.open_legs.new.world) c.open_legs.ensures.same_contents
    (λ calm n. c.close_legs.ensures.calm calm n ∙ c.open_legs.ensures.same_objects n)
    (λ told n left. c.close_legs.ensures.left told n left ∙ c.open_legs.ensures.same_objects n)

pub returns-in-Err-clause-mixes : goal.returns-in-Err-clause-mixes
returns-in-Err-clause-mixes g c = λ told tells.
    let conference = meaning_of c.args.conference.now in
    let held = g.W.World.contents c.args.world.now in
    let own = g.W.World.own_faults in
    fed_none g.W.World.tells held (own c.args.world.now) (own c.open_legs.new.world) (recordings_of c.args.splits.now) conference c.in-Err.fault
    (subst (λ (ls : List LegLine). IsNotOpened g.W.World.tells held (own c.args.world.now) (own c.open_legs.new.world) ls c.in-Err.fault) c.as_slice.ensures c.in-Err.ensures.refused) told

pub returns-in-Err-clause-caused : goal.returns-in-Err-clause-caused
returns-in-Err-clause-caused g c =
    let held = g.W.World.contents c.args.world.now in
    let own = g.W.World.own_faults in
    let objects = g.W.World.object_faults in
    caused_none g.W.World.tells held (own c.args.world.now) (own c.open_legs.new.world) (λ n. Rose (objects c.args.world.now n) (objects c.open_legs.new.world n)) c.args.conference.now.legs c.in-Err.fault
    (subst (λ (ls : List LegLine). IsNotOpened g.W.World.tells held (own c.args.world.now) (own c.open_legs.new.world) ls c.in-Err.fault) c.as_slice.ensures c.in-Err.ensures.refused)

pub returns-in-Err-clause-kept : goal.returns-in-Err-clause-kept
returns-in-Err-clause-kept g c =
    let held = g.W.World.contents c.args.world.now in
    let own = g.W.World.own_faults in
    let objects = g.W.World.object_faults in
    kept_none g.W.World.tells held (own c.args.world.now) (own c.open_legs.new.world) (objects c.args.world.now) (objects c.open_legs.new.world) c.args.conference.now.legs c.in-Err.fault
    (subst (λ (ls : List LegLine). IsNotOpened g.W.World.tells held (own c.args.world.now) (own c.open_legs.new.world) ls c.in-Err.fault) c.as_slice.ensures c.in-Err.ensures.refused)
    c.open_legs.ensures.same_objects

pub returns-clause-calls_never_fall : goal.returns-clause-calls_never_fall
returns-clause-calls_never_fall g c = λ n. omega (arith, c.open_legs.ensures.own_never_falls n, c.close_legs.ensures.same_own n)

pub returns-clause-objects_never_fall : goal.returns-clause-objects_never_fall
returns-clause-objects_never_fall g c = λ n. omega (arith, c.open_legs.ensures.same_objects n, c.close_legs.ensures.objects_never_fall n)

pub returns-clause-first : goal.returns-clause-first
returns-clause-first g c =
    none_refused g.W.World.tells (g.W.World.contents c.args.world.now) c.args.conference.now.legs (g.W.World.own_faults c.args.world.now) (g.W.World.own_faults c.close_legs.new.world) (length c.args.conference.now.legs)
    c.mix_opened-mixed.result.mixed c.mix_opened-mixed.ensures.leg (λ n. c.close_legs.ensures.same_own n ∙ c.in-Ok.ensures.calm n)

pub returns-in-Err-clause-first : goal.returns-in-Err-clause-first
returns-in-Err-clause-first g c =
    let held = g.W.World.contents c.args.world.now in
    let own = g.W.World.own_faults in
    subst (λ (ls : List LegLine). IsFirst g.W.World.tells held ls (own c.args.world.now) (own c.open_legs.new.world) c.in-Err.fault) c.as_slice.ensures c.in-Err.ensures.first

pub returns-clause-opened : goal.returns-clause-opened
returns-clause-opened g c = on_ok c.mix_opened-mixed.result.mixed _ (λ n. c.close_legs.ensures.same_own n ∙ c.in-Ok.ensures.calm n)

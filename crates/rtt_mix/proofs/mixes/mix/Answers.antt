use Rattle.std.proofs.Common.{List, length, ap, subst, ◌∙◌, arith}
use Rattle.rtt_io.specs.Counts.{Rose}
use Rattle.file_spec.specs.declared.conference_lines.LegLine.{LegLine}
use Rattle.file_spec.specs.Conferences.{meaning_of}
use Rattle.leg.specs.Answers.{source_in}
use Rattle.rtt_mix.specs.Mixes.{RoseAt}
use Rattle.rtt_mix.proofs.Handing.{are_new, is_made, none_failed, none_failed_yet, none_refused, on_ok, stops}
use Rattle.rtt_mix.proofs.mixes.mix.Goals as goal

pub mix_opened-mixed-requires-clause-new : goal.mix_opened-mixed-requires-clause-new
mix_opened-mixed-requires-clause-new g c = λ κs lives.
    are_new g.W.World.tells g.W.Src.Source.left g.W.Src.Source.faults g.W.Src.Source.name (g.W.World.contents c.args.world.now) (meaning_of c.args.conference.now) c.as_slice-lines.result.now c.of-hearing.result c.input_limit-limit.result c.in-Ok.legs.items
    c.as_slice-lines.ensures c.of-hearing.ensures.value c.input_limit-limit.ensures c.in-Ok.ensures.legs c.in-Ok.ensures.opened

pub returns-clause-made : goal.returns-clause-made
returns-clause-made g c =
    is_made g.W.World.tells g.W.Src.Source.left g.W.Src.Source.faults g.W.Src.Source.name (g.W.World.contents c.args.world.now) (meaning_of c.args.conference.now) c.as_slice-lines.result.now c.of-hearing.result c.input_limit-limit.result c.in-Ok.legs.items
    c.as_slice-lines.ensures c.of-hearing.ensures.value c.input_limit-limit.ensures c.in-Ok.ensures.legs c.in-Ok.ensures.opened c.mix_opened-mixed.result.mixed g.W.Src.Source.tells (omega (arith, c.args.conference.now.kept.two, ap (λ (xs : List LegLine). length xs) c.as_slice-lines.ensures)) c.in-Ok.ensures.shown c.mix_opened-mixed.ensures.mixes

pub returns-clause-stops : goal.returns-clause-stops
returns-clause-stops g c =
    stops g.W.World.tells g.W.Src.Source.left g.W.Src.Source.faults g.W.Src.Source.name (g.W.World.contents c.args.world.now) (meaning_of c.args.conference.now) c.as_slice-lines.result.now c.of-hearing.result c.input_limit-limit.result c.in-Ok.legs.items
    c.as_slice-lines.ensures c.of-hearing.ensures.value c.input_limit-limit.ensures c.in-Ok.ensures.legs c.in-Ok.ensures.opened c.mix_opened-mixed.result.mixed g.W.Src.Source.tells (omega (arith, c.args.conference.now.kept.two, ap (λ (xs : List LegLine). length xs) c.as_slice-lines.ensures)) c.in-Ok.ensures.shown c.mix_opened-mixed.ensures.mixes
    (g.W.World.object_faults c.args.world.now) (g.W.World.object_faults c.close_legs.new.world) c.mix_opened-mixed.result.legs.items c.mix_opened-mixed.ensures.legs
    (RoseAt (g.W.World.own_faults c.args.world.now) (g.W.World.own_faults c.close_legs.new.world)) c.mix_opened-mixed.ensures.sources c.mix_opened-mixed.ensures.leg
    (λ j q at rose. subst (λ n. Rose n (g.W.World.object_faults c.close_legs.new.world (g.W.Src.Source.name (source_in q)))) (c.in-Ok.ensures.same_objects (g.W.Src.Source.name (source_in q)))
    (c.close_legs.ensures.counts.failed j q at rose))

pub returns-clause-none_failed : goal.returns-clause-none_failed
returns-clause-none_failed g c =
    none_failed g.W.World.tells g.W.Src.Source.left g.W.Src.Source.faults g.W.Src.Source.name (g.W.World.contents c.args.world.now) (meaning_of c.args.conference.now) c.as_slice-lines.result.now c.of-hearing.result c.input_limit-limit.result c.in-Ok.legs.items
    c.as_slice-lines.ensures c.of-hearing.ensures.value c.input_limit-limit.ensures c.in-Ok.ensures.legs c.in-Ok.ensures.opened c.mix_opened-mixed.result.mixed g.W.Src.Source.tells (omega (arith, c.args.conference.now.kept.two, ap (λ (xs : List LegLine). length xs) c.as_slice-lines.ensures)) c.in-Ok.ensures.shown c.mix_opened-mixed.ensures.mixes
    (g.W.World.object_faults c.args.world.now) (g.W.World.object_faults c.close_legs.new.world) c.mix_opened-mixed.result.legs.items c.mix_opened-mixed.ensures.legs
    (g.W.World.contents c.open_legs.new.world) c.mix_opened-mixed.ensures.sources c.mix_opened-mixed.ensures.leg c.in-Ok.ensures.same_contents
    (λ calm n. c.close_legs.ensures.counts.calm calm n ∙ c.in-Ok.ensures.same_objects n)
    (λ told n left. c.close_legs.ensures.counts.left told n left ∙ c.in-Ok.ensures.same_objects n)

pub returns-in-Err-clause-none_failed : goal.returns-in-Err-clause-none_failed
returns-in-Err-clause-none_failed g c =
    none_failed_yet g.W.World.tells (g.W.World.contents c.args.world.now) (g.W.World.own_faults c.args.world.now) (g.W.World.own_faults c.open_legs.new.world)
    (g.W.World.object_faults c.args.world.now) (g.W.World.object_faults c.open_legs.new.world) c.as_slice-lines.result.now (meaning_of c.args.conference.now).legs c.in-Err.fault c.in-Err.ensures.refused c.in-Err.ensures.same_objects

pub returns-clause-calls_never_fall : goal.returns-clause-calls_never_fall
returns-clause-calls_never_fall g c = λ n. omega (arith, c.in-Ok.ensures.own_never_falls n, c.close_legs.ensures.same_own n)

pub returns-clause-objects_never_fall : goal.returns-clause-objects_never_fall
returns-clause-objects_never_fall g c = λ n. omega (arith, c.in-Ok.ensures.same_objects n, c.close_legs.ensures.objects_never_fall n)

pub returns-clause-first : goal.returns-clause-first
returns-clause-first g c =
    none_refused g.W.World.tells (g.W.World.contents c.args.world.now) c.args.conference.now.legs (g.W.World.own_faults c.args.world.now) (g.W.World.own_faults c.close_legs.new.world) (length c.args.conference.now.legs)
    c.mix_opened-mixed.result.mixed c.mix_opened-mixed.ensures.leg (λ n. c.close_legs.ensures.same_own n ∙ c.in-Ok.ensures.calm n)

pub returns-clause-opened : goal.returns-clause-opened
returns-clause-opened g c = on_ok c.mix_opened-mixed.result.mixed _ (λ n. c.close_legs.ensures.same_own n ∙ c.in-Ok.ensures.calm n)

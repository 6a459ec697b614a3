use Rattle.std.proofs.Common.{Err, refl, ap, sym, subst, ◌∙◌}
use Rattle.rtt_words.specs.Words as words
use Rattle.command_spec.specs.Messages.{Ending}
use Rattle.rtt_words.specs.Commands.{cascaded}
use Rattle.rtt_top.specs.Conferences.{ending_behind}
use Rattle.rtt_top.specs.Outside.{outside_at}
use Rattle.rtt_top.specs.Runs.{Ends}
use Rattle.rtt_top.proofs.Cascading.{cascade_reads}
use Rattle.rtt_top.proofs.Ending.{runs}
use Rattle.rtt_top.proofs.Working.{stopped}
use Rattle.rtt_top.proofs.Since.{ends_since, same_name}
use Rattle.rtt_top.proofs.trunk.run_cascade.Goals as goal

pub returns-in-Err : goal.returns-in-Err
returns-in-Err g c =
    let old = outside_at g.W.World g.K.Sink c.args.world.now c.args.out.now in
    let new = outside_at g.W.World g.K.Sink c.conference_under.new.world c.args.out.now in
    let asked = c.args.words.now in
    let name = asked.conference.now in
    let command = words.Cascade (cascaded asked) in
    let ending : Ending = Err c.in-Err.fault in
    runs ending name c.finish_with.ensures.status
    (subst (λ n. Ends command g.W.World.tells g.K.Sink.tells old new n ending) (same_name name ending)
    (stopped command g.W.World.tells g.K.Sink.tells old new name name c.in-Err.fault refl (c.in-Err.ensures.stops command (cascade_reads name asked.file.now asked.ssrc)) ((λ shown. refl), c.in-Err.ensures.same_contents)))
    c.finish_with.ensures.silent c.finish_with.ensures.front c.finish_with.ensures.told

pub returns : goal.returns
returns g c =
    let old = outside_at g.W.World g.K.Sink c.args.world.now c.args.out.now in
    let new = outside_at g.W.World g.K.Sink c.cascade_conference-ending.new.world c.cascade_conference-ending.new.out in
    let asked = c.args.words.now in
    let conference = asked.conference.now in
    let command = words.Cascade (cascaded asked) in
    let ending = c.cascade_conference-ending.result in
    let read = c.in-Ok.ensures.read in
    let named = c.name_behind-name.ensures ∙ ap (λ legs. ending_behind conference asked.file.now legs ending) c.as_slice.ensures in
    runs ending c.name_behind-name.result.now c.finish_with-2.ensures.status
    (subst (λ n. Ends command g.W.World.tells g.K.Sink.tells old new n ending) (sym named)
    (ends_since command g.W.World.tells g.K.Sink.tells old (outside_at g.W.World g.K.Sink c.conference_under.new.world c.args.out.now) new (ending_behind conference asked.file.now c.in-Ok.conference.legs ending) ending
    (record { same = c.in-Ok.ensures.same_contents; calls_rise = c.in-Ok.ensures.calls_never_fall; objects_rise = c.in-Ok.ensures.objects_never_fall }) refl refl c.in-Ok.ensures.calm c.in-Ok.ensures.opened
    (c.cascade_conference-ending.ensures conference read.0 (λ told. c.in-Ok.ensures.same_contents told conference ∙ read.1 told) read.2)))
    c.finish_with-2.ensures.silent c.finish_with-2.ensures.front c.finish_with-2.ensures.told

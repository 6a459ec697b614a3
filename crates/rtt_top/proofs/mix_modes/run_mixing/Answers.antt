use Rattle.std.proofs.Common.{Err, refl, ap, sym, subst, ◌∙◌}
use Rattle.command_spec.specs.Messages.{Ending}
use Rattle.command_spec.specs.Work.{IsInput, Steps}
use Rattle.rtt_top.specs.Outside.{outside_at}
use Rattle.rtt_words.specs.Commands.{mixed}
use Rattle.rtt_top.specs.Conferences.{ending_name}
use Rattle.rtt_top.specs.Recorded.{asked_as}
use Rattle.rtt_top.specs.Runs.{Ends}
use Rattle.rtt_top.proofs.Conferring.{reads_as}
use Rattle.rtt_top.proofs.Ending.{runs}
use Rattle.rtt_top.proofs.Statused.{no_check_mixing, other}
use Rattle.rtt_top.proofs.Working.{stopped}
use Rattle.rtt_top.proofs.Since.{ends_since, same_name}
use Rattle.rtt_top.proofs.mix_modes.run_mixing.Goals as goal

pub returns-in-Err : goal.returns-in-Err
returns-in-Err g c =
    let old = outside_at g.W.World g.K.Sink c.args.world.now c.args.out.now in
    let new = outside_at g.W.World g.K.Sink c.conference_under.new.world c.args.out.now in
    let file = c.args.words.now.conference.now in
    let command = asked_as c.args.mixing (mixed c.args.words.now) in
    let reads = reads_as c.args.mixing file in
    let ending : Ending = Err c.in-Err.fault in
    runs ending file
    (other command g.W.World.tells (g.W.World.contents c.args.world.now) ending c.finish_with.result (no_check_mixing c.args.mixing (mixed c.args.words.now)) c.finish_with.ensures.status)
    (subst (λ n. Ends command g.W.World.tells g.K.Sink.tells old new n ending) (same_name file ending)
    (stopped command g.W.World.tells g.K.Sink.tells old new file file c.in-Err.fault
    (subst (λ (s : Steps). IsInput g.W.World.tells old.contents s 0 file) (sym reads.steps) refl)
    (c.in-Err.ensures.stops command reads) ((λ shown. refl), c.in-Err.ensures.same_contents)))
    c.finish_with.ensures.silent c.finish_with.ensures.front c.finish_with.ensures.told

pub returns : goal.returns
returns g c =
    let old = outside_at g.W.World g.K.Sink c.args.world.now c.args.out.now in
    let new = outside_at g.W.World g.K.Sink c.mix_as-ending.new.world c.mix_as-ending.new.out in
    let file = c.args.words.now.conference.now in
    let command = asked_as c.args.mixing (mixed c.args.words.now) in
    let ending = c.mix_as-ending.result in
    let read = c.in-Ok.ensures.read in
    let named = c.name_at_end-name.ensures ∙ ap (λ legs. ending_name file legs ending) c.as_slice.ensures in
    runs ending c.name_at_end-name.result.now
    (other command g.W.World.tells (g.W.World.contents c.args.world.now) ending c.finish_with-2.result (no_check_mixing c.args.mixing (mixed c.args.words.now)) c.finish_with-2.ensures.status)
    (subst (λ n. Ends command g.W.World.tells g.K.Sink.tells old new n ending) (sym named)
    (ends_since command g.W.World.tells g.K.Sink.tells old (outside_at g.W.World g.K.Sink c.conference_under.new.world c.args.out.now) new (ending_name file c.mix_as-ending.new.conference.legs ending) ending
    (record { same = c.in-Ok.ensures.same_contents; calls_rise = c.in-Ok.ensures.calls_never_fall; objects_rise = c.in-Ok.ensures.objects_never_fall }) refl refl c.in-Ok.ensures.calm c.in-Ok.ensures.opened
    (c.mix_as-ending.ensures file read.0 (λ told. c.in-Ok.ensures.same_contents told file ∙ read.1 told) read.2)))
    c.finish_with-2.ensures.silent c.finish_with-2.ensures.front c.finish_with-2.ensures.told

use Rattle.std.proofs.Common.{Err, refl, ap, sym, subst, ◌∙◌}
use Rattle.file_spec.specs.Conferences.{meaning_of}
use Rattle.command_spec.specs.declared.faults.Fault.{Fault}
use Rattle.command_spec.specs.Inputs.{inputs_under}
use Rattle.command_spec.specs.Mixing.{counted}
use Rattle.command_spec.specs.Work.{Contents}
use Rattle.rtt_top.specs.Conferences.{ending_name}
use Rattle.rtt_top.specs.Outside.{outside_at}
use Rattle.rtt_top.specs.Runs.{Ends}
use Rattle.rtt_top.proofs.Bridging.{stopped_mixing}
use Rattle.rtt_top.proofs.Since.{comes_since, ends_since}
use Rattle.rtt_top.proofs.mix.mix_conference.Goals as goal

pub returns-in-Err : goal.returns-in-Err
returns-in-Err g c = λ file command m.
    let old = outside_at g.W.World g.K.Sink c.args.world.now c.args.out.now in
    let new = outside_at g.W.World g.K.Sink c.count_inputs.new.world c.args.out.now in
    let P : Fault → Type 0 = λ f. Ends command g.W.World.tells g.K.Sink.tells old new (ending_name file c.args.conference.now.legs (Err f)) (Err f) in
    subst P (sym c.fault_of_mixing.ensures)
    (stopped_mixing g.W.World.tells g.K.Sink.tells old new file command (meaning_of c.args.conference.now) c.in-Err.fault m c.in-Err.ensures.stops c.in-Err.ensures.none_failed c.in-Err.ensures.first ((λ shown. refl), c.count_inputs.ensures.same_contents))

pub returns : goal.returns
returns g c = λ file command m.
    let conference = meaning_of c.args.conference.now in
    let old = outside_at g.W.World g.K.Sink c.args.world.now c.args.out.now in
    let mid = outside_at g.W.World g.K.Sink c.count_inputs.new.world c.args.out.now in
    let new = outside_at g.W.World g.K.Sink c.mix_with.new.world c.mix_with.new.out in
    let same = c.count_inputs.ensures.same_contents in
    ends_since command g.W.World.tells g.K.Sink.tells old mid new (ending_name file conference.legs c.mix_with.result) c.mix_with.result
    (record { same = same; calls_rise = c.count_inputs.ensures.calls_never_fall; objects_rise = c.count_inputs.ensures.objects_never_fall }) refl refl c.in-Ok.ensures.calm c.in-Ok.ensures.opened
    (c.mix_with.ensures (λ told. c.in-Ok.ensures.counted told ∙ ap (λ (held : Contents). counted conference (inputs_under held conference.legs)) (λ i name. sym (same told name) i)) file command
    (comes_since g.W.World.tells old.contents mid.contents same command conference m))

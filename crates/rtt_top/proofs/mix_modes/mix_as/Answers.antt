use Rattle.std.proofs.Common.{Err, refl, sym, subst, ◌∙◌}
use Rattle.file_spec.specs.Conference.{Conference}
use Rattle.rtt_words.specs.Words.{Attend, Command}
use Rattle.command_spec.specs.declared.faults.Fault.{Fault}
use Rattle.file_spec.specs.Conferences.{meaning_of}
use Rattle.rtt_top.specs.declared.mix_modes.MixMode.{MixMode}
use Rattle.rtt_top.specs.declared.mix_modes.MixMode.TheVariants.{Plain}
use Rattle.rtt_top.specs.Conferences.{ending_name, fault_of_mixing}
use Rattle.rtt_top.specs.Outside.{outside_at}
use Rattle.rtt_top.specs.Recorded.{MixingEndsAs, asked_as}
use Rattle.rtt_top.specs.Runs.{Ends}
use Rattle.rtt_top.proofs.Attending.{unheard}
use Rattle.rtt_top.proofs.Mixings.{IsToldOf, attend_comes, mix_comes, told_since}
use Rattle.rtt_top.proofs.Since.{ends_since}
use Rattle.rtt_top.proofs.mix_modes.mix_as.Goals as goal

pub returns-in-Plain : goal.returns-in-Plain
returns-in-Plain g c =
    let here = meaning_of c.args.conference.now in
    subst (λ (m : MixMode). MixingEndsAs m g.W.World g.K.Sink c.args.world.now c.args.out.now c.mix_conference.new.world c.mix_conference.new.out here here c.mix_conference.result) (sym c.in-Plain.is)
    (λ file octets lies is. c.mix_conference.ensures file (asked_as Plain (record { conference = file })) (mix_comes g.W.World.tells (g.W.World.contents c.args.world.now) file octets here lies is))

pub returns-in-Ok : goal.returns-in-Ok
returns-in-Ok g c =
    let old = outside_at g.W.World g.K.Sink c.args.world.now c.args.out.now in
    let mid = outside_at g.W.World g.K.Sink c.hear_names.new.world c.args.out.now in
    let mixed = c.mix_conference-in-Ok in
    let new = outside_at g.W.World g.K.Sink mixed.new.world mixed.new.out in
    let before = meaning_of c.args.conference.now in
    let now = meaning_of c.hear_names.new.conference in
    let some = c.in-Ok.ensures.named_some in
    let told : IsToldOf g.W.World.tells old.contents before now = record { says = some.0; is = some.1; named = λ told. (c.in-Ok.ensures.named told).is } in
    subst (λ (m : MixMode). MixingEndsAs m g.W.World g.K.Sink c.args.world.now c.args.out.now mixed.new.world mixed.new.out before now mixed.result) (sym c.in-Attending.is)
    (λ file octets there read.
    let command : Command = Attend (record { conference = file }) in
    ends_since command g.W.World.tells g.K.Sink.tells old mid new (ending_name file now.legs mixed.result) mixed.result
    (record { same = c.hear_names.ensures.same_contents; calls_rise = c.hear_names.ensures.calls_never_fall; objects_rise = c.hear_names.ensures.objects_never_fall }) refl refl c.in-Ok.ensures.calm c.in-Ok.ensures.opened
    (mixed.ensures file command
    (attend_comes g.W.World.tells mid.contents file octets before now (λ tells. c.hear_names.ensures.same_contents tells file ∙ there tells) read
    (told_since g.W.World.tells old.contents mid.contents before now c.hear_names.ensures.same_contents told))))

pub returns-in-Err : goal.returns-in-Err
returns-in-Err g c =
    let old = outside_at g.W.World g.K.Sink c.args.world.now c.args.out.now in
    let new = outside_at g.W.World g.K.Sink c.hear_names.new.world c.args.out.now in
    let before = meaning_of c.args.conference.now in
    let now = meaning_of c.hear_names.new.conference in
    let fault = c.in-Err.fault in
    subst (λ (m : MixMode). MixingEndsAs m g.W.World g.K.Sink c.args.world.now c.args.out.now c.hear_names.new.world c.args.out.now before now (Err c.fault_of_mixing.result)) (sym c.in-Attending.is)
    (λ file octets there read.
    let command : Command = Attend (record { conference = file }) in
    let ends = unheard g.W.World.tells g.K.Sink.tells old new file octets before fault there read c.in-Err.ensures.in_time c.in-Err.ensures.stops c.in-Err.ensures.none_failed c.in-Err.ensures.first
    ((λ shown. refl), c.hear_names.ensures.same_contents) in
    let P : Fault → Type 0 = λ f. Ends command g.W.World.tells g.K.Sink.tells old new (ending_name file now.legs (Err f)) (Err f) in
    let Q : Conference → Type 0 = λ d. Ends command g.W.World.tells g.K.Sink.tells old new (ending_name file d.legs (Err (fault_of_mixing d.turns fault))) (Err (fault_of_mixing d.turns fault)) in
    subst P (sym c.fault_of_mixing.ensures) (subst Q (sym c.in-Err.ensures.unchanged) ends))

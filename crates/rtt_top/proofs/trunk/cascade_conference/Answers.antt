use Rattle.std.proofs.Common.{◌≡◌, None, Some, Err, refl, ap, sym, subst, ◌∙◌}
use Rattle.std.specs.List.{concat}
use Rattle.file_spec.specs.Conferences.{meaning_of}
use Rattle.command_spec.specs.declared.faults.Fault.{Fault}
use Rattle.command_spec.specs.Cascading.{odd_line}
use Rattle.sent_log.specs.Files.{recordings_of}
use Rattle.rtt_mix.specs.Mixes.{outputs_of}
use Rattle.rtt_top.specs.Conferences.{OutputsEnd, ending_behind}
use Rattle.rtt_top.specs.Outside.{outside_at}
use Rattle.rtt_top.specs.Runs.{Ends}
use Rattle.rtt_top.proofs.Cascading.{cascade_makes, command_of, names_behind, none_odd, odd_ends, stopped_cascade}
use Rattle.rtt_top.proofs.Since.{ends_since, makes_since}
use Rattle.rtt_top.proofs.trunk.cascade_conference.Goals as goal

pub returns-in-Some : goal.returns-in-Some
returns-in-Some g c = λ conference octets there read.
    let outside = outside_at g.W.World g.K.Sink c.args.world.now c.args.out.now in
    let odd : odd_line c.args.conference.now.legs ≡ Some c.in-Some.line = sym (c.odd_line.ensures ∙ ap odd_line c.as_slice.ensures) ∙ c.in-Some.is in
    odd_ends g.W.World.tells g.K.Sink.tells outside conference octets c.args.words.now.file.now c.args.words.now.ssrc (meaning_of c.args.conference.now) c.in-Some.line there read odd

pub returns-in-Err : goal.returns-in-Err
returns-in-Err g c = λ conference octets there read.
    let old = outside_at g.W.World g.K.Sink c.args.world.now c.args.out.now in
    let new = outside_at g.W.World g.K.Sink c.cascade.new.world c.args.out.now in
    let file = c.args.words.now.file.now in
    let ssrc = c.args.words.now.ssrc in
    let meant = meaning_of c.args.conference.now in
    let even : odd_line meant.legs ≡ None = sym (c.odd_line.ensures ∙ ap odd_line c.as_slice.ensures) ∙ none_odd c.odd_line.result c.in_default.not-Some in
    let P : Fault → Type 0 = λ f. Ends (command_of conference file ssrc) g.W.World.tells g.K.Sink.tells old new (ending_behind conference file meant.legs (Err f)) (Err f) in
    subst P (sym c.fault_of_cascade.ensures)
    (stopped_cascade g.W.World.tells g.K.Sink.tells old new conference octets file ssrc meant there read even ((λ shown. refl), c.cascade.ensures.same_contents)
    c.in-Err.fault c.in-Err.ensures.stops c.in-Err.ensures.none_failed c.in-Err.ensures.first)

pub returns : goal.returns
returns g c = λ conference octets there read.
    let old = outside_at g.W.World g.K.Sink c.args.world.now c.args.out.now in
    let mid = outside_at g.W.World g.K.Sink c.cascade.new.world c.args.out.now in
    let new = outside_at g.W.World g.K.Sink c.make_outputs.new.world c.make_outputs.new.out in
    let file = c.args.words.now.file.now in
    let ssrc = c.args.words.now.ssrc in
    let meant = meaning_of c.args.conference.now in
    let mixed = c.in-Ok.mixed in
    let files = outputs_of meant.legs (recordings_of mixed.outs) in
    let printed = concat mixed.views.items in
    let command = command_of conference file ssrc in
    let even : odd_line meant.legs ≡ None = sym (c.odd_line.ensures ∙ ap odd_line c.as_slice.ensures) ∙ none_odd c.odd_line.result c.in_default.not-Some in
    let ends = subst (λ lines. OutputsEnd g.W.World g.K.Sink c.cascade.new.world c.args.out.now c.make_outputs.new.world c.make_outputs.new.out lines mixed c.make_outputs.result) c.as_slice-2.ensures c.make_outputs.ensures in
    ends_since command g.W.World.tells g.K.Sink.tells old mid new (ending_behind conference file meant.legs c.make_outputs.result) c.make_outputs.result
    (record { same = c.cascade.ensures.same_contents; calls_rise = c.cascade.ensures.calls_never_fall; objects_rise = c.cascade.ensures.objects_never_fall }) refl refl c.in-Ok.ensures.none_failed c.in-Ok.ensures.opened
    (ends command (ending_behind conference file meant.legs) (names_behind conference file meant.legs)
    (makes_since g.W.World.tells old.contents mid.contents command meant.legs printed files c.cascade.ensures.same_contents
    (cascade_makes g.W.World.tells old.contents conference octets file ssrc meant there read even printed files c.in-Ok.ensures.made)))

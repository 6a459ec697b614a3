use Rattle.std.proofs.Common.{Some, Err, refl, ap, sym, ◌∙◌}
use Rattle.std.specs.Prelude.{Ok, option_map}
use Rattle.file_spec.specs.Conferences.{meaning_of}
use Rattle.command_spec.specs.declared.faults.Fault.TheVariants.{NoMemory}
use Rattle.command_spec.specs.Outcomes.{Same}
use Rattle.report_spec.specs.Checking as checking
use Rattle.report_spec.specs.Looks.{look}
use Rattle.report_spec.specs.Ports.{ports_told}
use Rattle.rtt_check.specs.Reports.{as_told, told_of}
use Rattle.rtt_words.specs.Commands.{checked}
use Rattle.rtt_top.specs.Looks.{ending_of}
use Rattle.rtt_top.specs.Outside.{outside_at, output_at}
use Rattle.rtt_top.specs.Worlds.{ObjectFailedIn, OpenFailedIn}
use Rattle.rtt_top.proofs.Ending.{runs}
use Rattle.rtt_top.proofs.Looking.{ends_among, ends_stopped, few_slice, looked, status_found, taken_found, told_all}
use Rattle.rtt_top.proofs.Trying.{is_told, memory_untold, over_alone, stopped_untold, taken_none, told_so, tried_alone, tried_ends, tried_outcome, tried_told, unread_untold}
use Rattle.rtt_top.proofs.check.run_check.Goals as goal

pub returns-in-Err-clause-runs : goal.returns-in-Err-clause-runs
returns-in-Err-clause-runs g c =
    let w = checked c.args.words.now in
    let old = c.args.world.now in
    let fault = c.in-Err.fault in
    runs (Err fault) w.file (status_found w g.W.World.tells (g.W.World.contents old) (Err fault) c.finish_look.result tt c.finish_look.ensures.status)
    (ends_stopped g.W.World g.K.Sink old c.begin_look.new.world c.args.out.now w fault c.in-Err.ensures.stops c.begin_look.ensures.same_contents)
    c.finish_look.ensures.silent c.finish_look.ensures.front c.finish_look.ensures.told

pub returns-in-Err-clause-looks : goal.returns-in-Err-clause-looks
returns-in-Err-clause-looks g c =
    let w = checked c.args.words.now in
    let old = c.args.world.now in
    let new = c.begin_look.new.world in
    let here = output_at g.K.Sink c.args.out.now in
    stopped_untold w g.W.World.tells g.K.Sink.tells g.P.Ports.tells (OpenFailedIn g.W.World old new w.file) (ObjectFailedIn g.W.World old new w.file) (g.P.Ports.answers c.args.ports.now)
    (g.W.World.contents old) here here c.in-Err.fault c.finish_look.result c.in-Err.ensures.stops c.finish_look.ensures.status

pub returns-in_default-ports_told-clause-runs : goal.returns-in_default-ports_told-clause-runs
returns-in_default-ports_told-clause-runs g c =
    let w = checked c.args.words.now in
    let old = c.args.world.now in
    let finish = c.finish_look-in_default-ports_told in
    runs (Err NoMemory) w.file (status_found w g.W.World.tells (g.W.World.contents old) (Err NoMemory) finish.result tt finish.ensures.status)
    ((λ shown. refl), c.begin_look.ensures.same_contents)
    finish.ensures.silent finish.ensures.front finish.ensures.told

pub returns-in-Some-clause-runs : goal.returns-in-Some-clause-runs
returns-in-Some-clause-runs g c =
    let w = checked c.args.words.now in
    let old = c.args.world.now in
    let held = g.W.World.contents old in
    let begun = c.in-Ok.begun in
    let res = c.print_found-printed.result in
    let told = told_of c.in-Ok-ports_told.found (as_told begun.told) in
    let finish = c.finish_look-in-Some in
    let is = sym c.in-Ok.ensures.links ∙ ap (option_map meaning_of) c.in-Some.is in
    runs (ending_of res) w.file
    (status_found w g.W.World.tells held res finish.result (taken_none w g.W.World.tells held res (tried_alone g.W.World old w.file begun.octets (as_told begun.told) begun.legs (meaning_of c.in-Some.conference) c.in-Ok.ensures.begun is)) finish.ensures.status)
    (tried_ends w g.W.World.tells g.K.Sink.tells (outside_at g.W.World g.K.Sink old c.args.out.now) (outside_at g.W.World g.K.Sink c.begin_look.new.world c.print_found-printed.new.out) told.text res (meaning_of c.in-Some.conference)
    (tried_outcome g.W.World old w.file begun.octets (as_told begun.told) begun.legs (meaning_of c.in-Some.conference) c.in-Ok.ensures.begun is) c.begin_look.ensures.same_contents
    c.print_found-printed.ensures.fault c.print_found-printed.ensures.cause c.print_found-printed.ensures.printed c.print_found-printed.ensures.partly)
    finish.ensures.silent finish.ensures.front finish.ensures.told

pub returns-in-Some-clause-looks : goal.returns-in-Some-clause-looks
returns-in-Some-clause-looks g c =
    let w = checked c.args.words.now in
    let old = c.args.world.now in
    let begun = c.in-Ok.begun in
    let octets = c.as_slice.result.now in
    let conference = meaning_of c.in-Some.conference in
    let answers = g.P.Ports.answers c.args.ports.now in
    let told = told_of c.in-Ok-ports_told.found (as_told begun.told) in
    let finish = c.finish_look-in-Some in
    let before = output_at g.K.Sink c.args.out.now in
    let after = output_at g.K.Sink c.print_found-printed.new.out in
    let is = sym c.in-Ok.ensures.links ∙ ap (option_map meaning_of) c.in-Some.is in
    told_so w g.W.World.tells g.K.Sink.tells g.P.Ports.tells answers (g.W.World.contents old) before after told finish.result
    (λ t p. tried_told g.W.World old w.file begun.octets (as_told begun.told) begun.legs conference answers c.in-Ok.ensures.begun is t
    ∙ ap (λ (r : checking.Report). Some r) (sym (c.in-Ok-ports_told.ensures.told p (as_told begun.told) ∙ ap (λ o. ports_told answers o conference (as_told begun.told)) c.as_slice.ensures)))
    (is_told told g.K.Sink.tells before after c.print_found-printed.result finish.result finish.ensures.status c.print_found-printed.ensures.taken c.print_found-printed.ensures.printed c.print_found-printed.ensures.partly)

pub returns-in_default-ports_told-clause-looks : goal.returns-in_default-ports_told-clause-looks
returns-in_default-ports_told-clause-looks g c =
    let here = output_at g.K.Sink c.args.out.now in
    memory_untold (checked c.args.words.now) g.W.World.tells g.K.Sink.tells g.P.Ports.tells (g.P.Ports.answers c.args.ports.now) (g.W.World.contents c.args.world.now) here here
    c.finish_look-in_default-ports_told.result c.finish_look-in_default-ports_told.ensures.status

pub look_inputs-requires-clause-few : goal.look_inputs-requires-clause-few
look_inputs-requires-clause-few g c = λ κs lives. few_slice c.in-Ok.begun.octets c.in-Ok.begun.legs c.as_slice-legs.result.now c.in-Ok.ensures.begun.2 c.as_slice-legs.ensures

pub returns-in-Ok-look_inputs-clause-runs : goal.returns-in-Ok-look_inputs-clause-runs
returns-in-Ok-look_inputs-clause-runs g c =
    let w = checked c.args.words.now in
    let old = c.args.world.now in
    let held = g.W.World.contents old in
    let begun = c.in-Ok.begun in
    let none = sym c.in-Ok.ensures.links ∙ ap (option_map meaning_of) c.in_default.is in
    let told = told_of c.in-Ok-look_inputs.found (as_told begun.told) in
    let res = c.print_found-printed-in-Ok-look_inputs.result in
    let is = told_all g.W.World old c.begin_look.new.world w.file begun.octets c.as_slice-2.result.now (as_told begun.told) begun.legs c.as_slice-legs.result.now c.most_of_input-limit.result c.in-Ok-look_inputs.found
    none c.in-Ok.ensures.begun c.as_slice-2.ensures c.as_slice-legs.ensures c.most_of_input-limit.ensures.most c.in-Ok.ensures.same c.in-Ok-look_inputs.ensures.looks in
    let kept : g.W.World.tells → Same (g.W.World.contents old) (g.W.World.contents c.look_inputs.new.world) = λ t n. c.look_inputs.ensures.same_contents t n ∙ c.begin_look.ensures.same_contents t n in
    runs (ending_of res) w.file
    (status_found w g.W.World.tells held res c.finish_look-in-Ok-look_inputs.result (taken_found w g.W.World.tells held told res is c.print_found-printed-in-Ok-look_inputs.ensures.taken) c.finish_look-in-Ok-look_inputs.ensures.status)
    (looked w g.W.World.tells g.K.Sink.tells (outside_at g.W.World g.K.Sink old c.args.out.now) (outside_at g.W.World g.K.Sink c.look_inputs.new.world c.print_found-printed-in-Ok-look_inputs.new.out) told res is kept
    c.print_found-printed-in-Ok-look_inputs.ensures.fault c.print_found-printed-in-Ok-look_inputs.ensures.cause c.print_found-printed-in-Ok-look_inputs.ensures.printed c.print_found-printed-in-Ok-look_inputs.ensures.partly)
    c.finish_look-in-Ok-look_inputs.ensures.silent c.finish_look-in-Ok-look_inputs.ensures.front c.finish_look-in-Ok-look_inputs.ensures.told

pub returns-in-Ok-look_inputs-clause-looks : goal.returns-in-Ok-look_inputs-clause-looks
returns-in-Ok-look_inputs-clause-looks g c =
    let w = checked c.args.words.now in
    let old = c.args.world.now in
    let begun = c.in-Ok.begun in
    let answers = g.P.Ports.answers c.args.ports.now in
    let none = sym c.in-Ok.ensures.links ∙ ap (option_map meaning_of) c.in_default.is in
    let told = told_of c.in-Ok-look_inputs.found (as_told begun.told) in
    let printed = c.print_found-printed-in-Ok-look_inputs in
    let finish = c.finish_look-in-Ok-look_inputs in
    let before = output_at g.K.Sink c.args.out.now in
    let after = output_at g.K.Sink printed.new.out in
    told_so w g.W.World.tells g.K.Sink.tells g.P.Ports.tells answers (g.W.World.contents old) before after told finish.result
    (λ t p. over_alone answers (g.W.World.contents old) (look w.file) told
    (told_all g.W.World old c.begin_look.new.world w.file begun.octets c.as_slice-2.result.now (as_told begun.told) begun.legs c.as_slice-legs.result.now c.most_of_input-limit.result c.in-Ok-look_inputs.found
    none c.in-Ok.ensures.begun c.as_slice-2.ensures c.as_slice-legs.ensures c.most_of_input-limit.ensures.most c.in-Ok.ensures.same c.in-Ok-look_inputs.ensures.looks t))
    (is_told told g.K.Sink.tells before after printed.result finish.result finish.ensures.status printed.ensures.taken printed.ensures.printed printed.ensures.partly)

pub returns-clause-runs : goal.returns-clause-runs
returns-clause-runs g c =
    let w = checked c.args.words.now in
    let old = c.args.world.now in
    let begun = c.in-Ok.begun in
    let none = sym c.in-Ok.ensures.links ∙ ap (option_map meaning_of) c.in_default.is in
    let unread = c.in-Err-look_inputs.unread in
    let kept : g.W.World.tells → Same (g.W.World.contents old) (g.W.World.contents c.look_inputs.new.world) = λ t n. c.look_inputs.ensures.same_contents t n ∙ c.begin_look.ensures.same_contents t n in
    runs (Err unread.fault) unread.name.now
    (status_found w g.W.World.tells (g.W.World.contents old) (Err unread.fault) c.finish_look-in-Err-look_inputs.result tt c.finish_look-in-Err-look_inputs.ensures.status)
    (ends_among g.W.World g.K.Sink old c.begin_look.new.world c.look_inputs.new.world c.args.out.now w begun.octets c.as_slice-2.result.now (as_told begun.told) begun.legs c.as_slice-legs.result.now c.most_of_input-limit.result unread.name.now unread.fault
    none c.in-Ok.ensures.begun c.as_slice-2.ensures c.as_slice-legs.ensures c.most_of_input-limit.ensures.most c.in-Ok.ensures.same c.in-Err-look_inputs.ensures.unread kept)
    c.finish_look-in-Err-look_inputs.ensures.silent c.finish_look-in-Err-look_inputs.ensures.front c.finish_look-in-Err-look_inputs.ensures.told

pub returns-clause-looks : goal.returns-clause-looks
returns-clause-looks g c =
    let w = checked c.args.words.now in
    let old = c.args.world.now in
    let unread = c.in-Err-look_inputs.unread in
    let here = output_at g.K.Sink c.args.out.now in
    unread_untold g.W.World _ old c.look_inputs.new.world unread.name.now w g.K.Sink.tells g.P.Ports.tells (g.P.Ports.answers c.args.ports.now) here here unread.fault c.finish_look-in-Err-look_inputs.result
    (c.in-Err-look_inputs.ensures.unread old c.in-Ok.ensures.same (as_told c.in-Ok.begun.told)) c.finish_look-in-Err-look_inputs.ensures.status

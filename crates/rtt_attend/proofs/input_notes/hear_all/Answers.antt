use Rattle.std.proofs.Common.{◌≡◌, ℕ, List, length, ap, subst, sym, ◌∙◌}
use Rattle.file_spec.specs.declared.conference_lines.LegLine.{LegLine}
use Rattle.file_spec.specs.Conference.{Conference}
use Rattle.file_spec.specs.Conferences.{meaning_of}
use Rattle.mixer_spec.specs.Bridged.{input_limit}
use Rattle.command_spec.specs.Work.{Contents}
use Rattle.command_spec.specs.Inputs.{AllLie}
use Rattle.rtt_mix.specs.Mixes.{RoseAt}
use Rattle.rtt_attend.specs.declared.source_notes.SourceNotes.{SourceNotes}
use Rattle.rtt_attend.specs.Opened.{AreHeard}
use Rattle.rtt_attend.specs.Named.{AreTold}
use Rattle.rtt_attend.proofs.Legs.{are_told, lie_below, none_failed, none_refused, stops, unheard_of}
use Rattle.rtt_attend.proofs.input_notes.hear_all.Goals as goal
use Rattle.wire_spec.proofs.Plain.{funext as same_function}

pub returns-in-Err-hear_inputs-clause-stops : goal.returns-in-Err-hear_inputs-clause-stops
returns-in-Err-hear_inputs-clause-stops g c =
    let held = g.W.World.contents in
    let objects = g.W.World.object_faults in
    let last = objects c.hear_inputs.new.world in
    let lines = c.as_slice-lines.result.now in
    let conference = meaning_of c.args.conference.now in
    let call = RoseAt (g.W.World.own_faults c.args.world.now) (g.W.World.own_faults c.hear_inputs.new.world) in
    let all_lie : g.W.World.tells → AllLie (held c.args.world.now) conference.legs = λ t. subst (λ (l : List LegLine). AllLie (held c.args.world.now) l) c.as_slice-lines.ensures
    (lie_below g.W.World.tells g.W.Src.Source.left g.W.Src.Source.faults g.W.Src.Source.name (held c.args.world.now) lines c.in-Ok-open_inputs.sources.items (length lines) c.in-Ok-open_inputs.ensures.opened c.in-Ok-open_inputs.ensures.count t) in
    stops (held c.args.world.now) conference g.W.World.tells call (objects c.args.world.now) last c.in-Err-hear_inputs.fault all_lie
    (unheard_of g.W.World.tells (objects c.args.world.now) (objects c.open_inputs.new.world) last (held c.args.world.now) (held c.open_inputs.new.world) c.input_limit-limit.result (input_limit conference) lines conference.legs c.in-Err-hear_inputs.fault
    c.as_slice-lines.ensures c.input_limit-limit.ensures c.open_inputs.ensures.same_objects c.open_inputs.ensures.same_contents c.in-Err-hear_inputs.ensures.unheard)

pub returns-in-Err-hear_inputs-clause-none_failed : goal.returns-in-Err-hear_inputs-clause-none_failed
returns-in-Err-hear_inputs-clause-none_failed g c =
    let held = g.W.World.contents in
    let objects = g.W.World.object_faults in
    let last = objects c.hear_inputs.new.world in
    let conference = meaning_of c.args.conference.now in
    none_failed (held c.args.world.now) conference g.W.World.tells (RoseAt (g.W.World.own_faults c.args.world.now) (g.W.World.own_faults c.hear_inputs.new.world)) (objects c.args.world.now) last c.in-Err-hear_inputs.fault
    (unheard_of g.W.World.tells (objects c.args.world.now) (objects c.open_inputs.new.world) last (held c.args.world.now) (held c.open_inputs.new.world) c.input_limit-limit.result (input_limit conference) c.as_slice-lines.result.now conference.legs c.in-Err-hear_inputs.fault
    c.as_slice-lines.ensures c.input_limit-limit.ensures c.open_inputs.ensures.same_objects c.open_inputs.ensures.same_contents c.in-Err-hear_inputs.ensures.unheard)

pub returns-in-Err-hear_inputs-clause-first : goal.returns-in-Err-hear_inputs-clause-first
returns-in-Err-hear_inputs-clause-first g c =
    none_refused g.W.World.tells (g.W.World.own_faults c.args.world.now) (g.W.World.own_faults c.hear_inputs.new.world) (g.W.World.object_faults c.open_inputs.new.world) (g.W.World.object_faults c.hear_inputs.new.world)
    (g.W.World.contents c.args.world.now) (g.W.World.contents c.open_inputs.new.world) c.input_limit-limit.result c.args.conference.now.legs c.as_slice-lines.result.now c.in-Err-hear_inputs.fault c.in-Err-hear_inputs.ensures.unheard
    (λ n. c.hear_inputs.ensures.same_own n ∙ c.in-Ok-open_inputs.ensures.calm n)

pub returns-clause-told : goal.returns-clause-told
returns-clause-told g c = λ t.
    let conference = meaning_of c.args.conference.now in
    let held = g.W.World.contents c.args.world.now in
    let then = g.W.World.contents c.open_inputs.new.world in
    let lines = c.as_slice-lines.result.now in
    let limit = c.input_limit-limit.result in
    let said = c.in-Ok-hear_inputs.said in
    let are = c.as_slice-lines.ensures in
    let all_lie : AllLie held conference.legs = subst (λ (l : List LegLine). AllLie held l) are
    (lie_below g.W.World.tells g.W.Src.Source.left g.W.Src.Source.faults g.W.Src.Source.name held lines c.in-Ok-open_inputs.sources.items (length lines) c.in-Ok-open_inputs.ensures.opened c.in-Ok-open_inputs.ensures.count t) in
    let same : then ≡ held = same_function then held (c.open_inputs.ensures.same_contents t) in
    are_told held conference said.items (c.in-Ok-hear_inputs.ensures.count ∙ ap (λ (l : List LegLine). length l) are) all_lie
    (subst (λ (n : ℕ). AreHeard n held conference.legs said.items) c.input_limit-limit.ensures
    (subst (λ (l : List LegLine). AreHeard limit held l said.items) are (subst (λ (h : Contents). AreHeard limit h lines said.items) same (c.in-Ok-hear_inputs.ensures.heard t))))

use Rattle.std.proofs.Common.{◌≡◌, List, ap, subst, sym, ◌∙◌}
use Rattle.file_spec.specs.declared.conference_lines.LegLine.{LegLine}
use Rattle.file_spec.specs.Conference.{Conference}
use Rattle.file_spec.specs.Kept.{IsConference}
use Rattle.file_spec.specs.Conferences.{meaning_of}
use Rattle.command_spec.specs.Attending.{named_by}
use Rattle.command_spec.proofs.Naming.{named_conference}
use Rattle.rtt_attend.specs.declared.source_notes.SourceNotes.{SourceNotes}
use Rattle.rtt_attend.specs.Named.{says_in}
use Rattle.rtt_attend.proofs.Legs.{is_named}
use Rattle.rtt_attend.proofs.input_notes.hear_names.Goals as goal

pub invariant_of-conference : goal.invariant_of-conference
invariant_of-conference g c =
    let old = meaning_of c.args.conference.now in
    let says = says_in c.as_slice.result.now in
    let is : record old { legs = c.tell_legs.new.legs } ≡ named_by says old = ap (λ (l : List LegLine). record old { legs = l }) c.tell_legs.ensures in
    record { kept = subst (λ (x : Conference). IsConference x) (sym is) (named_conference says old c.args.conference.now.kept) }

pub returns-clause-named : goal.returns-clause-named
returns-clause-named g c = λ t.
    let old = meaning_of c.args.conference.now in
    let held = g.W.World.contents c.args.world.now in
    let said = c.in-Ok.said in
    let is : record old { legs = c.tell_legs.new.legs } ≡ named_by (says_in said.items) old =
    ap (λ (l : List LegLine). record old { legs = l }) c.tell_legs.ensures ∙ ap (λ (all : List SourceNotes). named_by (says_in all) old) c.as_slice.ensures.value in
    is_named held old said.items (record old { legs = c.tell_legs.new.legs }) (c.in-Ok.ensures.told t) is

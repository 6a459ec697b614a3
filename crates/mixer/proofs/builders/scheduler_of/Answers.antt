use Rattle.std.proofs.Common.{◌≡◌, ◌≤◌, List, get_or, ap, subst, sym, ◌∙◌}
use Rattle.file_spec.specs.declared.conference_lines.LegLine.{LegLine}
use Rattle.file_spec.specs.declared.limits.TheConstants.{MOST_GENERATIONS}
use Rattle.file_spec.specs.Conferences.{meaning_of}
use Rattle.mixer.proofs.Made.{leg_here, made_of}
use Rattle.mixer.proofs.builders.scheduler_of.Goals as goal

pub room_of-room-requires-clause-few : goal.room_of-room-requires-clause-few
room_of-room-requires-clause-few c =
    let leg = c.index-as_slice-own.result in
    let at : leg ≡ get_or c.args.conference.now.legs c.args.own leg
    = c.index-as_slice-own.is ∙ ap (λ (ls : List LegLine). get_or ls c.args.own leg) c.as_slice.ensures in
    subst (λ (l : LegLine). l.generations ≤ MOST_GENERATIONS) (sym at) (c.args.conference.now.kept.legs.each c.args.own leg c.requires).generations

pub returns : goal.returns
returns c =
    made_of (meaning_of c.args.conference.now) c.args.own c.len.result c.room_of-room.result c.index-as_slice-own.result c.new.result c.args.conference.now.kept
    (leg_here c.as_slice.result.now c.args.conference.now.legs c.args.own c.index-as_slice-own.result c.as_slice.ensures c.requires c.index-as_slice-own.is)
    c.len.ensures c.room_of-room.ensures.value c.new.ensures.stands c.new.ensures.own c.new.ensures.legs c.new.ensures.sources c.new.ensures.next

use Rattle.std.proofs.Common.{List, get_or, ap, sym, ◌∙◌}
use Rattle.file_spec.specs.declared.conference_lines.LegLine.{LegLine}
use Rattle.command_spec.specs.Attending.{until_then}
use Rattle.rtt_attend.proofs.Changes.{told_end}
use Rattle.rtt_attend.proofs.leg_changes.tell_end.Goals as goal

pub returns : goal.returns
returns c =
    let leg = c.index-as_slice-leg.result in
    c.set_stay.ensures
    ∙ told_end c.args.legs.now c.args.leg c.args.wait c.args.at _ leg c.stay_until-stay.result c.requires (c.index-as_slice-leg.is ∙ ap (λ (l : List LegLine). get_or l c.args.leg leg) c.as_slice.ensures)
    c.end_of-end.ensures
    (c.stay_until-stay.ensures ∙ ap (λ (l : LegLine). until_then c.end_of-end.result l.stay) (sym c.index-as_slice-leg.is))

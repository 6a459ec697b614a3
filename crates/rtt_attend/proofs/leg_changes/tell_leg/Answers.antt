use Rattle.std.proofs.Common.{List, length, ap, ◌∙◌, arith}
use Rattle.file_spec.specs.declared.conference_lines.LegLine.{LegLine}
use Rattle.file_spec.specs.Conference.{change_leg}
use Rattle.command_spec.specs.Attending.{left_so, named_so}
use Rattle.rtt_attend.proofs.Changes.{changed_twice}
use Rattle.rtt_attend.proofs.leg_changes.tell_leg.Goals as goal
use Rattle.file_spec.proofs.KeptLines.{length-change as length_changed}

pub tell_leaving-requires : goal.tell_leaving-requires
tell_leaving-requires c = omega (arith, c.requires, ap (λ (l : List LegLine). length l) c.tell_name.ensures, length_changed (named_so c.args.legs.now c.args.said.now.name) c.args.leg c.args.legs.now)

pub returns : goal.returns
returns c =
    c.tell_leaving.ensures
    ∙ (ap (λ (l : List LegLine). change_leg (left_so c.args.wait c.args.said.now.left) c.args.leg l) c.tell_name.ensures
    ∙ changed_twice (named_so c.args.legs.now c.args.said.now.name) (left_so c.args.wait c.args.said.now.left) c.args.leg c.args.legs.now)

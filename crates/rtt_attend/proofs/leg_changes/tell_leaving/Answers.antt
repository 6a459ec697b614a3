use Rattle.rtt_attend.proofs.Changes.{no_leaving}
use Rattle.rtt_attend.proofs.leg_changes.tell_leaving.Goals as goal

pub returns-in_default : goal.returns-in_default
returns-in_default c = no_leaving c.args.wait c.args.legs.now c.args.left c.args.leg c.in_default.is

use Rattle.rtt_attend.proofs.Changes.{no_name}
use Rattle.rtt_attend.proofs.leg_changes.tell_name.Goals as goal

pub returns-in_default : goal.returns-in_default
returns-in_default c = no_name c.args.legs.now c.args.name.now c.args.leg c.in_default.is

use Rattle.playback.proofs.PlanUnplanned.{as_sent}
use Rattle.playback.proofs.plan_laws.unplanned_packets_come_as_sent.Goals as goal

pub returns : goal.returns
returns c plan t sent u h = as_sent plan t sent u h

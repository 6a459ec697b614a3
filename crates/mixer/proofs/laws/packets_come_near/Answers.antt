use Rattle.mixer.proofs.laws.packets_come_near.Goals as goal
use Rattle.mixer.proofs.Rounding.{near_packets, short_waits}

pub returns-clause-near : goal.returns-clause-near
returns-clause-near c = near_packets

pub returns-clause-waits : goal.returns-clause-waits
returns-clause-waits c = short_waits

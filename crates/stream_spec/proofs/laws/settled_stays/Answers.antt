use Rattle.stream_spec.proofs.Fronts.{packets_front, settled_front}
use Rattle.stream_spec.proofs.laws.settled_stays.Goals as goal

pub returns-clause-packets : goal.returns-clause-packets
returns-clause-packets c = packets_front

pub returns-clause-chunks : goal.returns-clause-chunks
returns-clause-chunks c = settled_front

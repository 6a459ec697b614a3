use Rattle.stream_spec.proofs.laws.own_packets_tell.Goals as goal
use Rattle.stream_spec.proofs.OwnPackets.{own_is_packet, own_come}
use Rattle.stream_spec.proofs.ReadBack.{history_back}

pub returns-clause-packet : goal.returns-clause-packet
returns-clause-packet c g h law own x i = own_is_packet g h x law own i

pub returns-clause-come : goal.returns-clause-come
returns-clause-come c = own_come

pub returns-clause-history : goal.returns-clause-history
returns-clause-history c = history_back

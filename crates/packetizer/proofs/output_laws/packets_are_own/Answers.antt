use Rattle.stream_spec.proofs.Sent.{last_is_sent}
use Rattle.packetizer.specs.OutputSettings.{stream_of}
use Rattle.packetizer.proofs.output_laws.packets_are_own.Goals as goal

pub returns : goal.returns
returns c = λ settings past e x i p. last_is_sent (stream_of settings) past e x i p

use Rattle.stream_spec.proofs.Sent.{sent_lawful, sent_own}
use Rattle.stream_spec.proofs.Closing.{sent_closed}
use Rattle.packetizer.specs.OutputSettings.{stream_of}
use Rattle.packetizer.proofs.Speaking.{sendable}
use Rattle.packetizer.proofs.output_laws.output_is_lawful.Goals as goal

pub returns : goal.returns
returns c = record {
  lawful = λ settings past k p. sent_lawful (stream_of settings) past k.generations (sendable (stream_of settings) past k.generations p);
  own = λ settings past. sent_own (stream_of settings) past;
  closed = λ settings past none. sent_closed (stream_of settings) past (λ z i. none z.source);
}

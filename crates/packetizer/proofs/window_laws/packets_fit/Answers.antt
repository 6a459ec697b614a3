use Rattle.stream_spec.proofs.Fitting.{packet_fits, few_octets}
use Rattle.packetizer.proofs.window_laws.packets_fit.Goals as goal

pub returns : goal.returns
returns c = record { fits = packet_fits; few = few_octets }

use Rattle.stream_spec.proofs.Typing.{front_fits}
use Rattle.packetizer.proofs.sender_laws.front_is_longest.Goals as goal
use Rattle.stream_spec.proofs.Plain.{longest_front}

pub returns : goal.returns
returns c = record { whole = λ n octets u. (front_fits n octets u).front_is; fits = λ n octets u. (front_fits n octets u).short; longest = longest_front }

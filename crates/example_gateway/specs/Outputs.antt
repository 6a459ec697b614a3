-- What writes the packets of a gateway.
use Rattle.std.specs.Prelude.{ℕ, List, length, map}
use Rattle.packetizer.specs.OutputStates.{State}

-- how many sources each of these outputs has
abbrev pub counts_of : List State → List ℕ
counts_of outputs = map (λ (o : State). length o.speakers) outputs

-- What is seen of a gateway.
use Rattle.std.specs.Prelude.{ℕ, length}
use Rattle.example_gateway.specs.declared.gateways.Gateway.{Gateway}

-- how many legs it has
abbrev pub legs_in : Gateway → ℕ
legs_in g = length g.legs.items

-- how many turns it made
abbrev pub turns_in : Gateway → ℕ
turns_in g = g.mixer.turns

-- What gives items, with its gate, gives what it gives without.
use Rattle.std.specs.Prelude.{List}
use Rattle.workers.specs.declared.producers.GatedProducer.{GatedProducer}

module _ {Q F G : Type 0} where
  abbrev pub gated_gives : (F → F → List Q → Type 0) → GatedProducer F G → GatedProducer F G → List Q → Type 0
  gated_gives stands first now items = stands first.gives now.gives items

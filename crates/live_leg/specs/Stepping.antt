-- What a leg comes to, step by step.
use Rattle.live_leg.specs.declared.kinds.ItemKind.{ItemKind}
use Rattle.live_leg.specs.declared.kinds.ItemKind.TheVariants.{Seen, Silent}
use Rattle.live_leg.specs.declared.states.State.{State}
use Rattle.live_leg.specs.declared.states.State.TheVariants.{Blank}

-- how it says that all was given, where it is so far
abbrev pub seen_as : {F : Type 0} → State → ItemKind F
seen_as state = elim state [ Blank ↦ Silent | _ ↦ Seen ]

use Rattle.mixer_places.proofs.Sources.{Told}
use Rattle.mixer_places.proofs.slots.Slots.listen.Given as goal

abbrev pub invariant-loop-source : goal.invariant-loop-source
invariant-loop-source l = Told l.fn.terminal l.fn.on l.source l.fn.self l.self-inside.lanes.items

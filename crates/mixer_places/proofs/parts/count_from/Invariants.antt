use Rattle.std.proofs.Common.{◌≡◌, ◌++◌, map, take, drop}
use Rattle.mixer_places.specs.Lanes.{part_after}
use Rattle.mixer_places.proofs.parts.count_from.Given as goal

abbrev pub invariant-loop-part : goal.invariant-loop-part
invariant-loop-part l = l.parts ≡ map (part_after l.front) (take l.part-index l.fn.parts) ++ drop l.part-index l.fn.parts

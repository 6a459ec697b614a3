use Rattle.std.proofs.Common.{◌≡◌, ℕ, ◌++◌, map, take, drop}
use Rattle.packetizer.specs.Speakers.{anew}
use Rattle.packetizer.proofs.speakers.forget_all.Given as goal

abbrev pub invariant-loop-speaker : goal.invariant-loop-speaker
invariant-loop-speaker l = (base : ℕ) → l.speakers ≡ map (anew l.generations base) (take l.speaker-index l.fn.speakers) ++ drop l.speaker-index l.fn.speakers

use Rattle.std.proofs.Common.{◌≡◌, take}
use Rattle.arrayvec.specs.ArrayVec.{array_vec_len}
use Rattle.rtt_live.specs.Tallies.{tallies_in}
use Rattle.rtt_live.proofs.tallies.tallies_of.Given as goal

abbrev pub invariant-loop-leg : goal.invariant-loop-leg
invariant-loop-leg g l = (l.tallies.items ≡ tallies_in (take l.leg-index l.legs)) × (array_vec_len l.tallies ≡ l.leg-index)

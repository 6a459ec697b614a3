use Rattle.std.proofs.Common.{◌≡◌, take}
use Rattle.std.specs.Prelude.{map}
use Rattle.mixer_posts.proofs.streams.ssrcs_of.Given as goal

abbrev pub invariant-loop-leg : goal.invariant-loop-leg
invariant-loop-leg l = l.ssrcs.items ≡ map (λ x. x.ssrc) (take l.leg-index l.legs)

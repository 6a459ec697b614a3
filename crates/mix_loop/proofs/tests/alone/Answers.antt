use Rattle.std.proofs.Common.{◌≡◌, ℕ, zero, suc, Some, List, [], ◌∷◌, subst, sym}
use Rattle.workers.specs.Lanes.{AreNew}
use Rattle.link_io.specs.declared.ends.LinkIn as ins
use Rattle.live_leg.specs.LinkLegs.{LegGave, LegStands, LinkLeg}
use Rattle.mix_loop.proofs.tests.alone.Goals as goal

one_is_new : {L : Type 0} (g : ins.Ghosts L) (leg : LinkLeg L) → LegStands g leg leg [] → AreNew (LegGave g) (leg ∷ [])
one_is_new g leg s zero x e = subst (λ (y : LinkLeg _). LegStands g y y []) (same leg x e) s
  where
    same : {A : Type 0} (a b : A) → Some a ≡ Some b → a ≡ b
    same a b e = cc e
one_is_new g leg s (suc j) x e = absurd (cc e)

pub returns-in-Ok-clause-new : goal.returns-in-Ok-clause-new
returns-in-Ok-clause-new c = subst (AreNew (LegGave _)) (sym c.in-Ok.ensures.items) (one_is_new _ c.args.leg c.requires)

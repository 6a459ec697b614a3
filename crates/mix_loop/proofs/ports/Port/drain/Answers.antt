use Rattle.std.proofs.Common.{refl, sym, ◌∙◌}
use Rattle.mix_loop.proofs.Offering.{drained_none, drained_pull, seats_none, seats_more}
use Rattle.mix_loop.proofs.ports.Port.drain.Goals as goal

pub loop-init : goal.loop-init
loop-init g c = (c.requires.sound, seats_none c.args.self.now, λ first gave h. drained_none g.I.Inlet.stands c.args.leg first gave c.args.self.now h)

pub loop-preserved : goal.loop-preserved
loop-preserved g c = (
  c.pull.ensures.sound,
  seats_more c.args.self.now c.loop.self c.pull.new.self c.loop.invariant.1 (record { stay = c.pull.ensures.same.stay; seat = c.pull.ensures.same.seat }),
  λ first gave h. drained_pull g.I.Inlet.stands c.args.leg first gave c.loop.self _ c.pull.new.self (c.loop.invariant.2 first gave h) (sym c.is_open.ensures ∙ c.if-not-is_open.false) refl (c.pull.ensures.pulled first),
)

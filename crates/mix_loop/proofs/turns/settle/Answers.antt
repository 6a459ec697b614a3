use Rattle.std.proofs.Common.{sym, ◌∙◌}
use Rattle.mix_loop.specs.Mixers.{Of}
use Rattle.mix_loop.proofs.Turning.{finds_fault, finds_over, finds_going}
use Rattle.mix_loop.proofs.turns.settle.Goals as goal

pub returns-then-has_fault-clause-settles : goal.returns-then-has_fault-clause-settles
returns-then-has_fault-clause-settles g c = λ s payload_types firsts kn table n h.
    finds_fault g.I.Inlet.stands (Of g.M.MixerCalls.stands payload_types) s firsts _ kn table c.move_all.new.ports c.move_all.new.mixer (c.move_all.ensures.moves s payload_types firsts kn table n h) (sym c.has_fault.ensures ∙ c.if-has_fault.true)

pub returns-then-is_over-clause-settles : goal.returns-then-is_over-clause-settles
returns-then-is_over-clause-settles g c = λ s payload_types firsts kn table n h.
    finds_over g.I.Inlet.stands (Of g.M.MixerCalls.stands payload_types) s firsts _ kn table c.move_all.new.ports c.move_all.new.mixer (c.move_all.ensures.moves s payload_types firsts kn table n h) c.is_over.result c.if-is_over.true (λ s table. c.is_over.ensures s payload_types table)

pub returns-clause-settles : goal.returns-clause-settles
returns-clause-settles g c = λ s payload_types firsts kn table n h.
    finds_going g.I.Inlet.stands (Of g.M.MixerCalls.stands payload_types) s firsts _ kn table c.move_all.new.ports c.move_all.new.mixer (c.move_all.ensures.moves s payload_types firsts kn table n h) c.is_over.result c.if-is_over.false (λ s table. c.is_over.ensures s payload_types table)

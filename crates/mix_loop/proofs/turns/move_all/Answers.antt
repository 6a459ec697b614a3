use Rattle.mixer_spec.specs.Plain.{goes_below, comes_below, offers_below}
use Rattle.mix_loop.specs.Mixers.{Of}
use Rattle.mix_loop.proofs.Turning.{offers_then}
use Rattle.mix_loop.proofs.turns.move_all.Goals as goal

pub returns-clause-moves : goal.returns-clause-moves
returns-clause-moves g c = λ s payload_types firsts kn table n h.
    let a = c.go_all.ensures.goes s payload_types firsts kn table n h in
    let b = c.come_all.ensures.comes s payload_types firsts a.kn' a.table' a.now in
    let o = c.gather_all.ensures.offers s payload_types firsts b.kn' b.table' b.now in
    offers_then g.I.Inlet.stands (Of g.M.MixerCalls.stands payload_types) s firsts (goes_below s c.args.now s.legs) (comes_below s c.args.now s.legs) (offers_below s c.args.now s.legs) kn table
    c.go_all.new.ports c.come_all.new.ports c.gather_all.new.ports c.go_all.new.mixer c.come_all.new.mixer c.gather_all.new.mixer a b o

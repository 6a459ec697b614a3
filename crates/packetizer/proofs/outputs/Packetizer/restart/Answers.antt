use Rattle.std.proofs.Common.{◌≡◌, ◌<◌, ℕ, List, length, map, ap, subst, sym, ◌∙◌, arith}
use Rattle.std.proofs.lemmas.List.{length-map, with_items_is}
use Rattle.packetizer.specs.declared.speakers.Speaker.{Speaker}
use Rattle.packetizer.specs.OutputStates.{State}
use Rattle.packetizer.specs.Speakers.{anew}
use Rattle.packetizer.specs.OutputStanding.{PacketizerStandsFor}
use Rattle.packetizer.proofs.Speaking.{restarts}
use Rattle.packetizer.proofs.outputs.Packetizer.restart.Goals as goal

pub returns-clause-stands : goal.returns-clause-stands
returns-clause-stands c = λ settings sources past s.
    let inside = c.self.inside in
    let old = inside.speakers.items in
    let r = subst (λ (st : State). PacketizerStandsFor settings sources st past) (sym c.self.view_is) s in
    let forgotten : (base : ℕ) → c.forget_all.new.speakers ≡ map (anew inside.settings.generations base) old = λ base. c.forget_all.ensures base ∙ ap (λ (xs : List Speaker). map (anew inside.settings.generations base) xs) c.deref_mut.ensures.value in
    let many = ap (λ (xs : List Speaker). length xs) (forgotten 0) in
    let size : length c.forget_all.new.speakers ≡ inside.speakers.len = omega (arith, many, length-map old (anew inside.settings.generations 0), inside.speakers.ok.0) in
    let first : inside.settings.seq < 65536 = omega arith in
    restarts settings sources (record { settings = inside.settings; seq = inside.seq; speakers = old }) past _ r first (λ base. with_items_is inside.speakers c.forget_all.new.speakers size ∙ forgotten base)

use Rattle.std.proofs.Common.{◌<◌, ◌∙◌, ℕ, length, subst, sym, arith, add-one}
use Rattle.mixer_spec.specs.Setups.{setup}
use Rattle.file_spec.specs.Conferences.{meaning_of}
use Rattle.mixer.specs.Standing.{MixerStandsFor}
use Rattle.rtt_live.specs.Mixers.{all_admitted}
use Rattle.rtt_live.proofs.Seating.{may_come}
use Rattle.rtt_live.proofs.mixers.seated_mixer.Goals as goal

pub loop-leg-preserved : goal.loop-leg-preserved
loop-leg-preserved c =
    let i = c.loop-leg.invariant in
    let s = setup (meaning_of c.args.conference.now) in
    let leg = c.loop-leg.leg in
    let below : leg < length c.args.conference.now.legs = omega (arith, c.loop-leg-test.true, c.len-leg-end.ensures) in
    let stands = c.admit.ensures.stands s (all_admitted leg) i.stands (may_come s leg c.requires below, i.stands.allowed) in
    record {
      legs = c.admit.ensures.legs ∙ i.legs;
      turns = c.admit.ensures.turns ∙ i.turns;
      sources = c.admit.ensures.sources ∙ i.sources;
      stands = subst (λ (n : ℕ). MixerStandsFor s c.admit.new.self (all_admitted n)) (sym (add-one leg)) stands;
    }

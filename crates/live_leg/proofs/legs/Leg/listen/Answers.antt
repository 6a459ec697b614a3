use Rattle.std.proofs.Common.{List, ℕ, refl, ◌∙◌, subst}
use Rattle.live_leg.specs.Taking.{HearsTaken}
use Rattle.live_leg.specs.Tallies.{CountsTaken}
use Rattle.live_leg.proofs.Listening.{listens, stops}
use Rattle.live_leg.proofs.legs.Leg.listen.Goals as goal

pub invariant_of-self : goal.invariant_of-self
invariant_of-self g c = record {
  giving = c.hear_taken-self.ensures.giving;
  quiet = λ i. absurd (c.hear_taken-self.ensures.busy i);
  open_still = c.hear_taken-self.ensures.open;
}

pub returns-in-Ok-clause-ok : goal.returns-in-Ok-clause-ok
returns-in-Ok-clause-ok g c =
    let P : List ℕ → Type 0 = λ o. HearsTaken c.args.self.now.ear c.hear_taken-self.new.ear c.args.self.now.senders c.hear_taken-self.new.senders c.in-Ok.taken o c.hear_taken-self.result in
    let Q : List ℕ → Type 0 = λ o. CountsTaken c.args.self.now.senders c.args.self.now.tally c.hear_taken-self.new.tally c.in-Ok.taken o in
    listens g.A.Arrivals c.args.self.now _ c.in-Ok.taken c.take.new.out c.requires.idle refl refl
    (subst P (c.as_slice-octets.ensures.value ∙ c.deref.ensures) c.hear_taken-self.ensures.hears)
    (subst Q (c.as_slice-octets.ensures.value ∙ c.deref.ensures) c.hear_taken-self.ensures.counts)
    c.in-Ok.ensures.came

pub returns-in-Err-clause-err : goal.returns-in-Err-clause-err
returns-in-Err-clause-err g c = stops g.A.Arrivals c.args.self.now _ c.in-Err.fault c.requires.idle refl refl refl refl refl c.in-Err.ensures.failed

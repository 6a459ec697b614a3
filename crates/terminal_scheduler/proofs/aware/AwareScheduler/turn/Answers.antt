use Rattle.std.proofs.Common.{◌<◌, ◌≤◌, ℕ, Option, None, ap, subst}
use Rattle.mixer_spec.specs.Setups.{stream}
use Rattle.mixer_spec.specs.Table.{serve}
use Rattle.terminal_scheduler.specs.Turns.{SendsNext}
use Rattle.terminal_scheduler.specs.AwareStates.{AwareState}
use Rattle.terminal_scheduler.specs.AwareTurns.{IsTurned}
use Rattle.terminal_scheduler.proofs.AwareRounding.{none_served}
use Rattle.terminal_scheduler.proofs.AwareResting.{none_due}
use Rattle.terminal_scheduler.proofs.aware.AwareScheduler.turn.Goals as goal

pub returns-then-media-self-clause-turned : goal.returns-then-media-self-clause-turned
returns-then-media-self-clause-turned c = λ s table h now.
    let o = c.args.self.now in
    let d = table.terminals o.own in
    let next : o.next ≤ 16 = subst (λ (x : AwareState). x.next ≤ 16) c.self.view_is c.self.invariant.next in
    subst (λ (x : Option ℕ). SendsNext (stream s o.own) d.past (serve s table.seats o.own now c.args.media d x).past
    → IsTurned s table o.own (serve s table.seats o.own now c.args.media d x) c.args.media o c.args.slots.now None c.args.text.now)
    (none_due s table.seats o c.args.media d h.there.scheduler (subst (λ (n : ℕ). c.args.media < n) (ap (λ (x : AwareState). x.calm) c.self.view_is) c.if-media-self.true) next)
    (λ n. none_served s o o c.args.slots.now table c.args.media c.args.text.now h.there h.there.scheduler)

pub returns-in-Some-clause-turned : goal.returns-in-Some-clause-turned
returns-in-Some-clause-turned c = λ s table h now.
    let j = c.args.self.now.own in
    let d = table.terminals j in
    subst (λ (x : Option ℕ). SendsNext (stream s j) d.past (serve s table.seats j now c.args.media d x).past
    → IsTurned s table j (serve s table.seats j now c.args.media d x) c.args.media c.serve.new.self c.serve.new.slots c.serve.result c.serve.new.text)
    (c.in-Some.ensures.served s table h) (c.serve.ensures.turned s table h now)

pub returns-in-None-clause-turned : goal.returns-in-None-clause-turned
returns-in-None-clause-turned c = λ s table h now.
    let o = c.args.self.now in
    let d = table.terminals o.own in
    subst (λ (x : Option ℕ). SendsNext (stream s o.own) d.past (serve s table.seats o.own now c.args.media d x).past
    → IsTurned s table o.own (serve s table.seats o.own now c.args.media d x) c.args.media c.rest.new.self c.args.slots.now None c.args.text.now)
    (c.in-None.ensures.served s table h) (λ n. none_served s o c.rest.new.self c.args.slots.now table c.args.media c.args.text.now h.there (c.rest.ensures.stands s table h.there))

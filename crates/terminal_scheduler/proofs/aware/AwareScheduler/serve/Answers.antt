use Rattle.std.proofs.Common.{◌<◌, ℕ, Option, Some, refl, subst, sym, arith}
use Rattle.mixer_spec.specs.Setups.{stream}
use Rattle.mixer_spec.specs.Table.{serve_leg}
use Rattle.terminal_scheduler.specs.Turns.{SendsNext}
use Rattle.terminal_scheduler.specs.AwareTurns.{IsTurned}
use Rattle.terminal_scheduler.proofs.AwareRounding.{none_served}
use Rattle.terminal_scheduler.proofs.aware.AwareScheduler.serve.Goals as goal

pub returns-clause-turned : goal.returns-clause-turned
returns-clause-turned c = λ s table h now.
    let j = c.args.self.now.own in
    let d = table.terminals j in
    let l : c.in_ok-leg.leg < s.legs = omega (arith, c.in_ok-leg.ensures.within, h.seats_stand.all) in
    subst (λ (x : Option ℕ). SendsNext (stream s j) d.past (serve_leg s j now c.args.media d c.args.place x).past
    → IsTurned s table j (serve_leg s j now c.args.media d c.args.place x) c.args.media c.serve_leg.new.self c.serve_leg.new.slots (Some c.in_ok-leg.leg) c.serve_leg.new.text)
    (c.in_ok-leg.ensures.leg s table h.seats_stand) (λ n. c.serve_leg.ensures.turned s table h.there now l (n _ refl))

pub returns-in_err-leg-clause-turned : goal.returns-in_err-leg-clause-turned
returns-in_err-leg-clause-turned c = λ s table h now.
    let o = c.args.self.now in
    let d = table.terminals o.own in
    subst (λ (x : Option ℕ). SendsNext (stream s o.own) d.past (serve_leg s o.own now c.args.media d c.args.place x).past
    → IsTurned s table o.own (serve_leg s o.own now c.args.media d c.args.place x) c.args.media o c.args.slots.now c.from_residual.result c.args.text.now)
    (c.in_err-leg.ensures.leg s table h.seats_stand)
    (λ n. subst (λ (x : Option ℕ). IsTurned s table o.own d c.args.media o c.args.slots.now x c.args.text.now) (sym c.from_residual.ensures)
    (none_served s o o c.args.slots.now table c.args.media c.args.text.now h.there h.there.scheduler))

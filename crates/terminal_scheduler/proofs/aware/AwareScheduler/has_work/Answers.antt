use Rattle.std.proofs.Common.{◌<◌, ℕ, length, ap, ◌∙◌, arith}
use Rattle.std.specs.Prelude.{nat_lt, slice_index}
use Rattle.std.proofs.lemmas.Grind.{get_or_default_zero}
use Rattle.mixer_spec.specs.Chunks.{has_chunk}
use Rattle.terminal_scheduler.specs.AwareStates.{AwareState}
use Rattle.terminal_scheduler.proofs.AwareLooking.{or_first, or_second, repeats_here}
use Rattle.terminal_scheduler.proofs.aware.AwareScheduler.has_work.Goals as goal

pub returns-then-has_waiting : goal.returns-then-has_waiting
returns-then-has_waiting c = λ s table h.
    or_first c.has_waiting.result _ _ c.if-has_waiting.true
    (c.has_waiting.ensures s table h.slots_stand ∙ ap (λ (x : AwareState). has_chunk ((table.terminals x.own).waits c.args.leg)) c.self.view_is)

pub returns-else-has_waiting : goal.returns-else-has_waiting
returns-else-has_waiting c = λ s table h.
    let o = c.args.self.now in
    let low : c.args.leg < length c.self.inside.left.items = omega (arith, c.requires.leg, c.self.invariant.legs, ap (λ (x : AwareState). length x.free_at) c.self.view_is) in
    or_second c.has_waiting.result _ (nat_lt 0 c.index.result.now) _ c.if-has_waiting.false
    (c.has_waiting.ensures s table h.slots_stand ∙ ap (λ (x : AwareState). has_chunk ((table.terminals x.own).waits c.args.leg)) c.self.view_is)
    (ap (λ (n : ℕ). nat_lt 0 n) (c.index.ensures ∙ get_or_default_zero c.self.inside.left.items c.args.leg c.index.result.now low)
    ∙ (ap (λ (x : AwareState). nat_lt 0 (slice_index x.left c.args.leg)) c.self.view_is
    ∙ repeats_here s o.own c.args.leg o (table.terminals o.own) h.scheduler (omega (arith, c.requires.leg, h.scheduler.legs))))

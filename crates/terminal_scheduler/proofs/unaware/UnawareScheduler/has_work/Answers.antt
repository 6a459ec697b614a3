use Rattle.std.proofs.Common.{◌≡◌, ℕ, ap, sym, ◌∙◌, arith}
use Rattle.mixer_spec.specs.Chunks.{has_chunk}
use Rattle.terminal_scheduler.specs.UnawareStates.{UnawareState, own_of}
use Rattle.terminal_scheduler.proofs.UnawareWaiting.{work_is}
use Rattle.terminal_scheduler.proofs.unaware.UnawareScheduler.has_work.Goals as goal

pub returns : goal.returns
returns c = λ s j table h k.
    let own : c.self.inside.own ≡ j = sym c.self.invariant.own_is ∙ (ap (λ (x : UnawareState). own_of x) c.self.view_is ∙ h.own) in
    let legs = k.legs in
    c.has_waiting.ensures s table k
    ∙ (ap (λ (n : ℕ). has_chunk ((table.terminals n).waits c.args.source)) own
    ∙ sym (work_is s j c.args.self.now (table.terminals j) c.args.source h (omega (arith, c.requires.source, c.requires.slots, legs))))

use Rattle.std.proofs.Common.{◌≡◌, ℕ, Bool, true, false, not, ◌&&◌, ap, sym, ◌∙◌}
use Rattle.std.specs.Prelude.{nat_lt}
use Rattle.std.proofs.lemmas.Bool.{le-ltb, lt-ltb}
use Rattle.stream_spec.specs.Own.{has_text_in}
use Rattle.mixer_spec.specs.Rounds.{all_below}
use Rattle.mixer_spec.specs.Table.{sent_from}
use Rattle.terminal_scheduler.specs.UnawareStates.{UnawareState, legs_of, own_of}
use Rattle.terminal_scheduler.specs.UnawareStanding.{none_here}
use Rattle.terminal_scheduler.proofs.UnawareTurning.{due_here}
use Rattle.terminal_scheduler.proofs.UnawareWaiting.{quiet_is}
use Rattle.terminal_scheduler.proofs.unaware.UnawareScheduler.is_quiet.Goals as goal

pub returns-then-self-gt0 : goal.returns-then-self-gt0
returns-then-self-gt0 c = λ s j table h k.
    let o = c.args.self.now in
    let d = table.terminals j in
    let due : has_text_in (s.generations j) (sent_from s.mixer d) ≡ true =
    sym (due_here s j o d h) ∙ (sym (ap (λ (x : UnawareState). nat_lt 0 x.left) c.self.view_is) ∙ lt-ltb 0 c.self.inside.left c.if-self-gt0.true) in
    sym (quiet_is s j o d h ∙ ap (λ (b : Bool). not b && all_below (none_here j d) s.legs) due)

pub returns : goal.returns
returns c = λ s j table h k.
    let o = c.args.self.now in
    let d = table.terminals j in
    let due : has_text_in (s.generations j) (sent_from s.mixer d) ≡ false =
    sym (due_here s j o d h) ∙ (sym (ap (λ (x : UnawareState). nat_lt 0 x.left) c.self.view_is) ∙ le-ltb 0 c.self.inside.left c.if-self-gt0.false) in
    let own : c.self.inside.own ≡ j = sym c.self.invariant.own_is ∙ (ap (λ (x : UnawareState). own_of x) c.self.view_is ∙ h.own) in
    let legs : c.self.inside.legs ≡ s.legs = sym c.self.invariant.legs_are ∙ (ap (λ (x : UnawareState). legs_of x) c.self.view_is ∙ (sym c.requires ∙ k.legs)) in
    c.is_empty.ensures s table k
    ∙ (ap (λ (n : ℕ). all_below (none_here n (table.terminals n)) c.self.inside.legs) own
    ∙ (ap (λ (n : ℕ). all_below (none_here j d) n) legs
    ∙ sym (quiet_is s j o d h ∙ ap (λ (b : Bool). not b && all_below (none_here j d) s.legs) due)))

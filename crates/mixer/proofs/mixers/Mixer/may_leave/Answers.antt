use Rattle.std.proofs.Common.{◌≡◌, true, not, List, length, ap, subst, sym, ◌∙◌}
use Rattle.std.specs.Prelude.{◌&&◌}
use Rattle.terminal_scheduler.specs.declared.schedulers.TerminalScheduler.{TerminalScheduler}
use Rattle.mixer_spec.specs.Table.{is_done, after_calls}
use Rattle.mixer.specs.States.{State}
use Rattle.mixer.specs.Standing.{AreSchedulers, MixerStandsFor}
use Rattle.mixer.specs.Looks.{AreAll}
use Rattle.mixer.proofs.mixers.Mixer.may_leave.Goals as goal

pub is_done-requires-clause-all : goal.is_done-requires-clause-all
is_done-requires-clause-all c =
    subst (λ (xs : List TerminalScheduler). AreAll (length c.self.inside.slots) xs) (sym c.deref.ensures.value) (λ j o g. (c.self.invariant.schedulers j o g).all ∙ sym c.self.invariant.slots)

pub returns-then-not-is_listening : goal.returns-then-not-is_listening
returns-then-not-is_listening c = λ s calls h.
    let table = after_calls s calls in
    let k = subst (λ (m : State). MixerStandsFor s m calls) (sym c.self.view_is) h in
    c.is_done.ensures s table (subst (λ (xs : List TerminalScheduler). AreSchedulers s xs table.terminals) (sym c.deref.ensures.value) k.keeps.schedulers) k.keeps.waits
    ∙ ap (λ b. not b && is_done s c.args.leg table) (c.if-not-is_listening.ensures s table k.keeps.seats)

pub returns-else-not-is_listening : goal.returns-else-not-is_listening
returns-else-not-is_listening c = λ s calls h.
    let table = after_calls s calls in
    let k = subst (λ (m : State). MixerStandsFor s m calls) (sym c.self.view_is) h in
    let listens : c.is_listening.result ≡ true = c.if-not-is_listening.false in
    ap not listens ∙ ap (λ b. not b && is_done s c.args.leg table) (c.if-not-is_listening.ensures s table k.keeps.seats)

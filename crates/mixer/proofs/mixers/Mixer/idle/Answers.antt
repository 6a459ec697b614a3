use Rattle.std.proofs.Common.{List, length, ap, subst, sym, ◌∙◌}
use Rattle.terminal_scheduler.specs.declared.schedulers.TerminalScheduler.{TerminalScheduler}
use Rattle.mixer_spec.specs.Rounds.{all_below}
use Rattle.mixer_spec.specs.Table.{is_quiet, after_calls}
use Rattle.mixer.specs.States.{State}
use Rattle.mixer.specs.Standing.{AreSchedulers, MixerStandsFor}
use Rattle.mixer.specs.Looks.{AreAll}
use Rattle.mixer.proofs.mixers.Mixer.idle.Goals as goal

pub are_quiet-requires : goal.are_quiet-requires
are_quiet-requires c =
    subst (λ (xs : List TerminalScheduler). AreAll (length c.self.inside.slots) xs) (sym c.deref.ensures.value) (λ j o g. (c.self.invariant.schedulers j o g).all ∙ sym c.self.invariant.slots)

pub returns : goal.returns
returns c = λ s calls h.
    let table = after_calls s calls in
    let k = subst (λ (m : State). MixerStandsFor s m calls) (sym c.self.view_is) h in
    c.are_quiet.ensures s table (subst (λ (xs : List TerminalScheduler). AreSchedulers s xs table.terminals) (sym c.deref.ensures.value) k.keeps.schedulers) k.keeps.waits
    ∙ ap (λ n. all_below (λ j. is_quiet s j (table.terminals j)) n) (ap (λ (xs : List TerminalScheduler). length xs) c.deref.ensures.value ∙ k.keeps.legs)

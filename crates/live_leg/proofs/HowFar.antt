-- How far a leg is.
use Rattle.std.proofs.Common.{◌≡◌, true, false, true≢false, refl, ap, sym, ◌∙◌}
use Rattle.live_leg.specs.declared.states.State.{State}
use Rattle.live_leg.specs.declared.states.State.TheVariants.{Idle, Giving, Blank, Parting, Ending, Over}
use Rattle.live_leg.specs.States.{is_giving, is_going, is_heard, is_parting}

pub heard_not_idle : (st : State) → is_heard st ≡ true → st ≡ Idle → ⊥
heard_not_idle st g i = true≢false (sym g ∙ ap is_heard i)

pub heard_giving : (st : State) → is_heard st ≡ true → is_giving st ≡ true
heard_giving Idle h = absurd (true≢false (sym h))
heard_giving Giving h = refl
heard_giving Blank h = refl
heard_giving Parting h = absurd (true≢false (sym h))
heard_giving Ending h = refl
heard_giving Over h = absurd (true≢false (sym h))

pub parts_or_hears : (st : State) → is_giving st ≡ true → is_parting st ≡ false → is_heard st ≡ true
parts_or_hears Idle g p = absurd (true≢false (sym g))
parts_or_hears Giving g p = refl
parts_or_hears Blank g p = refl
parts_or_hears Parting g p = absurd (true≢false p)
parts_or_hears Ending g p = refl
parts_or_hears Over g p = absurd (true≢false (sym g))

pub parting_is : (st : State) → is_parting st ≡ true → st ≡ Parting
parting_is Idle p = absurd (true≢false (sym p))
parting_is Giving p = absurd (true≢false (sym p))
parting_is Blank p = absurd (true≢false (sym p))
parting_is Parting p = refl
parting_is Ending p = absurd (true≢false (sym p))
parting_is Over p = absurd (true≢false (sym p))

pub parting_not_idle : (st : State) → st ≡ Parting → st ≡ Idle → ⊥
parting_not_idle st p i = true≢false (sym (ap is_parting p) ∙ ap is_parting i)

pub parting_not_going : (st : State) → st ≡ Parting → is_going st ≡ true → ⊥
parting_not_going st p g = true≢false (sym g ∙ ap is_going p)

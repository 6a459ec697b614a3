use Rattle.unaware_view.proofs.composers.Composer.turn.Goals as goal
use Rattle.std.proofs.Common.{ℕ, ◌≡◌, ◌+◌, Bool, Option, List, length, ap, sym, subst, ◌∙◌, arith}
use Rattle.std.specs.Prelude.{is_some}
use Rattle.std.specs.Vec.{with_items}
use Rattle.std.proofs.lemmas.List.{with_items_is}
use Rattle.mixer_spec.specs.Composed.{began_alone, began_behind_cr, chars_of, run_of, text_given, Asked}
use Rattle.mixer_places.specs.SlotStanding.{SlotsStandFor}
use Rattle.unaware_view.specs.States.{State}
use Rattle.unaware_view.specs.Insides.{state_of}
use Rattle.unaware_view.specs.Choices.{is_set, speaker_of}
use Rattle.unaware_view.specs.Standing.{IsAsked, ComposerStandsFor, answered, asked_now, given_now}
use Rattle.unaware_view.specs.Giving.{remembered}
use Rattle.unaware_view.proofs.Turning.{Notes, Told, told, notes_of}
use Rattle.mixer_spec.specs.Setups.{Setup}
use Rattle.mixer_spec.specs.Table.{Table}

-- what the turn made of the flags and the moments
abbrev flags_of : goal.After-is_some → List Bool
flags_of c = (with_items c.self.inside.waits c.look.new.waits).items

abbrev moments_of : goal.After-is_some → List (Option ℕ)
moments_of c = (with_items c.self.inside.since c.note.new.since).items

-- what the calls of a turn tell, where it is asked as it may be
calls_told : (c : goal.After-is_some) (s : Setup) (table : Table) (asks : List Asked) → IsAsked s table (state_of c.self.inside) c.args.slots.now c.args.names.now asks
    → Told s table (state_of c.self.inside) asks (flags_of c) c.args.due c.args.media c.choose-choice.result c.give-given.new.run c.give-given.new.text c.give-given.new.slots (moments_of c)
calls_told c s table asks h =
    let me : State = state_of c.self.inside in
    let k = c.choose-choice.result in
    let of_waits = ap (λ xs. length xs) c.deref_mut.ensures.value in
    let of_since = ap (λ xs. length xs) c.deref_mut-2.ensures.value in
    let flags_are : flags_of c ≡ c.look.new.waits = with_items_is c.self.inside.waits c.look.new.waits (omega (arith, c.look.ensures.legs, of_waits, c.self.inside.waits.ok.0)) in
    let moments_are : moments_of c ≡ c.note.new.since = with_items_is c.self.inside.since c.note.new.since (omega (arith, c.note.ensures.legs, of_since, c.self.inside.since.ok.0)) in
    let notes : Notes (record me { waits = flags_of c }) k c.args.media (moments_of c) =
    subst (λ (xs : List (Option ℕ)). Notes (record me { waits = flags_of c }) k c.args.media xs) (sym moments_are)
    (notes_of (record me { waits = flags_of c }) k c.args.media c.give-given.result c.deref.result.now c.deref_mut-2.result.now c.note.new.since c.give-given.ensures.speaker c.deref.ensures.value c.deref_mut-2.ensures.value c.note.ensures.legs c.note.ensures.noted) in
    told s table me asks (flags_of c) c.args.due c.args.media k c.give-given.new.run c.give-given.new.text c.give-given.new.slots (moments_of c) c.args.slots.now c.args.names.now h
    (ap (λ (xs : List Bool). length xs) flags_are ∙ (c.look.ensures.legs ∙ (of_waits ∙ c.self.invariant.legs)))
    (λ i b. ap (λ (xs : List Bool). is_set xs i) flags_are ∙ c.look.ensures.waits s table h.slots_stand i (omega (arith, b, of_waits, c.self.invariant.legs)))
    c.choose-choice.ensures.choice c.choose-choice.ensures.leg
    (c.give-given.ensures.gives s table h.slots_stand (began_alone asks) (began_behind_cr asks) (chars_of (run_of asks)) h.texts h.stands.run.is_run) notes

pub returns-clause-given : goal.returns-clause-given
returns-clause-given c = λ s table asks.
    subst (λ (x : State). IsAsked s table x c.args.slots.now c.args.names.now asks → c.is_some.result ≡ is_some (given_now s table x c.args.media c.args.due asks)) c.self.view_is
    (λ h. c.is_some.ensures ∙ (ap is_some c.give-given.ensures.speaker ∙ (calls_told c s table asks h).given))

pub returns-clause-text : goal.returns-clause-text
returns-clause-text c = λ s table asks.
    subst (λ (x : State). IsAsked s table x c.args.slots.now c.args.names.now asks → c.give-given.new.text ≡ text_given (given_now s table x c.args.media c.args.due asks)) c.self.view_is (λ h. (calls_told c s table asks h).text_is)

pub returns-clause-stands : goal.returns-clause-stands
returns-clause-stands c = λ s table asks.
    subst (λ (x : State). IsAsked s table x c.args.slots.now c.args.names.now asks → ComposerStandsFor s c.remember.new.self (asked_now s table x c.args.media c.args.due asks)) c.self.view_is (λ h.
    let me : State = state_of c.self.inside in
    let k = c.choose-choice.result in
    let then : State = record me { waits = flags_of c; run = c.give-given.new.run; since = moments_of c; asked = c.args.media + 1 } in
    let is : c.remember.new.self ≡ remembered then (speaker_of k) c.args.media = c.remember.ensures ∙ ap (λ (o : Option ℕ). remembered then o c.args.media) c.give-given.ensures.speaker in
    subst (λ (x : State). ComposerStandsFor s x (asked_now s table me c.args.media c.args.due asks)) (sym is) (calls_told c s table asks h).stands)

pub returns-clause-waits : goal.returns-clause-waits
returns-clause-waits c = λ s table asks.
    subst (λ (x : State). IsAsked s table x c.args.slots.now c.args.names.now asks → SlotsStandFor s c.give-given.new.slots (answered x.own (given_now s table x c.args.media c.args.due asks) table)) c.self.view_is
    (λ h. (calls_told c s table asks h).slots_stand)

use Rattle.std.proofs.Common.{◌≡◌, ℕ, ◌+◌, List, ◌∷◌, length, map, ap, subst, sym, ◌∙◌, arith}
use Rattle.std.specs.Vec.{with_items}
use Rattle.std.proofs.lemmas.List.{with_items_is}
use Rattle.mixer_spec.specs.Table.{Turn}
use Rattle.terminal_scheduler.specs.declared.schedulers.TerminalScheduler.{TerminalScheduler}
use Rattle.terminal_scheduler.specs.Schedulers.{sources_of}
use Rattle.mixer.specs.States.{State}
use Rattle.mixer.specs.Insides.{MixerIsSound, state_of}
use Rattle.mixer.specs.Calm.{AreCalmBefore}
use Rattle.mixer.specs.Posts.{ArePosts}
use Rattle.mixer.specs.Standing.{MixerStandsFor}
use Rattle.mixer.specs.Turns.{AreSchedulersOf, OfMixers, AllTurned}
use Rattle.mixer.proofs.Turned.{with_turn, turn_stands, turn_batch, sound_after, next_from}
use Rattle.mixer.proofs.mixers.Mixer.turn.Goals as goal

pub turn_from-calm-requires-clause-schedulers : goal.turn_from-calm-requires-clause-schedulers
turn_from-calm-requires-clause-schedulers c =
    subst (λ (xs : List TerminalScheduler). AreSchedulersOf (length xs) c.next_media-media.result xs) (sym c.deref_mut.ensures.value)
    (next_from (state_of c.self.inside) c.self.inside.calm c.args.now c.next_media-media.result c.self.invariant c.next_media-media.ensures)

pub turn_from-calm-requires-clause-calm : goal.turn_from-calm-requires-clause-calm
turn_from-calm-requires-clause-calm c = subst (λ (xs : List TerminalScheduler). AreCalmBefore c.self.inside.calm c.self.inside.seating xs) (sym c.deref_mut.ensures.value) c.self.invariant.calm

pub invariant_of-self : goal.invariant_of-self
invariant_of-self c =
    let count : length c.turn_from-calm.new.schedulers ≡ length c.self.inside.schedulers.items = c.turn_from-calm.ensures.legs ∙ ap (λ (xs : List TerminalScheduler). length xs) c.deref_mut.ensures.value in
    let is : (with_items c.self.inside.schedulers c.turn_from-calm.new.schedulers).items ≡ c.turn_from-calm.new.schedulers = with_items_is c.self.inside.schedulers c.turn_from-calm.new.schedulers (omega (arith, count, c.self.inside.schedulers.ok.0)) in
    subst (λ (xs : List TerminalScheduler). MixerIsSound (with_turn (state_of c.self.inside) c.next_media-media.result xs c.turn_from-calm.new.slots) c.turn_from-calm.result) (sym is)
    (sound_after (state_of c.self.inside) c.self.inside.calm c.turn_from-calm.result c.args.now c.next_media-media.result c.turn_from-calm.new.schedulers c.turn_from-calm.new.slots c.self.invariant (omega (arith, c.requires.turns, ap (λ (m : State). m.turns) c.self.view_is)) c.requires.moment
    c.next_media-media.ensures count c.turn_from-calm.ensures.slots
    (subst (λ (n : ℕ). AreSchedulersOf n (c.next_media-media.result + 1) c.turn_from-calm.new.schedulers) (ap (λ (xs : List TerminalScheduler). length xs) c.deref_mut.ensures.value) c.turn_from-calm.ensures.schedulers)
    c.turn_from-calm.ensures.calm)

pub returns-clause-batch : goal.returns-clause-batch
returns-clause-batch c = λ s calls h.
    let k = subst (λ (m : State). MixerStandsFor s m calls) (sym c.self.view_is) h in
    turn_batch s (state_of c.self.inside) calls c.args.now c.next_media-media.result c.turn_from-calm.new.schedulers c.turn_from-calm.new.slots c.turn_from-calm.new.batch k (omega (arith, c.requires.turns, ap (λ (m : State). m.turns) c.self.view_is)) c.next_media-media.ensures
    (subst (λ (xs : List TerminalScheduler). OfMixers xs c.self.inside.seating c.self.inside.slots c.self.inside.names.items c.next_media-media.result (λ s table now. AllTurned s table now c.next_media-media.result c.turn_from-calm.new.schedulers c.turn_from-calm.new.slots c.turn_from-calm.new.batch))
    c.deref_mut.ensures.value
    (subst (λ (ns : List (List ℕ)). OfMixers c.deref_mut.result.now c.self.inside.seating c.self.inside.slots ns c.next_media-media.result (λ s table now. AllTurned s table now c.next_media-media.result c.turn_from-calm.new.schedulers c.turn_from-calm.new.slots c.turn_from-calm.new.batch))
    c.deref.ensures.value c.turn_from-calm.ensures.turned))

pub returns-clause-stands : goal.returns-clause-stands
returns-clause-stands c = λ s calls h a.
    let k = subst (λ (m : State). MixerStandsFor s m calls) (sym c.self.view_is) h in
    let count : length c.turn_from-calm.new.schedulers ≡ length c.self.inside.schedulers.items = c.turn_from-calm.ensures.legs ∙ ap (λ (xs : List TerminalScheduler). length xs) c.deref_mut.ensures.value in
    let is : (with_items c.self.inside.schedulers c.turn_from-calm.new.schedulers).items ≡ c.turn_from-calm.new.schedulers = with_items_is c.self.inside.schedulers c.turn_from-calm.new.schedulers (omega (arith, count, c.self.inside.schedulers.ok.0)) in
    subst (λ (xs : List TerminalScheduler). MixerStandsFor s (with_turn (state_of c.self.inside) c.next_media-media.result xs c.turn_from-calm.new.slots) (Turn c.args.now ∷ calls)) (sym is)
    (turn_stands s (state_of c.self.inside) calls c.args.now c.next_media-media.result c.turn_from-calm.new.schedulers c.turn_from-calm.new.slots c.turn_from-calm.new.batch k (omega (arith, c.requires.turns, ap (λ (m : State). m.turns) c.self.view_is)) c.next_media-media.ensures count
    (subst (λ (xs : List TerminalScheduler). OfMixers xs c.self.inside.seating c.self.inside.slots c.self.inside.names.items c.next_media-media.result (λ s table now. AllTurned s table now c.next_media-media.result c.turn_from-calm.new.schedulers c.turn_from-calm.new.slots c.turn_from-calm.new.batch))
    c.deref_mut.ensures.value
    (subst (λ (ns : List (List ℕ)). OfMixers c.deref_mut.result.now c.self.inside.seating c.self.inside.slots ns c.next_media-media.result (λ s table now. AllTurned s table now c.next_media-media.result c.turn_from-calm.new.schedulers c.turn_from-calm.new.slots c.turn_from-calm.new.batch))
    c.deref.ensures.value c.turn_from-calm.ensures.turned)))

pub returns-clause-sources : goal.returns-clause-sources
returns-clause-sources c =
    let count : length c.turn_from-calm.new.schedulers ≡ length c.self.inside.schedulers.items = c.turn_from-calm.ensures.legs ∙ ap (λ (xs : List TerminalScheduler). length xs) c.deref_mut.ensures.value in
    let is : (with_items c.self.inside.schedulers c.turn_from-calm.new.schedulers).items ≡ c.turn_from-calm.new.schedulers = with_items_is c.self.inside.schedulers c.turn_from-calm.new.schedulers (omega (arith, count, c.self.inside.schedulers.ok.0)) in
    ap (λ (xs : List TerminalScheduler). map sources_of xs) is ∙ (c.turn_from-calm.ensures.sources ∙ (ap (λ (xs : List TerminalScheduler). map sources_of xs) c.deref_mut.ensures.value ∙ ap (λ (m : State). map sources_of m.schedulers) c.self.view_is))

pub returns-clause-posts : goal.returns-clause-posts
returns-clause-posts c =
    subst (λ (ns : List ℕ). ArePosts ns c.turn_from-calm.new.batch) (ap (λ (xs : List TerminalScheduler). map sources_of xs) c.deref_mut.ensures.value ∙ ap (λ (m : State). map sources_of m.schedulers) c.self.view_is) c.turn_from-calm.ensures.posts

use Rattle.std.proofs.Common.{◌≡◌, true, false, map, refl, ap, subst, sym, ◌∙◌}
use Rattle.stream_spec.specs.Ready.{chunk_of}
use Rattle.mixer_spec.specs.Table.{is_seated, is_fit, span_with, has_room, after_calls}
use Rattle.mixer.specs.States.{State}
use Rattle.mixer.specs.Insides.{state_of}
use Rattle.mixer.specs.Standing.{MixerStandsFor}
use Rattle.terminal_scheduler.specs.Schedulers.{sources_of}
use Rattle.mixer.proofs.Counting.{counts_woken}
use Rattle.mixer.proofs.Calling.{has_room_where, no_room, stands_refused, stands_taken}
use Rattle.mixer.proofs.mixers.Mixer.offer.Goals as goal

pub returns-then-not-is_seated-clause-room : goal.returns-then-not-is_seated-clause-room
returns-then-not-is_seated-clause-room c = λ s calls h.
    let chunk = chunk_of c.args.chunk.now in
    let table = after_calls s calls in
    let k = subst (λ (m : State). MixerStandsFor s m calls) (sym c.self.view_is) h in
    let none : has_room s chunk.source chunk table ≡ false = no_room (is_seated table.seats chunk.source) (is_fit (span_with s chunk.source chunk table)) (sym (c.if-not-is_seated.ensures.table s table k.keeps.seats)) in
    (λ e. cc e, λ e. sym none ∙ e)

pub returns-then-not-is_seated-clause-stands : goal.returns-then-not-is_seated-clause-stands
returns-then-not-is_seated-clause-stands c = λ s calls h a.
    let chunk = chunk_of c.args.chunk.now in
    let table = after_calls s calls in
    let k = subst (λ (m : State). MixerStandsFor s m calls) (sym c.self.view_is) h in
    stands_refused s c.args.self.now calls chunk h a (no_room (is_seated table.seats chunk.source) (is_fit (span_with s chunk.source chunk table)) (sym (c.if-not-is_seated.ensures.table s table k.keeps.seats)))

pub returns-clause-room : goal.returns-clause-room
returns-clause-room c = λ s calls h.
    let chunk = chunk_of c.args.chunk.now in
    let table = after_calls s calls in
    let k = subst (λ (m : State). MixerStandsFor s m calls) (sym c.self.view_is) h in
    has_room_where (is_seated table.seats chunk.source) (is_fit (span_with s chunk.source chunk table)) (true ≡ true) (sym (c.if-not-is_seated.ensures.table s table k.keeps.seats)) (c.in-Ok.ensures.room s table k.keeps.waits)

pub returns-clause-stands : goal.returns-clause-stands
returns-clause-stands c = λ s calls h a.
    let chunk = chunk_of c.args.chunk.now in
    let table = after_calls s calls in
    let k = subst (λ (m : State). MixerStandsFor s m calls) (sym c.self.view_is) h in
    let room = has_room_where (is_seated table.seats chunk.source) (is_fit (span_with s chunk.source chunk table)) (true ≡ true) (sym (c.if-not-is_seated.ensures.table s table k.keeps.seats)) (c.in-Ok.ensures.room s table k.keeps.waits) in
    stands_taken s (state_of c.self.inside) calls chunk c.offer.new.self c.wake.new.schedulers.items k a (room.0 refl) (c.in-Ok.ensures.ok s table k.keeps.waits) c.wake.ensures

pub returns-clause-sources : goal.returns-clause-sources
returns-clause-sources c = counts_woken c.self.inside.schedulers.items c.wake.new.schedulers.items c.wake.ensures ∙ ap (λ (m : State). map sources_of m.schedulers) c.self.view_is

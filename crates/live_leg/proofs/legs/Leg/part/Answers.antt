use Rattle.std.proofs.Common.{List, ℕ, ap, refl, sym, subst, ◌∙◌, ◌≡◌}
use Rattle.std.specs.Prelude.{true}
use Rattle.std.specs.Str.{is_utf8}
use Rattle.std.proofs.Math.Logic.{∥∥₁_map}
use Rattle.std.proofs.lemmas.Str.{is_utf8-from_IsUtf8}
use Rattle.wire_spec.specs.Packets.{has_text}
use Rattle.stream_spec.specs.Hearing.{marker}
use Rattle.stream_spec.specs.Ready.{Chunk, chunk, chunk_of}
use Rattle.stream_spec.proofs.HeardTexts.{marker_utf8}
use Rattle.live_leg.specs.States.{is_giving}
use Rattle.live_leg.specs.Stories.{BeginsWith}
use Rattle.live_leg.proofs.Ears.{rests_giving, still_giving}
use Rattle.live_leg.proofs.Giving.{given_parting, gives_marker, gives_next}
use Rattle.live_leg.proofs.HowFar.{parting_not_going, parting_not_idle}
use Rattle.live_leg.proofs.legs.Leg.part.Goals as goal

pub invariant_of-self : goal.invariant_of-self
invariant_of-self g c = record {
  giving = ∥∥₁_map c.args.self.now.giving (still_giving c.args.self.now.ear c.next.new.self (chunk_of c.next.new.chunk) (c.next.ensures.some c.if-next.true));
  quiet = λ i. absurd (parting_not_idle c.args.self.now.state c.requires i);
  open_still = λ o. absurd (parting_not_going c.args.self.now.state c.requires o);
}

pub returns-then-next-clause-gives : goal.returns-then-next-clause-gives
returns-then-next-clause-gives g c =
    let heard = chunk_of c.next.new.chunk in
    gives_next g.A.Arrivals c.args.self.now _ heard (chunk_of c.hasten.new.chunk) (ap is_giving c.requires) refl (refl, refl, refl, refl, refl) c.next.ensures.settings
    (c.next.ensures.some c.if-next.true) c.next.ensures.front (c.next.ensures.source c.if-next.true)
    (given_parting c.args.self.now.state c.args.self.now.senders.moment c.moment.result heard (chunk_of c.hasten.new.chunk) c.requires c.moment.ensures.value c.hasten.ensures)

pub returns-then-next-clause-text : goal.returns-then-next-clause-text
returns-then-next-clause-text g c =
    let P : Chunk → Type 0 = λ k. (has_text k.text ≡ true) × (is_utf8 k.text ≡ true) in
    let heard = c.next.new.chunk in
    λ e. subst P (sym c.hasten.ensures) (c.next.ensures.text c.if-next.true, is_utf8-from_IsUtf8 heard.text (c.next.ensures.utf8 c.if-next.true))

pub begin_with-requires-clause-giving : goal.begin_with-requires-clause-giving
begin_with-requires-clause-giving g c = ∥∥₁_map c.args.self.now.giving (rests_giving c.args.self.now.ear c.next.new.self (c.next.ensures.none c.if-next.false))

pub invariant_of-self-2 : goal.invariant_of-self-2
invariant_of-self-2 g c = record {
  giving = c.begin_with.ensures.giving;
  quiet = λ i. absurd (cc i);
  open_still = λ o. c.begin_with.ensures.open;
}

pub returns-clause-gives : goal.returns-clause-gives
returns-clause-gives g c =
    let self = c.args.self.now in
    let packet : List ℕ → Type 0 = λ octets. BeginsWith c.next.new.self c.begin_with.new.ear c.ssrc.result c.moment-moment.result octets in
    let begins = subst (λ (n : ℕ). BeginsWith c.next.new.self c.begin_with.new.ear c.ssrc.result n self.packet.value) c.moment-moment.ensures.value
    (subst packet (c.as_slice-octets.ensures.value ∙ c.deref.ensures) c.begin_with.ensures.begins) in
    gives_marker g.A.Arrivals self _ c.next.new.self (chunk_of c.write_marker.new.chunk) c.requires refl (refl, refl, refl, refl, refl) c.next.ensures.settings
    (c.next.ensures.none c.if-next.false) (c.next.ensures.all c.if-next.false)
    (subst (λ (s : ℕ). BeginsWith c.next.new.self c.begin_with.new.ear s self.senders.moment self.packet.value) c.ssrc.ensures begins)
    (c.write_marker.ensures ∙ ap (λ (n : ℕ). chunk 0 n marker) c.moment-moment.ensures.value)

pub returns-clause-text : goal.returns-clause-text
returns-clause-text g c =
    let P : Chunk → Type 0 = λ k. (has_text k.text ≡ true) × (is_utf8 k.text ≡ true) in
    λ e. subst P (sym c.write_marker.ensures) (refl, is_utf8-from_IsUtf8 marker marker_utf8)

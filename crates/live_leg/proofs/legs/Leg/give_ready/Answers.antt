use Rattle.std.proofs.Common.{sym, subst, refl, ◌∙◌, true≢false, Some}
use Rattle.live_leg.specs.declared.kinds.ItemKind.TheVariants as kind
use Rattle.std.proofs.Math.Logic.{∥∥₁_map}
use Rattle.std.proofs.lemmas.Str.{is_utf8-from_IsUtf8}
use Rattle.stream_spec.specs.Ready.{chunk_of}
use Rattle.live_leg.proofs.Ears.{rests_giving, still_giving}
use Rattle.live_leg.proofs.HowFar.{heard_giving, heard_not_idle}
use Rattle.live_leg.proofs.Giving.{given_heard, gives_end, gives_next, gives_said, going_if as still_going}
use Rattle.live_leg.specs.declared.kinds.ItemKind.{ItemKind}
use Rattle.live_leg.specs.Texts.{HasText}
use Rattle.live_leg.proofs.Texts.{seen_text, some_text}
use Rattle.live_leg.proofs.legs.Leg.give_ready.Goals as goal

pub invariant_of-self : goal.invariant_of-self
invariant_of-self g c = record {
  giving = ∥∥₁_map c.args.self.now.giving (still_giving c.args.self.now.ear c.next.new.self (chunk_of c.next.new.chunk) (c.next.ensures.some c.if-next.true));
  quiet = λ i. absurd (heard_not_idle c.args.self.now.state c.requires i);
  open_still = λ o. c.next.ensures.finished ∙ c.args.self.now.open_still o;
}

pub returns-then-next-clause-gives : goal.returns-then-next-clause-gives
returns-then-next-clause-gives g c =
    gives_next g.A.Arrivals c.args.self.now _ (chunk_of c.next.new.chunk) (chunk_of c.next.new.chunk) (heard_giving c.args.self.now.state c.requires) refl (refl, refl, refl, refl, refl) c.next.ensures.settings
    (c.next.ensures.some c.if-next.true) c.next.ensures.front (c.next.ensures.source c.if-next.true) (sym (given_heard c.args.self.now.state c.args.self.now.senders.moment (chunk_of c.next.new.chunk) c.requires))

pub returns-then-next-clause-text : goal.returns-then-next-clause-text
returns-then-next-clause-text g c =
    some_text (Some kind.Text) (chunk_of c.next.new.chunk) (c.next.ensures.text c.if-next.true) (is_utf8-from_IsUtf8 c.next.new.chunk.text (c.next.ensures.utf8 c.if-next.true))

pub invariant_of-self-then-is_ending : goal.invariant_of-self-then-is_ending
invariant_of-self-then-is_ending g c = record {
  giving = ∥∥₁_map c.args.self.now.giving (rests_giving c.args.self.now.ear c.next.new.self (c.next.ensures.none c.if-next.false));
  quiet = λ i. absurd (cc i);
  open_still = λ o. absurd (true≢false (sym o));
}

pub returns-then-is_ending-clause-gives : goal.returns-then-is_ending-clause-gives
returns-then-is_ending-clause-gives g c =
    gives_end g.A.Arrivals c.args.self.now _ (sym c.is_ending.ensures ∙ c.if-is_ending.true) refl (refl, refl, refl, refl, refl) c.next.ensures.settings
    (c.next.ensures.none c.if-next.false) (c.next.ensures.all c.if-next.false) c.next.ensures.front

pub invariant_of-self-2 : goal.invariant_of-self-2
invariant_of-self-2 g c = record {
  giving = ∥∥₁_map c.args.self.now.giving (rests_giving c.args.self.now.ear c.next.new.self (c.next.ensures.none c.if-next.false));
  quiet = λ i. c.next.ensures.quiet c.if-next.false;
  open_still = λ o. c.next.ensures.finished ∙ c.args.self.now.open_still (still_going c.args.self.now.state c.requires (sym c.is_ending.ensures ∙ c.if-is_ending.false));
}

pub returns-clause-gives : goal.returns-clause-gives
returns-clause-gives g c =
    gives_said g.A.Arrivals c.args.self.now _ (chunk_of c.next.new.chunk) c.seen_as-said.result c.seen_as-said.ensures c.requires (sym c.is_ending.ensures ∙ c.if-is_ending.false) refl (refl, refl, refl, refl, refl) c.next.ensures.settings
    (c.next.ensures.none c.if-next.false) (c.next.ensures.all c.if-next.false) c.next.ensures.front

pub returns-clause-text : goal.returns-clause-text
returns-clause-text g c =
    subst (λ (k : ItemKind _). HasText k (chunk_of c.next.new.chunk)) (sym c.seen_as-said.ensures) (seen_text c.args.self.now.state (chunk_of c.next.new.chunk))

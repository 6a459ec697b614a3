-- Turns that were made of a conference's legs are a live call of it.
use Rattle.std.proofs.Common.{◌≡◌, ◌<◌, ℕ, true, not, Some, None, List, [], ◌++◌, length, refl, ap, sym, ◌∙◌, arith}
use Rattle.std.specs.Prelude.{if◌then◌else◌}
use Rattle.std.proofs.lemmas.Bool.{and_parts, not-true}
use Rattle.std.proofs.lemmas.List.{append-nil}
use Rattle.rtt_base.specs.declared.text_packets.PayloadTypes.{PayloadTypes}
use Rattle.stream_spec.specs.Ready.{chunk_of}
use Rattle.file_spec.specs.Conference.{Conference}
use Rattle.mixer_spec.specs.Setups.{Setup, setup}
use Rattle.mixer_spec.specs.Table.{Call, after_calls}
use Rattle.mixer_spec.specs.Calls.{took}
use Rattle.mixer_spec.specs.Legs.{held}
use Rattle.stream_spec.specs.Links.{Takes}
use Rattle.live_leg.specs.LinkLegs.{Item}
use Rattle.live_leg.specs.Items.{texts_in}
use Rattle.live_leg.proofs.Texts.{texts_append}
use Rattle.mix_loop.specs.declared.live_ports.LivePort.{LivePort}
use Rattle.mix_loop.specs.Handed.{has_end}
use Rattle.mix_loop.specs.LivePorts.{PortAt, hand_of}
use Rattle.mix_loop.specs.Walks.{AllClosed, IsServing, is_spent}
use Rattle.mix_loop.proofs.Enough.{end_append}
use Rattle.live_spec.specs.Served.{IsDrained, hearing_at}
use Rattle.mix_loop.specs.Covers.{Covers}
use Rattle.mix_loop.specs.Served.{BrokenIsServed, ClosedIsServed, DoneIsServed, IsOfConference}
use Rattle.mix_loop.proofs.Draining.{covered_end}
use Rattle.mix_loop.proofs.Serving.{serving, serving_to}
use Rattle.stream_spec.proofs.Plain.{get_at as some_there}

module _ {I M : Type 0} (popped : I → List Item) (stands : M → Setup → (ℕ → PayloadTypes) → List Call → Type 0) where
  -- all of a leg was popped and taken
  drained_at : (c : Conference) (takes : ℕ → Takes) (calls : List Call) (j : ℕ) (E : List Item → Type 0) (p : LivePort I) → PortAt popped (setup c) calls j E p → is_spent p ≡ true → Covers (hearing_at c j) (takes j) (popped p.inlet)
      → IsDrained c takes (after_calls (setup c) calls) j
  drained_at c takes calls j E p a spent w =
      let both = and_parts p.ended (not p.full) spent in
      let ends : has_end (popped p.inlet) ≡ true = ap has_end a.popped_are ∙ end_append a.before a.tail (sym a.ended ∙ both.0) in
      let empty : held (hand_of p) ≡ [] = ap (λ b. held (if b then Some (chunk_of p.hand) else None)) (not-true p.full both.1) in
      let texts : texts_in j (popped p.inlet) ≡ took (setup c) j calls =
      ap (texts_in j) a.popped_are
      ∙ (texts_append j a.before a.tail ∙ (ap (λ cs. cs ++ texts_in j a.tail) a.taken ∙ (ap (λ cs. took (setup c) j calls ++ cs) (a.in_hand ∙ empty) ∙ append-nil (took (setup c) j calls)))) in
      let e = covered_end (hearing_at c j) (takes j) (popped p.inlet) w ends in
      record { closed = e.0; taken = sym texts ∙ e.1 }

  pub all_drained : (c : Conference) (takes : ℕ → Takes) (payload_types : ℕ → PayloadTypes) (turns : ℕ) (ps : List (LivePort I)) (m : M) (given : ℕ → List (List ℕ)) (v : IsServing popped stands (setup c) payload_types turns ps m) → IsOfConference popped c v.calls ps takes given → AllClosed ps
      → (j : ℕ) → j < length c.legs → IsDrained c takes (after_calls (setup c) v.calls) j
  all_drained c takes payload_types turns ps m given v o closed j low =
      let legs = o.legs in
      let there = some_there ps j (omega (arith, low, legs)) in
      drained_at c takes v.calls j _ there.0 (v.at j there.0 there.1) (closed j there.0 there.1) (o.covers j there.0 there.1)

  unfoldable pub done_law : DoneIsServed popped stands
  done_law c payload_types ps m takes given w o =
      let v = w.serving in
      let l = serving_to popped stands (setup c) payload_types c.turns ps m v (hearing_at c) takes o.legs (λ i. refl) o.none o.covers in
      record {
        table = after_calls (setup c) v.calls;
        turns = c.turns;
        live = l.0;
        few = omega arith;
        gives = o.gave;
        prints = refl;
        done = λ e. refl;
        goes_on = λ e over. w.goes_on (l.1 over);
        drained = λ e. absurd (cc e);
        idle = λ e. absurd (cc e);
      }

  unfoldable pub closed_law : ClosedIsServed popped stands
  closed_law c payload_types ps m takes given w o =
      let v = w.serving in
      record {
        table = after_calls (setup c) v.calls;
        turns = w.turns;
        live = serving popped stands (setup c) payload_types w.turns ps m v (hearing_at c) takes o.legs (λ i. refl) o.none o.covers;
        few = w.few;
        gives = o.gave;
        prints = refl;
        done = λ e. absurd (cc e);
        goes_on = λ e. absurd (cc e);
        drained = λ e. all_drained c takes payload_types w.turns ps m given v o w.closed.ends;
        idle = λ e. w.closed.idle;
      }

  unfoldable pub broken_law : BrokenIsServed popped stands
  broken_law c payload_types ps m takes given w o =
      let v = w.serving in
      record {
        table = after_calls (setup c) v.calls;
        turns = w.turns;
        live = serving popped stands (setup c) payload_types w.turns ps m v (hearing_at c) takes o.legs (λ i. refl) o.none o.covers;
        few = w.few;
        gives = o.gave;
        prints = refl;
        done = λ e. absurd (cc e);
        goes_on = λ e. absurd (cc e);
        drained = λ e. absurd (cc e);
        idle = λ e. absurd (cc e);
      }

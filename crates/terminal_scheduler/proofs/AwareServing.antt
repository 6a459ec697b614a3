-- A turn that serves a leg.
use Rattle.std.proofs.Common.{◌≡◌, ℕ, zero, suc, ◌+◌, ◌-◌, ◌<◌, Bool, true, false, not, ◌&&◌, cond, inl, inr, Some, List, ◌∷◌, length, set, refl, ap, subst, sym, ◌∙◌, arith}
use Rattle.std.specs.Prelude.{◌==◌, slice_index}
use Rattle.std.proofs.lemmas.Bool.{true≢false, cases_eq, eq-eqb, eqb-true, ne_eqb}
use Rattle.std.proofs.lemmas.List.{length-set}
use Rattle.std.proofs.Math.Seq.{get_or-set_same, get_or-set_other}
use Rattle.wire_spec.specs.Packets.{has_text}
use Rattle.stream_spec.specs.Own.{Sent, sent_of}
use Rattle.mixer_spec.specs.Chunks.{front}
use Rattle.mixer_spec.specs.Setups.{Setup, stream}
use Rattle.mixer_spec.specs.Table.{Terminal, Table, has_work, is_due, is_spaced, sents, sent_from, last_media, serve_leg}
use Rattle.packetizer.specs.Speakers.{IsNext}
use Rattle.mixer_places.specs.Lanes.{Waiting}
use Rattle.mixer_places.specs.Words.{take_front, fetched}
use Rattle.mixer_places.specs.SlotStanding as slots
use Rattle.mixer_places.proofs.Sources.{stands_same}
use Rattle.terminal_scheduler.specs.Turns.{free_after, repeats_left, with_terminal}
use Rattle.terminal_scheduler.proofs.Putting.{puts_one}
use Rattle.terminal_scheduler.specs.AwareStates.{AwareState}
use Rattle.terminal_scheduler.specs.AwareStanding.{AwareStandsFor, NoneDue}
use Rattle.terminal_scheduler.specs.AwareTurns.{IsIn, IsTurned, calm_behind, kept_served, left_behind, sent_of_leg, text_of_leg}
use Rattle.terminal_scheduler.proofs.AwareResting.{not_spaced}

-- ---- the entry
same_waits : (b : Bool) (x y z : Terminal) (i : ℕ) → x.waits i ≡ y.waits i → (cond b x z).waits i ≡ (cond b y z).waits i
same_waits true x y z i e = e
same_waits false x y z i e = refl

sent_same : (x : ℕ) (e : Sent) (past : List Sent) → e.source ≡ x → sent_of x (e ∷ past) ≡ e ∷ sent_of x past
sent_same x e past q = ap (λ (b : Bool). cond b (e ∷ sent_of x past) (sent_of x past)) (eq-eqb e.source x q)

sent_other : (x : ℕ) (e : Sent) (past : List Sent) → (e.source ≡ x → ⊥) → sent_of x (e ∷ past) ≡ sent_of x past
sent_other x e past n = ap (λ (b : Bool). cond b (e ∷ sent_of x past) (sent_of x past)) (ne_eqb e.source x n)

-- of three numbers below two, of which two are not the third, the two are one
other : (i leg own : ℕ) → i < 2 → leg < 2 → own < 2 → (i ≡ own → ⊥) → (leg ≡ own → ⊥) → leg ≡ i
other zero zero own a b c m n = refl
other (suc zero) (suc zero) own a b c m n = refl
other zero (suc zero) zero a b c m n = absurd (m refl)
other zero (suc zero) (suc zero) a b c m n = absurd (n refl)
other (suc zero) zero zero a b c m n = absurd (n refl)
other (suc zero) zero (suc zero) a b c m n = absurd (m refl)
other (suc (suc i)) leg own a b c m n = absurd (omega (arith, a))
other zero (suc (suc leg)) own a b c m n = absurd (omega (arith, b))
other (suc zero) (suc (suc leg)) own a b c m n = absurd (omega (arith, b))
other zero (suc zero) (suc (suc own)) a b c m n = absurd (omega (arith, c))
other (suc zero) zero (suc (suc own)) a b c m n = absurd (omega (arith, c))

-- what is written at the number of the leg is read there, and each other number keeps what it had
written : (xs : List ℕ) (leg x : ℕ) (P : ℕ → ℕ → Type 0) (legs : ℕ) → leg < length xs → P leg x → ((i : ℕ) → i < legs → (i ≡ leg → ⊥) → P i (slice_index xs i))
    → (i : ℕ) → i < legs → P i (slice_index (set xs leg x) i)
written xs leg x P legs l p f i b = elim (cases_eq i leg) [
  | inl q ↦ subst (λ (k : ℕ). P k (slice_index (set xs leg x) k)) (sym q) (subst (λ (y : ℕ). P leg y) (sym (get_or-set_same xs leg x 0 l)) p)
  | inr n ↦ subst (λ (y : ℕ). P i y) (sym (get_or-set_other xs leg i x 0 n)) (f i b n)
]

-- Of two legs the one that was served rests until its spacing is over, and the other one is the terminal's own.
is_calm : (s : Setup) (o : AwareState) (d : Terminal) (leg media : ℕ) → length o.free_at ≡ s.legs → o.own < s.legs → leg < s.legs
    → media + o.spacing ≡ free_after s.spacing (last_media (sent_from (s.ssrc leg) d))
    → (t : ℕ) → t < calm_behind leg media o → NoneDue s o.own t d
is_calm s o d leg media legs own l free t before i b = go (length o.free_at == 2) (leg == o.own) refl refl before
  where
    rests : (x y : Bool) → (x && (y && false)) ≡ false
    rests true true = refl
    rests true false = refl
    rests false y = refl

    at_leg : t < media + o.spacing → is_due s o.own t d leg ≡ false
    at_leg less =
        ap (λ (z : Bool). not (leg == o.own) && (has_work s o.own d leg && z)) (sym (not_spaced s.spacing t (last_media (sent_from (s.ssrc leg) d)) (omega (arith, less, free))))
        ∙ rests (not (leg == o.own)) (has_work s o.own d leg)

    go : (two is_own : Bool) → (length o.free_at == 2) ≡ two → (leg == o.own) ≡ is_own → t < cond (two && not is_own) (media + o.spacing) 0 → is_due s o.own t d i ≡ false
    go false is_own q n less = absurd (omega (arith, less))
    go true true q n less = absurd (omega (arith, less))
    go true false q n less = elim (cases_eq i o.own) [
      | inl e ↦ ap (λ (z : Bool). not z && (has_work s o.own d i && is_spaced s.spacing t (last_media (sent_from (s.ssrc i) d)))) (eq-eqb i o.own e)
      | inr m ↦ subst (λ (k : ℕ). is_due s o.own t d k ≡ false) (other i leg o.own (omega (arith, b, legs, eqb-true (length o.free_at) 2 q)) (omega (arith, l, legs, eqb-true (length o.free_at) 2 q)) (omega (arith, own, legs, eqb-true (length o.free_at) 2 q)) m (λ e. true≢false (sym (eq-eqb leg o.own e) ∙ n))) (at_leg less)
    ]

stands_then : (s : Setup) (o : AwareState) (d : Terminal) (place leg media now : ℕ) → AwareStandsFor s o.own o d → length o.left ≡ length o.free_at → leg < s.legs
    → IsNext (stream s o.own) (sents d.past) (sent_of_leg s o.own media d leg)
    → AwareStandsFor s o.own (kept_served place leg media (text_of_leg (s.room o.own) d leg) o) (serve_leg s o.own now media d place (Some leg))
stands_then s o d place leg media now h c l n =
    let text = text_of_leg (s.room o.own) d leg in
    let e = sent_of_leg s o.own media d leg in
    let generations = s.generations o.own in
    let own : sent_of (s.ssrc leg) (e ∷ sents d.past) ≡ e ∷ sent_of (s.ssrc leg) (sents d.past) = sent_same (s.ssrc leg) e (sents d.past) refl in
    let other : (i : ℕ) → i < s.legs → (i ≡ leg → ⊥) → sent_of (s.ssrc i) (e ∷ sents d.past) ≡ sent_of (s.ssrc i) (sents d.past) =
    λ i b m. sent_other (s.ssrc i) e (sents d.past) (λ q. m (sym (h.setup.differ leg i l b q))) in
    record {
      setup = h.setup;
      places = h.places;
      own = refl;
      leg = h.leg;
      room = h.room;
      spacing = h.spacing;
      generations = h.generations;
      sent = (n, h.sent);
      legs = length-set o.free_at leg (media + o.spacing) ∙ h.legs;
      left = written o.left leg (left_behind leg text o) (λ i x. x ≡ repeats_left generations (sent_of (s.ssrc i) (e ∷ sents d.past))) s.legs (omega (arith, l, c, h.legs))
          ((λ r. cond (has_text text) (h.generations r) (h.left leg l r - 1)) ∙ ap (repeats_left generations) (sym own))
          (λ i b m. h.left i b ∙ ap (repeats_left generations) (sym (other i b m)));
      free = written o.free_at leg (media + o.spacing) (λ i x. x ≡ free_after s.spacing (last_media (sent_of (s.ssrc i) (e ∷ sents d.past)))) s.legs (omega (arith, l, h.legs))
          (ap (λ (x : ℕ). media + x) h.spacing ∙ ap (λ (xs : List Sent). free_after s.spacing (last_media xs)) (sym own))
          (λ i b m. h.free i b ∙ ap (λ (xs : List Sent). free_after s.spacing (last_media xs)) (sym (other i b m)));
      next = omega arith;
      none_mixed = sent_other s.mixer e (sents d.past) (h.setup.mixer_differs leg l) ∙ h.none_mixed;
      calm = is_calm s o (serve_leg s o.own now media d place (Some leg)) leg media h.legs h.leg l
          (ap (λ (x : ℕ). media + x) h.spacing ∙ ap (λ (xs : List Sent). free_after s.spacing (last_media xs)) (sym own));
    }

slots_then : (s : Setup) (table : Table) (j leg place media now : ℕ) (after : List Waiting) → slots.SlotsStandFor s after (fetched j leg (s.room j) table)
    → slots.SlotsStandFor s after (with_terminal j (serve_leg s j now media (table.terminals j) place (Some leg)) table)
slots_then s table j leg place media now after h =
    stands_same s after (fetched j leg (s.room j) table) (with_terminal j (serve_leg s j now media (table.terminals j) place (Some leg)) table) h (λ i. refl) (λ k. refl)
    (λ k i. same_waits (k == j) (serve_leg s j now media (table.terminals j) place (Some leg)) (take_front leg (s.room j) (table.terminals j)) (table.terminals k) i refl)

pub leg_served : (s : Setup) (table : Table) (o : AwareState) (before after : List Waiting) (place leg media now : ℕ) (text : List ℕ) → IsIn s o before table → length o.left ≡ length o.free_at
    → leg < s.legs → IsNext (stream s o.own) (sents (table.terminals o.own).past) (sent_of_leg s o.own media (table.terminals o.own) leg)
    → text ≡ text_of_leg o.room (table.terminals o.own) leg → slots.SlotsStandFor s after (fetched o.own leg o.room table)
    → IsTurned s table o.own (serve_leg s o.own now media (table.terminals o.own) place (Some leg)) media (kept_served place leg media text o) after (Some leg) text
leg_served s table o before after place leg media now text h c l n t f =
    let d = table.terminals o.own in
    let is : text ≡ text_of_leg (s.room o.own) d leg = t ∙ ap (λ n. text_of_leg n d leg) h.scheduler.room in
    record {
      scheduler = subst (λ (xs : List ℕ). AwareStandsFor s o.own (kept_served place leg media xs o) (serve_leg s o.own now media d place (Some leg))) (sym is) (stands_then s o d place leg media now h.scheduler c l n);
      slots_stand = slots_then s table o.own leg place media now after (subst (λ (n : ℕ). slots.SlotsStandFor s after (fetched o.own leg n table)) h.scheduler.room f);
      puts = puts_one true media (record { at = now; place = place; leg = leg; chunks = front (s.room o.own) (d.waits leg); sent = sent_of_leg s o.own media d leg }) d.past text is refl;
    }

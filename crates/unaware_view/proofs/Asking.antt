-- The choice of a composer is the answer of the definition.
use Rattle.std.proofs.Common.{◌≡◌, ℕ, suc, ◌<◌, ◌≤◌, Bool, true, false, cond, not, ◌&&◌, ◌||◌, inl, inr, Option, Some, None, List, [], length, refl, sym, ap, subst, ◌∙◌, arith}
use Rattle.std.specs.Prelude.{◌==◌, chars}
use Rattle.std.proofs.lemmas.Bool.{cases_eq, eq-eqb, ne_eqb}
use Rattle.t140_text.specs.Endings.{IsEnding}
use Rattle.t140_text.proofs.Endings.{line_of, sentence_of}
use Rattle.stream_spec.specs.Ready.{Chunk}
use Rattle.mixer_spec.specs.Chunks.{has_chunk}
use Rattle.mixer_spec.specs.Rounds.{any_below, first_round}
use Rattle.mixer_spec.specs.Setups.{Setup}
use Rattle.mixer_spec.specs.Composed.{Answer, Asked, answer, answer_after, begin_with, chars_of, go_on, headed, is_after_cr, is_labelled_again, is_open, latest, run_of, since, speak_on, text_of, is_ago, is_switch, ends_turn, waits_here}
use Rattle.unaware_view.specs.declared.composers.Current.{Current}
use Rattle.unaware_view.specs.declared.composers.Choice.{Choice}
use Rattle.unaware_view.specs.declared.composers.Choice.TheVariants.{Nobody, Begins, GoesOn}
use Rattle.unaware_view.specs.declared.runs.Run.{Run}
use Rattle.unaware_view.specs.Runs.{is_turn}
use Rattle.unaware_view.specs.States.{State}
use Rattle.std.proofs.lemmas.Str.{chars-encodes}
use Rattle.mixer_spec.proofs.Texts.{utf8_scalars}
use Rattle.unaware_view.specs.Choices.{again_by, is_again, is_set, since_at, is_left, begins, choice_after, choice, onward}
use Rattle.unaware_view.specs.Standing.{ComposerStandsFor, IsCurrent, IsSpeaker}
use Rattle.unaware_view.proofs.Firsts.{any_same, round_same}

-- what is given of a choice
abbrev pub given_of : ℕ → (ℕ → List ℕ) → (ℕ → List Chunk) → List Asked → Choice → Option Answer
given_of room name w asks Nobody = None
given_of room name w asks (Begins i) = Some (headed room w (name i) (is_after_cr asks) (is_open asks) [] i)
given_of room name w asks (GoesOn i) = Some (go_on room name w asks i)

begins_given : (room : ℕ) (name : ℕ → List ℕ) (w : ℕ → List Chunk) (asks : List Asked) (o : Option ℕ) → given_of room name w asks (begins o) ≡ begin_with room name w asks o
begins_given room name w asks None = refl
begins_given room name w asks (Some i) = refl

turn_is : (r : Run) (text : List ℕ) → IsEnding r.ending (chars text) → is_turn r.ending ≡ ends_turn text
turn_is r text h = λ k. line_of r.ending text h k || sentence_of r.ending text h k

-- a composer that has looked, with what waits at its terminal
pub record Looks (s : Setup) (c : State) (asks : List Asked) (w : ℕ → List Chunk) : Type 0 where
  pub stands : ComposerStandsFor s c asks
  pub legs : length c.waits ≡ s.legs
  pub flags : (i : ℕ) → i < length c.waits → is_set c.waits i ≡ waits_here c.own w i

others_same : (s : Setup) (c : State) (asks : List Asked) (w : ℕ → List Chunk) (x : ℕ) → Looks s c asks w
    → any_below (λ i. not (i == x) && is_set c.waits i) (length c.waits) ≡ any_below (λ i. not (i == x) && waits_here c.own w i) s.legs
others_same s c asks w x h =
    any_same (λ i. not (i == x) && is_set c.waits i) (λ i. not (i == x) && waits_here c.own w i) (length c.waits) (λ i l. ap (λ (b : Bool). not (i == x) && b) (h.flags i l))
    ∙ ap (any_below (λ i. not (i == x) && waits_here c.own w i)) h.legs

-- the terminal's own leg never counts
long_at : (own i x now : ℕ) (asks : List Asked) (w : ℕ → List Chunk) (o : Option ℕ) → ((i ≡ own → ⊥) → o ≡ since i asks)
    → (not (i == x) && (waits_here own w i && is_ago 7000 now o)) ≡ (not (i == x) && (waits_here own w i && is_ago 7000 now (since i asks)))
long_at own i x now asks w o f = elim (cases_eq i own) [
  | inl e ↦ ap (λ (b : Bool). not (i == x) && ((not b && has_chunk (w i)) && is_ago 7000 now o)) (eq-eqb i own e) ∙ sym (ap (λ (b : Bool). not (i == x) && ((not b && has_chunk (w i)) && is_ago 7000 now (since i asks))) (eq-eqb i own e))
  | inr n ↦ ap (λ (m : Option ℕ). not (i == x) && (waits_here own w i && is_ago 7000 now m)) (f n)
]

longs_same : (s : Setup) (c : State) (asks : List Asked) (w : ℕ → List Chunk) (x now : ℕ) → Looks s c asks w
    → any_below (λ i. not (i == x) && (is_set c.waits i && is_ago 7000 now (since_at c.since i))) (length c.waits) ≡ any_below (λ i. not (i == x) && (waits_here c.own w i && is_ago 7000 now (since i asks))) s.legs
longs_same s c asks w x now h =
    any_same (λ i. not (i == x) && (is_set c.waits i && is_ago 7000 now (since_at c.since i))) (λ i. not (i == x) && (waits_here c.own w i && is_ago 7000 now (since i asks))) (length c.waits)
    (λ i l. ap (λ (b : Bool). not (i == x) && (b && is_ago 7000 now (since_at c.since i))) (h.flags i l) ∙ long_at c.own i x now asks w (since_at c.since i) (λ n. h.stands.waits_since i (let k = h.legs in omega (arith, l, k)) n))
    ∙ ap (any_below (λ i. not (i == x) && (waits_here c.own w i && is_ago 7000 now (since i asks)))) h.legs

-- of the speaker itself
pub speaker_flag : (s : Setup) (c : State) (asks : List Asked) (w : ℕ → List Chunk) (x : ℕ) → Looks s c asks w → x < s.legs → (x ≡ c.own → ⊥) → is_set c.waits x ≡ has_chunk (w x)
speaker_flag s c asks w x h l n = h.flags x (let k = h.legs in omega (arith, l, k)) ∙ ap (λ (b : Bool). not b && has_chunk (w x)) (ne_eqb x c.own n)

switch_same : (s : Setup) (c : State) (asks : List Asked) (w : ℕ → List Chunk) (g : Answer) (x : Current) (now : ℕ) → Looks s c asks w → IsSpeaker s c.own asks g x → is_left c x now ≡ is_switch s.legs c.own now w asks x.speaker
switch_same s c asks w g x now h k = λ r.
    h.stands.run.chunk r
    && (others_same s c asks w x.speaker h r
    && (turn_is c.run (text_of (run_of asks)) (subst (λ (cs : List ℕ). IsEnding c.run.ending cs) (sym (chars-encodes (chars_of (run_of asks)) (utf8_scalars (run_of asks) h.stands.run.utf8))) h.stands.run.is_run.ending) r
    || ((not (speaker_flag s c asks w x.speaker h k.leg k.other r) && is_ago 2000 now (sym k.given r))
    || longs_same s c asks w x.speaker now h r)))

again_same : (s : Setup) (c : State) (asks : List Asked) (w : ℕ → List Chunk) (g : Answer) (x : Current) (now : ℕ) → Looks s c asks w → IsSpeaker s c.own asks g x → is_again c x now ≡ is_labelled_again s.relabel now asks x.speaker
again_same s c asks w g x now h k = ap (λ (o : Option ℕ). again_by o c.run.has_chunk now x.given_at) h.stands.relabel ∙ go s.relabel
  where
    go : (o : Option ℕ) → again_by o c.run.has_chunk now x.given_at ≡ is_labelled_again o now asks x.speaker
    go None = refl
    go (Some ms) = λ r. h.stands.run.chunk r && is_ago ms now (sym k.given r)

-- ---- the choice
pub choice_is : (s : Setup) (c : State) (asks : List Asked) (w : ℕ → List Chunk) (due : Bool) (now : ℕ) → Looks s c asks w → given_of (s.room c.own) s.name w asks (choice c due now) ≡ answer (s.room c.own) s.legs s.name s.relabel c.own now due w asks
choice_is s c asks w false now h = refl
choice_is s c asks w true now h = go (latest asks) c.current h.stands.current
  where
    rounds : (start : ℕ) → start ≤ s.legs → given_of (s.room c.own) s.name w asks (begins (first_round (is_set c.waits) start (length c.waits))) ≡ begin_with (s.room c.own) s.name w asks (first_round (waits_here c.own w) start s.legs)
    rounds start l =
        begins_given (s.room c.own) s.name w asks (first_round (is_set c.waits) start (length c.waits))
        ∙ ap (begin_with (s.room c.own) s.name w asks) (round_same (is_set c.waits) (waits_here c.own w) start (length c.waits) (let k = h.legs in omega (arith, l, k)) h.flags ∙ ap (first_round (waits_here c.own w) start) h.legs)

    on : (a : Bool) → ℕ → Answer
    on a i = cond a (headed (s.room c.own) w (s.name i) (is_after_cr asks) (is_open asks) [] i) (go_on (s.room c.own) s.name w asks i)

    by : (b d a : Bool) (k : Choice) (i : ℕ) (o : Option Answer) → given_of (s.room c.own) s.name w asks k ≡ o → given_of (s.room c.own) s.name w asks (cond b k (cond d (onward a i) Nobody)) ≡ cond b o (cond d (Some (on a i)) None)
    by true d a k i o e = e
    by false true true k i o e = refl
    by false true false k i o e = refl
    by false false a k i o e = refl

    go : (o : Option Answer) (k : Option Current) → IsCurrent s c.own asks o k → given_of (s.room c.own) s.name w asks (choice_after c now k) ≡ answer_after (s.room c.own) s.legs s.name s.relabel c.own now w asks o
    go None None u = rounds 0 (omega arith)
    go None (Some x) u = absurd u
    go (Some g) None u = absurd u
    go (Some g) (Some x) u =
        by (is_left c x now) (is_set c.waits x.speaker) (is_again c x now) (begins (first_round (is_set c.waits) (suc x.speaker) (length c.waits))) x.speaker (begin_with (s.room c.own) s.name w asks (first_round (waits_here c.own w) (suc x.speaker) s.legs)) (rounds (suc x.speaker) (let l = u.leg in omega (arith, l)))
        ∙ ((λ r. cond (switch_same s c asks w g x now h u r) (begin_with (s.room c.own) s.name w asks (first_round (waits_here c.own w) (suc x.speaker) s.legs)) (cond (speaker_flag s c asks w x.speaker h u.leg u.other r) (Some (on (again_same s c asks w g x now h u r) x.speaker)) None))
        ∙ ap (λ (i : ℕ). cond (is_switch s.legs c.own now w asks i) (begin_with (s.room c.own) s.name w asks (first_round (waits_here c.own w) (suc i) s.legs)) (cond (has_chunk (w i)) (Some (speak_on (s.room c.own) s.name s.relabel now w asks i)) None)) (sym u.source))

-- Where labels stand, and that each bracket that is sent is a label's, and no direction is sent.
use Rattle.std.proofs.Common.{◌≡◌, ℕ, suc, Bool, true, false, cond, inl, inr, Option, Some, None, List, [], ◌∷◌, ◌++◌, refl, ap, subst, sym, ◌∙◌, append_assoc, append-nil}
use Rattle.std.specs.Prelude.{◌==◌, ◌&&◌, ◌||◌, not, if◌then◌else◌, encode_utf8, encode_utf8_all}
use Rattle.std.specs.List.{list_any}
use Rattle.std.proofs.lemmas.Bool.{cases_Bool, eqb-true, or_cases, or_parts, true≢false}
use Rattle.std.proofs.lemmas.List.Folds.{list_any-append}
use Rattle.view_spec.specs.declared.classes.CharClass.TheVariants.{Print}
use Rattle.view_spec.specs.Characters.{class_of, is_open_after, is_print, opens}
use Rattle.view_spec.specs.TextViews.{is_bracket, is_direction, label_after, without_directions}
use Rattle.stream_spec.specs.Ready.{Chunk}
use Rattle.mixer_spec.specs.Chunks.{joined, has_chunk, front}
use Rattle.std.specs.Prelude.{chars}
use Rattle.mixer_spec.specs.Rounds.{first_round}
use Rattle.mixer_spec.specs.Setups.{Setup}
use Rattle.mixer_spec.specs.Composed.{Answer, Asked, began_behind_cr, begin_with, behind_label, chars_of, from_seen, go_on, gone_on, headed, is_after_cr, is_erased, is_labelled_again, is_open, is_seen, is_switch, is_unlabelled, labelled, latest, own_part, room_beside, run_of, sent_one, speak_on, waits_here, with_label, written, answer, answer_after}
use Rattle.mixer_spec.specs.Table.{shared}
use Rattle.mixer_spec.specs.Core.{Event, after}
use Rattle.mixer_spec.specs.Laws.{IsComposed}
use Rattle.mixer_spec.specs.OneText.{AreLabelled, HasOneLabel, IsLabelledAnswer, StandsBeforeSeen, begins_seen, label_before}
use Rattle.mixer_spec.proofs.Asks.{composed_law}

-- ---- brackets
brackets_print : (class_of 0x5B ≡ Print) × (class_of 0x5D ≡ Print) × (class_of 0xFF3B ≡ Print) × (class_of 0xFF3D ≡ Print)
unfolding class_of
brackets_print = (refl, refl, refl, refl)

bracket_prints : (c : ℕ) → is_bracket c ≡ true → is_print (class_of c) ≡ true
bracket_prints c e = elim (or_cases (c == 0x5B || c == 0x5D || c == 0xFF3B) (c == 0xFF3D) e) [
  | inl x ↦ elim (or_cases (c == 0x5B || c == 0x5D) (c == 0xFF3B) x) [
    | inl y ↦ elim (or_cases (c == 0x5B) (c == 0x5D) y) [
      | inl z ↦ ap is_print (ap class_of (eqb-true c 0x5B z) ∙ brackets_print.0)
      | inr z ↦ ap is_print (ap class_of (eqb-true c 0x5D z) ∙ brackets_print.1)
    ]
    | inr y ↦ ap is_print (ap class_of (eqb-true c 0xFF3B y) ∙ brackets_print.2)
  ]
  | inr x ↦ ap is_print (ap class_of (eqb-true c 0xFF3D x) ∙ brackets_print.3)
]

pub unseen_one : (cr : Bool) (run : List ℕ) (c : ℕ) → is_seen cr run c ≡ false → is_bracket c ≡ false
unseen_one cr run c e = elim (cases_Bool (is_bracket c)) [
  | inl t ↦ absurd (true≢false (sym (ap (λ b. b || (c == 0x08 && is_erased (own_part cr run))) (bracket_prints c t)) ∙ e))
  | inr f ↦ f
]

pub unseen_plain : (cr : Bool) (run ahead : List ℕ) → from_seen cr run ahead ≡ [] → list_any is_bracket ahead ≡ false
unseen_plain cr run [] u = refl
unseen_plain cr run (c ∷ ahead) u = go (is_seen cr run c) refl u (unseen_plain cr (run ++ c ∷ []) ahead)
  where
    go : (b : Bool) → is_seen cr run c ≡ b → cond b (c ∷ ahead) (from_seen cr (run ++ c ∷ []) ahead) ≡ [] → (from_seen cr (run ++ c ∷ []) ahead ≡ [] → list_any is_bracket ahead ≡ false) → (is_bracket c || list_any is_bracket ahead) ≡ false
    go true e v h = absurd (cc v)
    go false e v h = ap (λ b. b || list_any is_bracket ahead) (unseen_one cr run c e) ∙ h v

-- what is sent for a character that is erased, is one of the brackets, or is none
abbrev pub sent_of_five : ℕ → Bool → Bool → Bool → Bool → Bool → ℕ
sent_of_five c x a b d e = cond x 0x58 (cond a 0x28 (cond b 0x29 (cond d 0xFF08 (cond e 0xFF09 c))))

pub sent_plain : (own : List ℕ) (c : ℕ) → is_bracket (sent_one own c) ≡ false
sent_plain own c = go (c == 0x08 && is_erased own) (c == 0x5B) (c == 0x5D) (c == 0xFF3B) (c == 0xFF3D) refl refl refl refl
  where
    go : (x a b d e : Bool) → (c == 0x5B) ≡ a → (c == 0x5D) ≡ b → (c == 0xFF3B) ≡ d → (c == 0xFF3D) ≡ e → is_bracket (sent_of_five c x a b d e) ≡ false
    go true a b d e p q r t = refl
    go false true b d e p q r t = refl
    go false false true d e p q r t = refl
    go false false false true e p q r t = refl
    go false false false false true p q r t = refl
    go false false false false false p q r t = λ i. p i || q i || r i || t i

pub written_plain : (own cs : List ℕ) → list_any is_bracket (written own cs) ≡ false
written_plain own [] = refl
written_plain own (c ∷ cs) = ap (λ b. b || list_any is_bracket (written (own ++ c ∷ []) cs)) (sent_plain own c) ∙ written_plain (own ++ c ∷ []) cs

-- ---- directions
pub none_left : (cs : List ℕ) → list_any is_direction (without_directions cs) ≡ false
none_left [] = refl
none_left (c ∷ cs) = go (is_direction c) refl (none_left cs)
  where
    go : (b : Bool) → is_direction c ≡ b → list_any is_direction (without_directions cs) ≡ false → list_any is_direction (cond (not b) (c ∷ without_directions cs) (without_directions cs)) ≡ false
    go true e h = h
    go false e h = ap (λ b. b || list_any is_direction (without_directions cs)) e ∙ h

sent_straight : (own : List ℕ) (c : ℕ) → is_direction c ≡ false → is_direction (sent_one own c) ≡ false
sent_straight own c n = go (c == 0x08 && is_erased own) (c == 0x5B) (c == 0x5D) (c == 0xFF3B) (c == 0xFF3D)
  where
    go : (x a b d e : Bool) → is_direction (sent_of_five c x a b d e) ≡ false
    go true a b d e = refl
    go false true b d e = refl
    go false false true d e = refl
    go false false false true e = refl
    go false false false false true = refl
    go false false false false false = n

written_straight : (own cs : List ℕ) → list_any is_direction cs ≡ false → list_any is_direction (written own cs) ≡ false
written_straight own [] n = refl
written_straight own (c ∷ cs) n =
    let p = or_parts (is_direction c) (list_any is_direction cs) n in
    ap (λ b. b || list_any is_direction (written (own ++ c ∷ []) cs)) (sent_straight own c p.0) ∙ written_straight (own ++ c ∷ []) cs p.1

-- ---- a run with its label
pub stands_before_seen : (name : List ℕ) (cr on : Bool) (run cs : List ℕ) → StandsBeforeSeen name cr on run cs
stands_before_seen name cr on run [] = record { ahead = []; rest = []; parts = refl; unseen = refl; seen = refl; is = refl }
stands_before_seen name cr on run (c ∷ cs) = go (is_seen cr run c) refl (stands_before_seen name cr (opens (class_of c) on) (run ++ c ∷ []) cs)
  where
    first : (b : Bool) → List ℕ
    first b = cond b (label_after on name ++ encode_utf8_all (written [] (c ∷ cs))) (encode_utf8 c ++ labelled name cr (opens (class_of c) on) (run ++ c ∷ []) cs)

    go : (b : Bool) → is_seen cr run c ≡ b → StandsBeforeSeen name cr (opens (class_of c) on) (run ++ c ∷ []) cs → StandsBeforeSeen name cr on run (c ∷ cs)
    go true e r = record {
      ahead = [];
      rest = c ∷ cs;
      parts = refl;
      unseen = refl;
      seen = ap (λ x. is_seen cr x c) (append-nil run) ∙ e;
      is = ap first e;
    }
    go false e r = record {
      ahead = c ∷ r.ahead;
      rest = r.rest;
      parts = ap (λ xs. c ∷ xs) r.parts;
      unseen = ap (λ b. cond b (c ∷ r.ahead) (from_seen cr (run ++ c ∷ []) r.ahead)) e ∙ r.unseen;
      seen = ap (λ x. begins_seen cr x r.rest) (sym (append_assoc run (c ∷ []) r.ahead)) ∙ r.seen;
      is = ap first e ∙ (ap (λ xs. encode_utf8 c ++ xs) r.is
          ∙ sym (append_assoc (encode_utf8 c) (encode_utf8_all r.ahead) (label_before name (is_open_after (opens (class_of c) on) r.ahead) r.rest)));
    }

-- ---- an answer
of_parts : (name : List ℕ) (cr on : Bool) (run cs : List ℕ) → list_any is_direction cs ≡ false → HasOneLabel name (labelled name cr on run cs)
of_parts name cr on run cs n =
    let r = stands_before_seen name cr on run cs in
    go r.ahead r.rest r.is (unseen_plain cr run r.ahead r.unseen) (or_parts (list_any is_direction r.ahead) (list_any is_direction r.rest) (sym (list_any-append is_direction r.ahead r.rest) ∙ (ap (list_any is_direction) (sym r.parts) ∙ n)))
  where
    go : (ahead rest : List ℕ) → labelled name cr on run cs ≡ encode_utf8_all ahead ++ label_before name (is_open_after on ahead) rest → list_any is_bracket ahead ≡ false
        → (list_any is_direction ahead ≡ false) × (list_any is_direction rest ≡ false) → HasOneLabel name (labelled name cr on run cs)
    go ahead [] e n d = record {
      ahead = ahead;
      label = [];
      rest = [];
      text_is = e;
      of_name = inl refl;
      no_bracket = ap (list_any is_bracket) (append-nil ahead) ∙ n;
      no_direction = ap (list_any is_direction) (append-nil ahead) ∙ d.0;
    }
    go ahead (c ∷ rest) e n d = record {
      ahead = ahead;
      label = label_after (is_open_after on ahead) name;
      rest = written [] (c ∷ rest);
      text_is = e;
      of_name = inr (is_open_after on ahead, refl);
      no_bracket = list_any-append is_bracket ahead (written [] (c ∷ rest)) ∙ (ap (λ b. b || list_any is_bracket (written [] (c ∷ rest))) n ∙ written_plain [] (c ∷ rest));
      no_direction = list_any-append is_direction ahead (written [] (c ∷ rest)) ∙ (ap (λ b. b || list_any is_direction (written [] (c ∷ rest))) d.0 ∙ written_straight [] (c ∷ rest) d.1);
    }

with_label_has : (name : List ℕ) (cr on : Bool) (run cs : List Chunk) → HasOneLabel name (with_label name cr on run cs)
with_label_has name cr on run [] = record { ahead = []; label = label_after on name; rest = []; text_is = sym (append-nil (label_after on name)); of_name = inr (on, refl); no_bracket = refl; no_direction = refl }
with_label_has name cr on run (c ∷ cs) = of_parts name cr on (chars_of run) (chars_of (c ∷ cs)) (none_left (chars (joined (c ∷ cs))))

written_has : (name own cs : List ℕ) → list_any is_direction cs ≡ false → HasOneLabel name (encode_utf8_all (written own cs))
written_has name own cs n = record { ahead = []; label = []; rest = written own cs; text_is = refl; of_name = inl refl; no_bracket = written_plain own cs; no_direction = written_straight own cs n }

abbrev Has : Setup → Answer → Type 0
Has s g = HasOneLabel (s.name g.source) g.text

go_on_has : (s : Setup) (room : ℕ) (waits : ℕ → List Chunk) (asks : List Asked) (c : ℕ) → Has s (go_on room s.name waits asks c)
go_on_has s room waits asks c = go (is_unlabelled asks)
  where
    go : (b : Bool) → Has s (cond b (headed room waits (s.name c) (began_behind_cr asks) (is_open asks) (run_of asks) c) (gone_on room waits (behind_label asks) c))
    go true = with_label_has (s.name c) (began_behind_cr asks) (is_open asks) (run_of asks) (front (room_beside room (s.name c)) (waits c))
    go false = written_has (s.name c) (behind_label asks) (chars_of (front room (waits c))) (none_left (chars (joined (front room (waits c)))))

speak_on_has : (s : Setup) (room : ℕ) (now : ℕ) (waits : ℕ → List Chunk) (asks : List Asked) (c : ℕ) → Has s (speak_on room s.name s.relabel now waits asks c)
speak_on_has s room now waits asks c = go (is_labelled_again s.relabel now asks c)
  where
    go : (b : Bool) → Has s (cond b (headed room waits (s.name c) (is_after_cr asks) (is_open asks) [] c) (go_on room s.name waits asks c))
    go true = with_label_has (s.name c) (is_after_cr asks) (is_open asks) [] (front (room_beside room (s.name c)) (waits c))
    go false = go_on_has s room waits asks c

answer_has : (s : Setup) (own now : ℕ) (due : Bool) (waits : ℕ → List Chunk) (asks : List Asked) (g : Answer) → answer (s.room own) s.legs s.name s.relabel own now due waits asks ≡ Some g → Has s g
answer_has s own now false waits asks g e = absurd (cc e)
answer_has s own now true waits asks g e = from (latest asks) e
  where
    begins : (o : Option ℕ) → begin_with (s.room own) s.name waits asks o ≡ Some g → Has s g
    begins None e = absurd (cc e)
    begins (Some u) e =
        let same : headed (s.room own) waits (s.name u) (is_after_cr asks) (is_open asks) [] u ≡ g = cc e in
        subst (Has s) same (with_label_has (s.name u) (is_after_cr asks) (is_open asks) [] (front (room_beside (s.room own) (s.name u)) (waits u)))

    rest : (b : Bool) (c : ℕ) → cond b (Some (speak_on (s.room own) s.name s.relabel now waits asks c)) None ≡ Some g → Has s g
    rest true c e = let same : speak_on (s.room own) s.name s.relabel now waits asks c ≡ g = cc e in subst (Has s) same (speak_on_has s (s.room own) now waits asks c)
    rest false c e = absurd (cc e)

    either : (b : Bool) (c : ℕ) → cond b (begin_with (s.room own) s.name waits asks (first_round (waits_here own waits) (suc c) s.legs)) (if has_chunk (waits c) then Some (speak_on (s.room own) s.name s.relabel now waits asks c) else None) ≡ Some g → Has s g
    either true c e = begins (first_round (waits_here own waits) (suc c) s.legs) e
    either false c e = rest (has_chunk (waits c)) c e

    from : (o : Option Answer) → answer_after (s.room own) s.legs s.name s.relabel own now waits asks o ≡ Some g → Has s g
    from None e = begins (first_round (waits_here own waits) 0 s.legs) e
    from (Some c) e = either (is_switch s.legs own now waits asks c.source) c.source e

-- ---- all answers
given_has : (s : Setup) (own now : ℕ) (due : Bool) (waits : ℕ → List Chunk) (asks : List Asked) (o : Option Answer) → o ≡ answer (s.room own) s.legs s.name s.relabel own now due waits asks → IsLabelledAnswer s o
given_has s own now due waits asks None e = tt
given_has s own now due waits asks (Some g) e = answer_has s own now due waits asks g (sym e)

composed_has : (s : Setup) (chunks : ℕ → List Chunk) (own : ℕ) (asks : List Asked) → IsComposed s chunks own asks → AreLabelled s asks
composed_has s chunks own [] h = tt
composed_has s chunks own (a ∷ past) h = (given_has s own a.media h.0.due h.0.waits past a.given h.0.answers, composed_has s chunks own past h.1)

pub brackets_are_labels : (s : Setup) (chunks : ℕ → List Chunk) (past : List Event) (j : ℕ) → s.aware j ≡ false → AreLabelled s ((after s chunks past).table.terminals j).asks
brackets_are_labels s chunks past j e =
    let w = after s chunks past in
    composed_has s (λ i. shared j (w.table.taken i)) j (w.table.terminals j).asks (composed_law s chunks past j e)

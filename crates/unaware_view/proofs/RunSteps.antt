-- One character more of a run.
use Rattle.std.proofs.Common.{◌≡◌, ℕ, ◌+◌, ◌-◌, ◌≤◌, Bool, true, false, cond, not, ◌&&◌, ◌||◌, inl, inr, List, [], ◌∷◌, ◌++◌, length, refl, sym, ap, subst, ◌∙◌, append_assoc, append-nil, length-append, arith, encode_utf8_all, chars, IsUtf8}
use Rattle.std.specs.Prelude.{◌==◌}
use Rattle.std.specs.Char.{encode_utf8}
use Rattle.std.proofs.lemmas.Bool.{eqb-true, ne_eqb, true≢false, and_parts, not-true, or_parts}
use Rattle.std.proofs.lemmas.Str.{IsUtf8-past_char, chars-encodes, chars_past_char, encode_ascii}
use Rattle.view_spec.specs.declared.classes.CharClass.{CharClass}
use Rattle.view_spec.specs.declared.classes.CharClass.TheVariants.{Erase, Bell, NewLine, Silent, Marker, Print}
use Rattle.view_spec.specs.Characters.{class_of, is_marker, is_open_after, is_print, opens}
use Rattle.view_spec.specs.Shown.{ends_with_cr, loose, signs, survivors}
use Rattle.view_spec.specs.TextViews.{is_bracket, is_direction, label_after, without_bracket, without_directions}
use Rattle.view_spec.proofs.Erasing.{loose-append, loose-one_back}
use Rattle.view_spec.proofs.Steps.{ends_with_cr-last, stands-erase, stands-marker, stands-print, stands-new_line, stands-cr_lf, stands-bell, stands-silent}
use Rattle.t140_text.specs.Endings.{IsEnding}
use Rattle.t140_text.proofs.Endings.{push_step}
use Rattle.mixer_spec.specs.Composed.{cr_last, from_seen, is_erased, is_seen, labelled, own_part, written}
use Rattle.mixer_spec.proofs.Labels.{unseen_one}
use Rattle.mixer_spec.proofs.Texts.{encode_some, one_short}
use Rattle.unaware_view.specs.declared.runs.Run.{Run}
use Rattle.unaware_view.specs.Runs.{IsAhead, IsBehind, IsRun, Sends, Writes, after_one, before_by, behind, erasable_after, erasable_by, is_headed, is_seen_at, sent_for, sent_of, step_by, stepped, text_after_one, text_by, text_of_one}

-- ---- what can be taken back
one_longer : (cs : List ℕ) (c n : ℕ) → is_marker (class_of c) ≡ false → loose cs ≡ n → loose (cs ++ c ∷ []) ≡ n + 1
one_longer cs c n m e = loose-append 0 cs c ∙ (ap (λ b. cond b 0 (loose cs + 1)) m ∙ ap (λ x. x + 1) e)

none_behind : (cs : List ℕ) (c : ℕ) → is_marker (class_of c) ≡ true → loose (cs ++ c ∷ []) ≡ 0
none_behind cs c m = loose-append 0 cs c ∙ ap (λ b. cond b 0 (loose cs + 1)) m

lf_unmarked : is_marker (class_of 0x0A) ≡ false
unfolding class_of
lf_unmarked = refl

erasable_step : (cs : List ℕ) (c n : ℕ) (after : Bool) → loose (survivors (signs cs)) ≡ n → ends_with_cr cs ≡ after → loose (survivors (signs (cs ++ c ∷ []))) ≡ erasable_after after n c
erasable_step cs c n after e cr = go (class_of c) refl
  where
    line : (a b : Bool) → (c == 0x0A) ≡ a → after ≡ b → class_of c ≡ NewLine → loose (survivors (signs (cs ++ c ∷ []))) ≡ cond (a && b) n (n + 1)
    line true true p q k = subst (λ (x : ℕ). loose (survivors (signs (cs ++ x ∷ []))) ≡ n) (sym (eqb-true c 0x0A p)) (ap loose (stands-cr_lf cs (cr ∙ q)) ∙ e)
    line true false p q k = ap loose (stands-new_line cs c k (ap (λ (b : Bool). (c == 0x0A) && b) (cr ∙ q) ∙ ap (λ (a : Bool). a && false) p)) ∙ one_longer (survivors (signs cs)) 0x0A n lf_unmarked e
    line false b p q k = ap loose (stands-new_line cs c k (ap (λ (a : Bool). a && ends_with_cr cs) p)) ∙ one_longer (survivors (signs cs)) 0x0A n lf_unmarked e

    go : (k : CharClass) → class_of c ≡ k → loose (survivors (signs (cs ++ c ∷ []))) ≡ erasable_by k after n c
    go Erase k = ap loose (stands-erase cs c k) ∙ (loose-one_back (survivors (signs cs)) ∙ ap (λ (m : ℕ). m - 1) e)
    go Bell k = ap loose (stands-bell cs c k) ∙ e
    go NewLine k = line (c == 0x0A) after refl refl k
    go Silent k = ap loose (stands-silent cs c k) ∙ e
    go Marker k = ap loose (stands-marker cs c k) ∙ none_behind (survivors (signs cs)) c (ap is_marker k)
    go Print k = ap loose (stands-print cs c k) ∙ one_longer (survivors (signs cs)) c n (ap is_marker k) e

lf_is_no_print : class_of 0x0A ≡ Print → ⊥
unfolding class_of
lf_is_no_print q = cc q

-- the first character, behind a CR of another run or not
first_step : (behind_cr : Bool) (c : ℕ) → loose (survivors (signs (own_part behind_cr (c ∷ [])))) ≡ erasable_after behind_cr 0 c
first_step true c = go (c == 0x0A) refl
  where
    same : (k : CharClass) → (c == 0x0A) ≡ false → erasable_by k false 0 c ≡ erasable_by k true 0 c
    same Erase e = refl
    same Bell e = refl
    same NewLine e = ap (λ (b : Bool). cond (b && false) 0 1) e ∙ sym (ap (λ (b : Bool). cond (b && true) 0 1) e)
    same Silent e = refl
    same Marker e = refl
    same Print e = refl

    line_feed : (k : CharClass) → class_of 0x0A ≡ k → 0 ≡ erasable_by k true 0 0x0A
    line_feed Erase e = refl
    line_feed Bell e = refl
    line_feed NewLine e = refl
    line_feed Silent e = refl
    line_feed Marker e = refl
    line_feed Print e = absurd (lf_is_no_print e)

    go : (b : Bool) → (c == 0x0A) ≡ b → loose (survivors (signs (cond b [] (c ∷ [])))) ≡ erasable_after true 0 c
    go true e = subst (λ (x : ℕ). 0 ≡ erasable_after true 0 x) (sym (eqb-true c 0x0A e)) (line_feed (class_of 0x0A) refl)
    go false e = erasable_step [] c 0 false refl refl ∙ same (class_of c) e
first_step false c = erasable_step [] c 0 false refl refl

-- what can be taken back ahead of the label
own_step : (behind_cr : Bool) (cs : List ℕ) (c n : ℕ) (after : Bool) → loose (survivors (signs (own_part behind_cr cs))) ≡ n → cr_last behind_cr cs ≡ after
    → loose (survivors (signs (own_part behind_cr (cs ++ c ∷ [])))) ≡ erasable_after after n c
own_step behind_cr [] c n after e cr =
    let none : n ≡ 0 = sym e ∙ empty behind_cr in
    first_step behind_cr c ∙ (λ i. erasable_after (cr i) (sym none i) c)
  where
    empty : (b : Bool) → loose (survivors (signs (own_part b []))) ≡ 0
    empty true = refl
    empty false = refl
own_step behind_cr (x ∷ xs) c n after e cr = go (behind_cr && x == 0x0A) refl e
  where
    behind_lf : (ys : List ℕ) → x ≡ 0x0A → ends_with_cr (x ∷ ys) ≡ ends_with_cr ys
    behind_lf [] q = ap (λ y. y == 0x0D) q
    behind_lf (y ∷ ys) q = refl

    go : (b : Bool) → (behind_cr && x == 0x0A) ≡ b → loose (survivors (signs (cond b xs (x ∷ xs)))) ≡ n → loose (survivors (signs (cond b (xs ++ c ∷ []) (x ∷ (xs ++ c ∷ []))))) ≡ erasable_after after n c
    go true q f = erasable_step xs c n after f (sym (behind_lf xs (eqb-true x 0x0A (and_parts behind_cr (x == 0x0A) q).1)) ∙ cr)
    go false q f = erasable_step (x ∷ xs) c n after f cr

-- ---- what is seen
longer : (xs : List ℕ) (c : ℕ) → (length (xs ++ c ∷ []) == 0) ≡ false
longer xs c = let l = length-append xs (c ∷ []) in ne_eqb (length (xs ++ c ∷ [])) 0 (λ q. omega (arith, l, q))

push_unseen : (behind_cr : Bool) (run cs : List ℕ) (c : ℕ) → from_seen behind_cr run cs ≡ [] → from_seen behind_cr run (cs ++ c ∷ []) ≡ cond (is_seen behind_cr (run ++ cs) c) (c ∷ []) []
push_unseen behind_cr run [] c e = sym (ap (λ r. cond (is_seen behind_cr r c) (c ∷ []) []) (append-nil run))
push_unseen behind_cr run (x ∷ cs) c e = go (is_seen behind_cr run x) e (push_unseen behind_cr (run ++ x ∷ []) cs c)
  where
    go : (b : Bool) → cond b (x ∷ cs) (from_seen behind_cr (run ++ x ∷ []) cs) ≡ []
        → (from_seen behind_cr (run ++ x ∷ []) cs ≡ [] → from_seen behind_cr (run ++ x ∷ []) (cs ++ c ∷ []) ≡ cond (is_seen behind_cr ((run ++ x ∷ []) ++ cs) c) (c ∷ []) [])
        → cond b (x ∷ (cs ++ c ∷ [])) (from_seen behind_cr (run ++ x ∷ []) (cs ++ c ∷ [])) ≡ cond (is_seen behind_cr (run ++ x ∷ cs) c) (c ∷ []) []
    go true q h = absurd (cc q)
    go false q h = h q ∙ ap (λ r. cond (is_seen behind_cr r c) (c ∷ []) []) (append_assoc run (x ∷ []) cs)

push_seen : (behind_cr : Bool) (run cs : List ℕ) (c : ℕ) → (length (from_seen behind_cr run cs) == 0) ≡ false → from_seen behind_cr run (cs ++ c ∷ []) ≡ from_seen behind_cr run cs ++ c ∷ []
push_seen behind_cr run [] c e = absurd (true≢false e)
push_seen behind_cr run (x ∷ cs) c e = go (is_seen behind_cr run x) e (push_seen behind_cr (run ++ x ∷ []) cs c)
  where
    go : (b : Bool) → (length (cond b (x ∷ cs) (from_seen behind_cr (run ++ x ∷ []) cs)) == 0) ≡ false
        → ((length (from_seen behind_cr (run ++ x ∷ []) cs) == 0) ≡ false → from_seen behind_cr (run ++ x ∷ []) (cs ++ c ∷ []) ≡ from_seen behind_cr (run ++ x ∷ []) cs ++ c ∷ [])
        → cond b (x ∷ (cs ++ c ∷ [])) (from_seen behind_cr (run ++ x ∷ []) (cs ++ c ∷ [])) ≡ cond b (x ∷ cs) (from_seen behind_cr (run ++ x ∷ []) cs) ++ c ∷ []
    go true q h = refl
    go false q h = h q

-- the characters behind the label are one more
behind_push : (alone behind_cr : Bool) (cs : List ℕ) (c : ℕ) → (not alone && length (from_seen behind_cr [] cs) == 0) ≡ false → behind alone behind_cr (cs ++ c ∷ []) ≡ behind alone behind_cr cs ++ c ∷ []
behind_push true behind_cr cs c e = refl
behind_push false behind_cr cs c e = push_seen behind_cr [] cs c e

still_seen : (alone behind_cr : Bool) (cs : List ℕ) (c : ℕ) → (not alone && length (from_seen behind_cr [] cs) == 0) ≡ false → (not alone && length (from_seen behind_cr [] (cs ++ c ∷ [])) == 0) ≡ false
still_seen true behind_cr cs c e = refl
still_seen false behind_cr cs c e = ap (λ xs. length xs == 0) (push_seen behind_cr [] cs c e) ∙ longer (from_seen behind_cr [] cs) c

seen_same : (r : Run) (alone behind_cr : Bool) (run : List ℕ) (c : ℕ) → IsAhead r alone behind_cr run → is_seen behind_cr run c ≡ is_seen_at r.erasable c
seen_same r alone behind_cr run c h = ap (λ n. is_print (class_of c) || (c == 0x08 && n == 0)) h.erasable

-- the label goes before a character only where it is to come
pub headed_parts : (r : Run) (c : ℕ) → is_headed r c ≡ true → (r.labelled ≡ false) × (is_seen_at r.erasable c ≡ true)
headed_parts r c e = let p = and_parts (not r.labelled) (is_seen_at r.erasable c) e in (not-true r.labelled p.0, p.1)

pub ahead_unseen : (r : Run) (c : ℕ) → r.labelled ≡ false → is_headed r c ≡ false → is_seen_at r.erasable c ≡ false
ahead_unseen r c l e = sym (ap (λ b. not b && is_seen_at r.erasable c) l) ∙ e

-- ---- the run with one character more
unseen_cr : (behind_cr : Bool) (cs : List ℕ) (c : ℕ) → cr_last behind_cr (cs ++ c ∷ []) ≡ (c == 0x0D)
unseen_cr behind_cr [] c = refl
unseen_cr behind_cr (x ∷ cs) c = ends_with_cr-last (x ∷ cs) c

run_by : (r : Run) (alone behind_cr : Bool) (run : List ℕ) (c : ℕ) (heads : Bool) → is_headed r c ≡ heads → IsRun r alone behind_cr run → IsRun (step_by heads r c) alone behind_cr (run ++ c ∷ [])
run_by r alone behind_cr run c true q h = record { ending = push_step r.ending c run h.ending; part = elim h.part [ inl a ↦ inr (first a) | inr b ↦ absurd (true≢false (sym b.labelled ∙ (headed_parts r c q).0)) ] }
  where
    first : IsAhead r alone behind_cr run → IsBehind (step_by true r c) alone behind_cr (run ++ c ∷ [])
    first a =
        let s : is_seen behind_cr run c ≡ true = seen_same r alone behind_cr run c a ∙ (headed_parts r c q).1 in
        let one : from_seen behind_cr [] (run ++ c ∷ []) ≡ c ∷ [] = push_unseen behind_cr [] run c a.unseen ∙ ap (λ b. cond b (c ∷ []) []) s in
        let own : behind alone behind_cr (run ++ c ∷ []) ≡ c ∷ [] = ap (λ b. cond b (run ++ c ∷ []) (from_seen behind_cr [] (run ++ c ∷ []))) a.not_alone ∙ one in
        record {
          labelled = refl;
          seen = (λ i. not (a.not_alone i) && length (one i) == 0);
          erasable = ap (λ xs. loose (survivors (signs xs))) own ∙ erasable_step [] c 0 false refl refl;
          after_cr = ap ends_with_cr own;
        }
run_by r alone behind_cr run c false q h = record { ending = push_step r.ending c run h.ending; part = elim h.part [ inl a ↦ inl (unseen a) | inr b ↦ inr (more b) ] }
  where
    unseen : IsAhead r alone behind_cr run → IsAhead (step_by false r c) alone behind_cr (run ++ c ∷ [])
    unseen a = record {
      labelled = a.labelled;
      not_alone = a.not_alone;
      unseen = push_unseen behind_cr [] run c a.unseen ∙ ap (λ b. cond b (c ∷ []) []) (seen_same r alone behind_cr run c a ∙ ahead_unseen r c a.labelled q);
      erasable = own_step behind_cr run c r.erasable r.after_cr a.erasable a.after_cr;
      after_cr = unseen_cr behind_cr run c;
    }

    more : IsBehind r alone behind_cr run → IsBehind (step_by false r c) alone behind_cr (run ++ c ∷ [])
    more b =
        let own = behind_push alone behind_cr run c b.seen in
        record {
          labelled = b.labelled;
          seen = still_seen alone behind_cr run c b.seen;
          erasable = ap (λ xs. loose (survivors (signs xs))) own ∙ erasable_step (behind alone behind_cr run) c r.erasable r.after_cr b.erasable b.after_cr;
          after_cr = ap ends_with_cr own ∙ ends_with_cr-last (behind alone behind_cr run) c;
        }

pub one_run : (r : Run) (alone behind_cr : Bool) (run : List ℕ) (c : ℕ) → IsRun r alone behind_cr run → IsRun (stepped r c) alone behind_cr (run ++ c ∷ [])
one_run r alone behind_cr run c h = run_by r alone behind_cr run c (is_headed r c) refl h

-- ---- what is sent of it
plain_sent : (n c : ℕ) → is_seen_at n c ≡ false → is_bracket c ≡ false → sent_for n c ≡ c
plain_sent n c s b =
    let seen = or_parts (is_print (class_of c)) (c == 0x08 && n == 0) s in
    let last = or_parts (c == 0x5B || c == 0x5D || c == 0xFF3B) (c == 0xFF3D) b in
    let third = or_parts (c == 0x5B || c == 0x5D) (c == 0xFF3B) last.0 in
    let first = or_parts (c == 0x5B) (c == 0x5D) third.0 in
    λ i. cond (seen.1 i) 0x58 (cond (first.0 i) 0x28 (cond (first.1 i) 0x29 (cond (third.1 i) 0xFF08 (cond (last.1 i) 0xFF09 c))))

labelled_at : (name : List ℕ) (behind_cr on : Bool) (run : List ℕ) (c : ℕ) (more : List ℕ) (b : Bool) → is_seen behind_cr run c ≡ b
    → labelled name behind_cr on run (c ∷ more) ≡ cond b (label_after on name ++ encode_utf8_all (written [] (c ∷ more))) (encode_utf8 c ++ labelled name behind_cr (opens (class_of c) on) (run ++ c ∷ []) more)
labelled_at name behind_cr on run c more b e = ap (λ x. cond x (label_after on name ++ encode_utf8_all (written [] (c ∷ more))) (encode_utf8 c ++ labelled name behind_cr (opens (class_of c) on) (run ++ c ∷ []) more)) e

text_is_by : (name : List ℕ) (r : Run) (alone behind_cr : Bool) (run : List ℕ) (c : ℕ) (more : List ℕ) (heads : Bool) → is_headed r c ≡ heads → IsRun r alone behind_cr run
    → sent_of name r alone behind_cr run (c ∷ more) ≡ text_by heads name r c ++ sent_of name (step_by heads r c) alone behind_cr (run ++ c ∷ []) more
text_is_by name r alone behind_cr run c more true q h = elim h.part [ inl a ↦ first a | inr b ↦ absurd (true≢false (sym b.labelled ∙ (headed_parts r c q).0)) ]
  where
    either : (l : Bool) → List ℕ
    either l = cond l (encode_utf8_all (written (behind alone behind_cr run) (c ∷ more))) (labelled name behind_cr r.is_open run (c ∷ more))

    first : IsAhead r alone behind_cr run → sent_of name r alone behind_cr run (c ∷ more) ≡ text_by true name r c ++ sent_of name (step_by true r c) alone behind_cr (run ++ c ∷ []) more
    first a =
        let s : is_seen behind_cr run c ≡ true = seen_same r alone behind_cr run c a ∙ (headed_parts r c q).1 in
        let one : from_seen behind_cr [] (run ++ c ∷ []) ≡ c ∷ [] = push_unseen behind_cr [] run c a.unseen ∙ ap (λ b. cond b (c ∷ []) []) s in
        let own : behind alone behind_cr (run ++ c ∷ []) ≡ c ∷ [] = ap (λ b. cond b (run ++ c ∷ []) (from_seen behind_cr [] (run ++ c ∷ []))) a.not_alone ∙ one in
        ap either a.labelled
        ∙ (labelled_at name behind_cr r.is_open run c more true s
        ∙ (sym (append_assoc (label_after r.is_open name) (encode_utf8 (sent_for 0 c)) (encode_utf8_all (written (c ∷ []) more)))
        ∙ ap (λ xs. (label_after r.is_open name ++ encode_utf8 (sent_for 0 c)) ++ encode_utf8_all (written xs more)) (sym own)))
text_is_by name r alone behind_cr run c more false q h = elim h.part [ inl a ↦ unseen a | inr b ↦ later b ]
  where
    either : (l : Bool) → List ℕ
    either l = cond l (encode_utf8_all (written (behind alone behind_cr run) (c ∷ more))) (labelled name behind_cr r.is_open run (c ∷ more))

    then : (l : Bool) → List ℕ
    then l = encode_utf8 (sent_for r.erasable c) ++ cond l (encode_utf8_all (written (behind alone behind_cr (run ++ c ∷ [])) more)) (labelled name behind_cr (opens (class_of c) r.is_open) (run ++ c ∷ []) more)

    unseen : IsAhead r alone behind_cr run → sent_of name r alone behind_cr run (c ∷ more) ≡ text_by false name r c ++ sent_of name (step_by false r c) alone behind_cr (run ++ c ∷ []) more
    unseen a =
        let u = ahead_unseen r c a.labelled q in
        let s : is_seen behind_cr run c ≡ false = seen_same r alone behind_cr run c a ∙ u in
        ap either a.labelled
        ∙ (labelled_at name behind_cr r.is_open run c more false s
        ∙ (ap (λ x. encode_utf8 x ++ labelled name behind_cr (opens (class_of c) r.is_open) (run ++ c ∷ []) more) (sym (plain_sent r.erasable c u (unseen_one behind_cr run c s)))
        ∙ ap then (sym a.labelled)))

    later : IsBehind r alone behind_cr run → sent_of name r alone behind_cr run (c ∷ more) ≡ text_by false name r c ++ sent_of name (step_by false r c) alone behind_cr (run ++ c ∷ []) more
    later b =
        ap either b.labelled
        ∙ (ap (λ n. encode_utf8 (cond (c == 0x08 && n == 0) 0x58 (without_bracket c)) ++ encode_utf8_all (written (behind alone behind_cr run ++ c ∷ []) more)) b.erasable
        ∙ (ap (λ xs. encode_utf8 (sent_for r.erasable c) ++ encode_utf8_all (written xs more)) (sym (behind_push alone behind_cr run c b.seen))
        ∙ ap then (sym b.labelled)))

pub one_text : (name : List ℕ) (r : Run) (alone behind_cr : Bool) (run : List ℕ) (c : ℕ) (more : List ℕ) → IsRun r alone behind_cr run
    → sent_of name r alone behind_cr run (c ∷ more) ≡ text_of_one name r c ++ sent_of name (stepped r c) alone behind_cr (run ++ c ∷ []) more
one_text name r alone behind_cr run c more h = text_is_by name r alone behind_cr run c more (is_headed r c) refl h

-- ---- what else changes
open_by : (heads : Bool) (r : Run) (c : ℕ) → (step_by heads r c).is_open ≡ opens (class_of c) r.is_open
open_by true r c = refl
open_by false r c = refl

pub chunk_kept : (heads : Bool) (r : Run) (c : ℕ) → (step_by heads r c).has_chunk ≡ r.has_chunk
chunk_kept true r c = refl
chunk_kept false r c = refl

erasable_bound : (after : Bool) (n c : ℕ) → erasable_after after n c ≤ n + 1
erasable_bound after n c = go (class_of c)
  where
    line : (b : Bool) → cond b n (n + 1) ≤ n + 1
    line true = omega arith
    line false = omega arith

    go : (k : CharClass) → erasable_by k after n c ≤ n + 1
    go Erase = omega arith
    go Bell = omega arith
    go NewLine = line (c == 0x0A && after)
    go Silent = omega arith
    go Marker = omega arith
    go Print = omega arith

pub bound_by : (heads : Bool) (r : Run) (c : ℕ) → (step_by heads r c).erasable ≤ r.erasable + 1
bound_by true r c = let e = erasable_bound false 0 c in omega (arith, e)
bound_by false r c = erasable_bound r.after_cr r.erasable c

pub before_bound : (heads : Bool) (r : Run) → (before_by heads r).erasable ≤ r.erasable
before_bound true r = omega arith
before_bound false r = omega arith

-- ---- room
pub sent_size : (n c : ℕ) → length (encode_utf8 (sent_for n c)) ≤ length (encode_utf8 c)
sent_size n c = go (c == 0x08 && n == 0)
  where
    plain : (b : Bool) → (c == 0x08) ≡ b → length (encode_utf8 (without_bracket c)) ≤ length (encode_utf8 c)
    plain true e = subst (λ (x : ℕ). length (encode_utf8 (without_bracket x)) ≤ length (encode_utf8 x)) (sym (eqb-true c 0x08 e)) (omega arith)
    plain false e = subst (λ (b : Bool). length (encode_utf8 (cond (b && is_erased []) 0x58 (without_bracket c))) ≤ length (encode_utf8 c)) e (one_short [] c)

    go : (b : Bool) → length (encode_utf8 (cond b 0x58 (without_bracket c))) ≤ length (encode_utf8 c)
    go true = let e : length (encode_utf8 0x58) ≡ 1 = ap length (encode_ascii 0x58 (omega arith)) in omega (arith, e, encode_some c)
    go false = plain (c == 0x08) refl

-- ---- a text
opens_push : (was : Bool) (xs : List ℕ) (c : ℕ) → is_open_after was (xs ++ c ∷ []) ≡ opens (class_of c) (is_open_after was xs)
opens_push was [] c = refl
opens_push was (x ∷ xs) c = opens_push (opens (class_of x) was) xs c

-- the first character of the rest was written, or is a direction
pub write_step : (name : List ℕ) (first r next : Run) (alone behind_cr : Bool) (run cs before out after rest others : List ℕ) (c : ℕ) → rest ≡ encode_utf8 c ++ others → next ≡ after_one r c → after ≡ out ++ text_after_one name r c
    → Writes name first r alone behind_cr run cs before out rest → Writes name first next alone behind_cr run cs before after others
write_step name first r next alone behind_cr run cs before out after rest others c e n a w = go (is_direction c) refl n a
  where
    more : List ℕ
    more = without_directions (chars others)

    kept : (b : Bool) → is_direction c ≡ b → without_directions (chars rest) ≡ cond (not b) (c ∷ more) more
    kept b d = ap without_directions (chars_past_char rest others c w.utf8 e) ∙ ap (λ b. cond (not b) (c ∷ more) more) d

    go : (b : Bool) → is_direction c ≡ b → next ≡ cond b r (stepped r c) → after ≡ out ++ cond b [] (text_of_one name r c) → Writes name first next alone behind_cr run cs before after others
    go true d n a =
        let here = kept true d in
        subst (λ (x : Run). Writes name first x alone behind_cr run cs before after others) (sym n) (record {
          past = w.past;
          parts = ap (λ xs. w.past ++ xs) (sym here) ∙ w.parts;
          utf8 = IsUtf8-past_char rest others c w.utf8 e;
          run_is = w.run_is;
          open_is = w.open_is;
          out_is = (λ i. (a ∙ append-nil out) i ++ sent_of name r alone behind_cr (run ++ w.past) (sym here i)) ∙ w.out_is;
        })
    go false d n a =
        let here = kept false d in
        let longer : run ++ (w.past ++ c ∷ []) ≡ (run ++ w.past) ++ c ∷ [] = sym (append_assoc run w.past (c ∷ [])) in
        subst (λ (x : Run). Writes name first x alone behind_cr run cs before after others) (sym n) (record {
          past = w.past ++ c ∷ [];
          parts = append_assoc w.past (c ∷ []) more ∙ (ap (λ xs. w.past ++ xs) (sym here) ∙ w.parts);
          utf8 = IsUtf8-past_char rest others c w.utf8 e;
          run_is = subst (λ (xs : List ℕ). IsRun (stepped r c) alone behind_cr xs) (sym longer) (one_run r alone behind_cr (run ++ w.past) c w.run_is);
          open_is = open_by (is_headed r c) r c ∙ (ap (opens (class_of c)) w.open_is ∙ sym (opens_push first.is_open w.past c));
          out_is = (λ i. a i ++ sent_of name (stepped r c) alone behind_cr (longer i) more)
              ∙ (append_assoc out (text_of_one name r c) (sent_of name (stepped r c) alone behind_cr ((run ++ w.past) ++ c ∷ []) more)
              ∙ (ap (λ xs. out ++ xs) (sym (one_text name r alone behind_cr (run ++ w.past) c more w.run_is) ∙ ap (sent_of name r alone behind_cr (run ++ w.past)) (sym here)) ∙ w.out_is));
        })

pub write_begin : (name : List ℕ) (r : Run) (alone behind_cr : Bool) (run out text : List ℕ) → IsUtf8 text → IsRun r alone behind_cr run → Writes name r r alone behind_cr run (without_directions (chars text)) out out text
write_begin name r alone behind_cr run out text u h = record {
  past = [];
  parts = refl;
  utf8 = u;
  run_is = subst (λ (xs : List ℕ). IsRun r alone behind_cr xs) (sym (append-nil run)) h;
  open_is = refl;
  out_is = ap (λ xs. out ++ sent_of name r alone behind_cr xs (without_directions (chars text))) (append-nil run);
}

pub write_end : (name : List ℕ) (r next : Run) (alone behind_cr : Bool) (run cs before out rest : List ℕ) → rest ≡ [] → Writes name r next alone behind_cr run cs before out rest → Sends name r next alone behind_cr run cs before out
write_end name r next alone behind_cr run cs before out rest e w =
    let none : without_directions (chars rest) ≡ [] = ap without_directions (ap chars e ∙ chars-encodes [] refl) in
    let same : w.past ≡ cs = sym (append-nil w.past) ∙ (ap (λ xs. w.past ++ xs) (sym none) ∙ w.parts) in
    record {
      run_is = subst (λ (xs : List ℕ). IsRun next alone behind_cr (run ++ xs)) same w.run_is;
      open_is = w.open_is ∙ ap (is_open_after r.is_open) same;
      text_is = sym (append-nil out) ∙ (ap (λ xs. out ++ xs) (sym (ap (sent_of name next alone behind_cr (run ++ w.past)) none ∙ nothing next.labelled)) ∙ w.out_is);
    }
  where
    nothing : (l : Bool) → cond l (encode_utf8_all (written (behind alone behind_cr (run ++ w.past)) [])) (labelled name behind_cr next.is_open (run ++ w.past) []) ≡ []
    nothing true = refl
    nothing false = refl

-- ---- where there is no run
pub no_run : (r : Run) → r.erasable ≡ 0 → r.after_cr ≡ false → IsEnding r.ending [] → r.labelled ≡ true → (behind_cr : Bool) → IsRun r true behind_cr []
no_run r e a n l behind_cr = record { ending = n; part = inr (record { labelled = l; seen = refl; erasable = sym e; after_cr = sym a }) }

-- only whether a line is open changed
pub opened : (r : Run) (alone behind_cr : Bool) (cs : List ℕ) (on : Bool) → IsRun r alone behind_cr cs
    → IsRun (record { erasable = r.erasable; after_cr = r.after_cr; ending = r.ending; has_chunk = r.has_chunk; labelled = r.labelled; is_open = on }) alone behind_cr cs
opened r alone behind_cr cs on h = record {
  ending = h.ending;
  part = elim h.part [
    | inl a ↦ inl (record { labelled = a.labelled; not_alone = a.not_alone; unseen = a.unseen; erasable = a.erasable; after_cr = a.after_cr })
    | inr b ↦ inr (record { labelled = b.labelled; seen = b.seen; erasable = b.erasable; after_cr = b.after_cr })
  ];
}

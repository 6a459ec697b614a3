-- Plain characters of a run, written at once.
use Rattle.std.proofs.Common.{◌≡◌, ℕ, suc, ◌+◌, ◌-◌, ◌<◌, ◌≤◌, Bool, true, false, eqb, leb, cond, not, ◌&&◌, ◌||◌, inl, inr, List, [], ◌∷◌, ◌++◌, length, get_or, drop, All, refl, sym, ap, subst, ◌∙◌, append_assoc, append-nil, arith}
use Rattle.std.specs.Prelude.{◌==◌}
use Rattle.std.specs.Char.{encode_utf8}
use Rattle.std.specs.Str.{IsAscii}
use Rattle.std.proofs.lemmas.Bool.{cases_lt, true≢false}
use Rattle.std.proofs.lemmas.Bool.Decides.{nat_tests}
use Rattle.std.proofs.lemmas.List.{length-drop}
use Rattle.std.proofs.lemmas.List.Elements.{All-head, All-tail, All-weaker}
use Rattle.std.proofs.lemmas.Str.{encode_ascii}
use Rattle.std.proofs.lemmas.Str.Ascii.{IsAscii-from_all}
use Rattle.view_spec.specs.declared.classes.CharClass.{CharClass}
use Rattle.view_spec.specs.Characters.{is_print, opens}
use Rattle.view_spec.specs.TextViews.{is_direction, without_bracket}
use Rattle.view_spec.proofs.Steps.{plain_class}
use Rattle.t140_text.specs.declared.ends.TextEnd.{TextEnd}
use Rattle.t140_text.specs.Endings.{pushed}
use Rattle.unaware_view.specs.declared.runs.Run.{Run}
use Rattle.unaware_view.specs.Runs.{IsPlain, Writes, after_one, before_by, erasable_by, is_headed, is_seen_at, label_by, pushed_all, sent_for, stepped, text_after_one, text_of_one, with_one, with_plain}
use Rattle.unaware_view.proofs.RunSteps.{ahead_unseen, write_step}

-- ---- what the text ends with
-- Three characters leave nothing of what stood before them.
three_forget : (e f : TextEnd) (cs : List ℕ) → 3 ≤ length cs → pushed_all e cs ≡ pushed_all f cs
three_forget e f [] h = absurd (omega (arith, h))
three_forget e f (a ∷ []) h = absurd (omega (arith, h))
three_forget e f (a ∷ b ∷ []) h = absurd (omega (arith, h))
three_forget e f (a ∷ b ∷ c ∷ cs) h = refl

pub last_three : (e : TextEnd) (cs : List ℕ) → pushed_all e (drop (length cs - 3) cs) ≡ pushed_all e cs
last_three e [] = refl
last_three e (c ∷ cs) = elim (cases_lt (length cs) 3) [
  | inl few ↦ let n : length (c ∷ cs) - 3 ≡ 0 = omega (arith, few) in ap (λ (m : ℕ). pushed_all e (drop m (c ∷ cs))) n
  | inr more ↦
      let n : length (c ∷ cs) - 3 ≡ suc (length cs - 3) = omega (arith, more) in
      let three = length-drop (length cs - 3) cs in
      ap (λ (m : ℕ). pushed_all e (drop m (c ∷ cs))) n
      ∙ (three_forget e (pushed e c) (drop (length cs - 3) cs) (omega (arith, three, more)) ∙ last_three (pushed e c) cs)
]

-- ---- one plain character
pub ascii-plain : (plain : List ℕ) → All IsPlain plain → IsAscii plain
ascii-plain plain h = IsAscii-from_all plain (All-weaker IsPlain (λ (b : ℕ). b < 128) (λ (b : ℕ) (p : IsPlain b). let hi = p.to in omega (arith, hi)) plain h)

no_direction : (c : ℕ) → IsPlain c → is_direction c ≡ false
no_direction c p =
    let hi = p.to in
    let a : leb 0x202A c ≡ false = grind (arith, nat_tests) in
    let b : leb 0x2066 c ≡ false = grind (arith, nat_tests) in
    (λ i. (a i && leb c 0x202E) || (b i && leb c 0x2069))

plain_sent : (n c : ℕ) → IsPlain c → sent_for n c ≡ c
plain_sent n c p =
    let lo = p.from in
    let e : eqb c 0x08 ≡ false = grind (arith, nat_tests) in
    ap (λ (b : Bool). cond (b && n == 0) 0x58 (without_bracket c)) e ∙ p.no_bracket

plain_seen : (n c : ℕ) → IsPlain c → is_seen_at n c ≡ true
plain_seen n c p = ap (λ (k : CharClass). is_print k || (c == 0x08 && n == 0)) (plain_class c p.from p.to)

one_plain : (r : Run) (c : ℕ) → IsPlain c → with_one r c ≡ with_plain r (c ∷ [])
one_plain r c p =
    let lo = p.from in
    let k = plain_class c p.from p.to in
    let cr : eqb c 0x0D ≡ false = grind (arith, nat_tests) in
    (λ i. record { erasable = erasable_by (k i) r.after_cr r.erasable c; after_cr = cr i; ending = pushed r.ending c; has_chunk = r.has_chunk; labelled = r.labelled; is_open = opens (k i) r.is_open })

-- behind a plain character the label was given
behind_label : (r : Run) (c : ℕ) → IsPlain c → (before_by (is_headed r c) r).labelled ≡ true
behind_label r c p = go (is_headed r c) refl
  where
    given : (b : Bool) → r.labelled ≡ b → is_headed r c ≡ false → r.labelled ≡ true
    given true q e = q
    given false q e = absurd (true≢false (sym (plain_seen r.erasable c p) ∙ ahead_unseen r c q e))

    go : (b : Bool) → is_headed r c ≡ b → (before_by b r).labelled ≡ true
    go true e = refl
    go false e = given r.labelled refl e

not_headed : (r : Run) (c : ℕ) → r.labelled ≡ true → is_headed r c ≡ false
not_headed r c l = ap (λ (b : Bool). not b && is_seen_at r.erasable c) l

first_step : (name : List ℕ) (first r : Run) (alone behind_cr : Bool) (run cs before out others : List ℕ) (c : ℕ) → IsPlain c
    → Writes name first r alone behind_cr run cs before out (c ∷ others)
    → Writes name first (with_plain (before_by (is_headed r c) r) (c ∷ [])) alone behind_cr run cs before ((out ++ label_by (is_headed r c) name r) ++ c ∷ []) others
first_step name first r alone behind_cr run cs before out others c p w =
    let heads = is_headed r c in
    let octet : encode_utf8 c ≡ c ∷ [] = let hi = p.to in encode_ascii c (omega (arith, hi)) in
    let straight = no_direction c p in
    let sent : text_of_one name r c ≡ label_by heads name r ++ c ∷ [] =
    ap (λ (d : ℕ). label_by heads name r ++ encode_utf8 d) (plain_sent (before_by heads r).erasable c p) ∙ ap (λ (xs : List ℕ). label_by heads name r ++ xs) octet in
    let next : after_one r c ≡ with_plain (before_by heads r) (c ∷ []) = ap (λ (b : Bool). cond b r (stepped r c)) straight ∙ one_plain (before_by heads r) c p in
    let text : text_after_one name r c ≡ label_by heads name r ++ c ∷ [] = ap (λ (b : Bool). cond b [] (text_of_one name r c)) straight ∙ sent in
    write_step name first r (with_plain (before_by heads r) (c ∷ [])) alone behind_cr run cs before out ((out ++ label_by heads name r) ++ c ∷ []) (c ∷ others) others c
    (ap (λ (xs : List ℕ). xs ++ others) (sym octet)) (sym next) (append_assoc out (label_by heads name r) (c ∷ []) ∙ ap (λ (xs : List ℕ). out ++ xs) (sym text)) w

-- ---- all of them
one_behind : (r : Run) (c d : ℕ) (ds : List ℕ) → with_plain (with_plain r (c ∷ [])) (d ∷ ds) ≡ with_plain r (c ∷ d ∷ ds)
one_behind r c d ds =
    let n : (r.erasable + length (c ∷ [])) + length (d ∷ ds) ≡ r.erasable + length (c ∷ d ∷ ds) = omega arith in
    (λ i. record { erasable = n i; after_cr = false; ending = pushed_all (pushed r.ending c) (d ∷ ds); has_chunk = r.has_chunk; labelled = r.labelled; is_open = true })

plain_steps : (name : List ℕ) (first r : Run) (alone behind_cr : Bool) (run cs before out others : List ℕ) (c : ℕ) (plain : List ℕ) → All IsPlain (c ∷ plain)
    → Writes name first r alone behind_cr run cs before out ((c ∷ plain) ++ others)
    → Writes name first (with_plain (before_by (is_headed r c) r) (c ∷ plain)) alone behind_cr run cs before ((out ++ label_by (is_headed r c) name r) ++ c ∷ plain) others
plain_steps name first r alone behind_cr run cs before out others c [] h w = first_step name first r alone behind_cr run cs before out others c (All-head IsPlain c [] h) w
plain_steps name first r alone behind_cr run cs before out others c (d ∷ ds) h w = on (is_headed q d) (not_headed q d (behind_label r c p)) (plain_steps name first q alone behind_cr run cs before given others d ds (All-tail IsPlain c (d ∷ ds) h) (first_step name first r alone behind_cr run cs before out ((d ∷ ds) ++ others) c p w))
  where
    p : IsPlain c
    p = All-head IsPlain c (d ∷ ds) h

    headed : Run
    headed = before_by (is_headed r c) r

    q : Run
    q = with_plain headed (c ∷ [])

    front : List ℕ
    front = out ++ label_by (is_headed r c) name r

    given : List ℕ
    given = front ++ c ∷ []

    on : (b : Bool) → b ≡ false → Writes name first (with_plain (before_by b q) (d ∷ ds)) alone behind_cr run cs before ((given ++ label_by b name q) ++ d ∷ ds) others
        → Writes name first (with_plain headed (c ∷ d ∷ ds)) alone behind_cr run cs before (front ++ c ∷ d ∷ ds) others
    on true e w = absurd (true≢false e)
    on false e w =
        let text : (given ++ []) ++ d ∷ ds ≡ front ++ c ∷ d ∷ ds = ap (λ (xs : List ℕ). xs ++ d ∷ ds) (append-nil given) ∙ append_assoc front (c ∷ []) (d ∷ ds) in
        subst (λ (x : Run). Writes name first x alone behind_cr run cs before (front ++ c ∷ d ∷ ds) others) (one_behind headed c d ds)
        (subst (λ (xs : List ℕ). Writes name first (with_plain q (d ∷ ds)) alone behind_cr run cs before xs others) text w)

-- the plain characters at the front of the rest were written, the label before them or not
pub write_plain_step : (name : List ℕ) (first r next : Run) (alone behind_cr : Bool) (run cs before out after rest others plain : List ℕ) (c : ℕ) → All IsPlain plain → (length plain == 0) ≡ false → c ≡ get_or plain 0 0
    → rest ≡ plain ++ others → next ≡ with_plain (before_by (is_headed r c) r) plain → after ≡ (out ++ label_by (is_headed r c) name r) ++ plain
    → Writes name first r alone behind_cr run cs before out rest → Writes name first next alone behind_cr run cs before after others
write_plain_step name first r next alone behind_cr run cs before out after rest others [] c h some e parts n a w = absurd (true≢false some)
write_plain_step name first r next alone behind_cr run cs before out after rest others (x ∷ xs) c h some e parts n a w =
    let written = plain_steps name first r alone behind_cr run cs before out others x xs h (subst (λ (l : List ℕ). Writes name first r alone behind_cr run cs before out l) parts w) in
    let same = ap (λ (b : ℕ). is_headed r b) e in
    let next_is : next ≡ with_plain (before_by (is_headed r x) r) (x ∷ xs) = n ∙ ap (λ (b : Bool). with_plain (before_by b r) (x ∷ xs)) same in
    let after_is : after ≡ (out ++ label_by (is_headed r x) name r) ++ x ∷ xs = a ∙ ap (λ (b : Bool). (out ++ label_by b name r) ++ x ∷ xs) same in
    subst (λ (q : Run). Writes name first q alone behind_cr run cs before after others) (sym next_is)
    (subst (λ (l : List ℕ). Writes name first (with_plain (before_by (is_headed r x) r) (x ∷ xs)) alone behind_cr run cs before l others) (sym after_is) written)

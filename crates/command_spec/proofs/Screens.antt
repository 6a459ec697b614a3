-- What is shown of words: each for itself, one behind the other.
use Rattle.std.proofs.Common.{◌≡◌, ℕ, ◌-◌, Bool, true, false, ◌&&◌, ◌||◌, inl, inr, List, [], ◌∷◌, ◌++◌, refl, ap, ap₂, subst, sym, ◌∙◌, arith, append_assoc, append-nil, encode_utf8_all, IsUtf8}
use Rattle.std.specs.Prelude.{◌==◌, codes, filter, flat_map}
use Rattle.std.specs.Char.{encode_utf8}
use Rattle.std.specs.Str.{chars, is_utf8}
use Rattle.std.specs.List.{list_all, list_any}
use Rattle.std.proofs.lemmas.Bool.{and_from, and_parts, and_right, cases_Bool, eqb-true, true≢false}
use Rattle.std.proofs.lemmas.Str.{IsUtf8-append, IsUtf8-from_is_utf8, IsUtf8-nil, chars-append, chars-encodes, encodes-append}
use lib.Utf8.{scalars}
use Rattle.view_spec.specs.Characters.{class_of, is_erasable, is_print}
use Rattle.view_spec.specs.Shown.{begins_with_lf, ends_with_cr, signs, survivors}
use Rattle.view_spec.specs.TextViews.{label, label_after}
use Rattle.view_spec.proofs.Erasing.{appended, reach}
use Rattle.view_spec.proofs.Lines.{are_print, plain_reach, plain_signs, plain_survivors}
use Rattle.view_spec.proofs.Signs.{signs-append}
use Rattle.view_spec.proofs.Steps.{lf_class}
use Rattle.mixer_spec.proofs.Texts.{label_utf8}
use Rattle.command_spec.specs.Named.{prints}
use Rattle.command_spec.specs.Seen.{AllTheirs, AreTheirs, NamesPrint, Words, stand, words_stand, words_text}
use Rattle.command_spec.proofs.Walls.{closed_both, kept_both, lf_reach, none_stand, reach_append, survivors_append}
use Rattle.command_spec.proofs.Blocks.{AllLabelled, Block, Behind, Before, HasLabel, IsClosed, IsFirst, scalars_both}

-- ---- a label
all_both : (xs ys : List ℕ) → are_print xs ≡ true → are_print ys ≡ true → are_print (xs ++ ys) ≡ true
all_both [] ys e f = f
all_both (x ∷ xs) ys e f = let p = and_parts _ _ e in and_from _ _ p.0 (all_both xs ys p.1 f)

opening : (IsUtf8 (codes "[")) × (chars (codes "[") ≡ 0x5B ∷ [])
unfolding is_utf8 chars encode_utf8
opening = (IsUtf8-from_is_utf8 (codes "[") refl, refl)

closing : chars (codes "] ") ≡ 0x5D ∷ 0x20 ∷ []
unfolding chars encode_utf8
closing = refl

breaking : (IsUtf8 (encode_utf8 0x2028)) × (chars (encode_utf8 0x2028) ≡ 0x2028 ∷ [])
unfolding is_utf8 chars encode_utf8
breaking = (IsUtf8-from_is_utf8 (encode_utf8 0x2028) refl, refl)

marks_print : (are_print (0x5B ∷ []) ≡ true) × (are_print (0x5D ∷ 0x20 ∷ []) ≡ true)
unfolding class_of
marks_print = (refl, refl)

-- the characters of a label
record IsLabel (name cs : List ℕ) : Type 0 where
  front : cs ≡ 0x5B ∷ (chars name ++ (0x5D ∷ 0x20 ∷ []))
  print : are_print cs ≡ true

label_is : (name : List ℕ) → IsUtf8 name → are_print (chars name) ≡ true → IsLabel name (chars (label name))
unfolding label
label_is name u p =
    let e : chars (codes "[" ++ name ++ codes "] ") ≡ 0x5B ∷ (chars name ++ (0x5D ∷ 0x20 ∷ [])) =
    chars-append (codes "[") (name ++ codes "] ") opening.0
    ∙ (ap (λ l. l ++ chars (name ++ codes "] ")) opening.1 ∙ ap (λ l. 0x5B ∷ l) (chars-append name (codes "] ") u ∙ ap (λ l. chars name ++ l) closing)) in
    record {
      front = e;
      print = ap are_print e ∙ all_both (0x5B ∷ []) (chars name ++ (0x5D ∷ 0x20 ∷ [])) marks_print.0 (all_both (chars name) (0x5D ∷ 0x20 ∷ []) p marks_print.1);
    }

after_open : (name : List ℕ) → chars (label_after true name) ≡ 0x2028 ∷ chars (label name)
unfolding label_after
after_open name = chars-append (encode_utf8 0x2028) (label name) breaking.0 ∙ ap (λ l. l ++ chars (label name)) breaking.1

after_closed : (name : List ℕ) → chars (label_after false name) ≡ chars (label name)
unfolding label_after
after_closed name = refl

-- what prints doesn't end with CR
cr_unseen : is_print (class_of 0x0D) ≡ false
unfolding class_of
cr_unseen = refl

no_cr : (c : ℕ) → is_print (class_of c) ≡ true → (c == 0x0D) ≡ false
no_cr c e = elim (cases_Bool (c == 0x0D)) [
  | inl t ↦ absurd (true≢false (sym e ∙ (ap (λ (z : ℕ). is_print (class_of z)) (eqb-true c 0x0D t) ∙ cr_unseen)))
  | inr f ↦ f
]

print_end : (cs : List ℕ) → are_print cs ≡ true → ends_with_cr cs ≡ false
print_end [] e = refl
print_end (c ∷ []) e = no_cr c (and_parts _ _ e).0
print_end (c ∷ d ∷ cs) e = print_end (d ∷ cs) (and_parts _ _ e).1

-- A label stands whole, and takes back nothing before it.
pub record StandsWhole (cs : List ℕ) : Type 0 where
  pub closed : IsClosed cs
  pub whole : survivors (signs cs) ≡ signs cs
  pub no_cr : ends_with_cr cs ≡ false
  pub no_lf : (more : List ℕ) → begins_with_lf (cs ++ more) ≡ false

plain_whole : (name cs : List ℕ) → IsLabel name cs → StandsWhole cs
plain_whole name cs l =
    let same = plain_signs cs l.print in
    record {
      closed = ap reach same ∙ plain_reach cs l.print;
      whole = ap survivors same ∙ (plain_survivors cs l.print ∙ sym same);
      no_cr = print_end cs l.print;
      no_lf = λ more. ap (λ x. begins_with_lf (x ++ more)) l.front;
    }

lf_whole : (xs : List ℕ) → reach xs ≡ 0 → survivors (0x0A ∷ xs) ≡ 0x0A ∷ survivors xs
lf_whole xs e = survivors_append (0x0A ∷ []) xs e ∙ ap (λ l. l ++ survivors xs) (appended [] 0x0A (ap is_erasable lf_class))

broken_whole : (name cs : List ℕ) → IsLabel name cs → StandsWhole (0x2028 ∷ cs)
broken_whole name cs l =
    let same = plain_signs cs l.print in
    let r : reach (signs cs) ≡ 0 = ap reach same ∙ plain_reach cs l.print in
    record {
      closed = lf_reach (signs cs) ∙ ap (λ n. n - 1) r;
      whole = lf_whole (signs cs) r ∙ ap (λ x. 0x0A ∷ x) (ap survivors same ∙ (plain_survivors cs l.print ∙ sym same));
      no_cr = ap (λ x. ends_with_cr (0x2028 ∷ x)) l.front ∙ (ap ends_with_cr (sym l.front) ∙ print_end cs l.print);
      no_lf = λ more. refl;
    }

pub label_whole : (on : Bool) (name : List ℕ) → IsUtf8 name → are_print (chars name) ≡ true → StandsWhole (chars (label_after on name))
label_whole true name u p = subst StandsWhole (sym (after_open name)) (broken_whole name (chars (label name)) (label_is name u p))
label_whole false name u p = subst StandsWhole (sym (after_closed name)) (plain_whole name (chars (label name)) (label_is name u p))

-- ---- words
abbrev words_chars : Words → List ℕ
words_chars w = chars w.label ++ (w.typed ++ w.ahead)

encoded_utf8 : (cs : List ℕ) → scalars cs ≡ true → IsUtf8 (encode_utf8_all cs)
encoded_utf8 cs s = (cs, (s, refl))

-- their characters
text_chars : (typed ahead : List ℕ) → scalars typed ≡ true → scalars ahead ≡ true → chars (encode_utf8_all typed ++ encode_utf8_all ahead) ≡ typed ++ ahead
text_chars typed ahead s t = ap chars (sym (encodes-append typed ahead)) ∙ chars-encodes (typed ++ ahead) (scalars_both typed ahead s t)

text_utf8 : (typed ahead : List ℕ) → scalars typed ≡ true → scalars ahead ≡ true → IsUtf8 (encode_utf8_all typed ++ encode_utf8_all ahead)
text_utf8 typed ahead s t = IsUtf8-append (encode_utf8_all typed) (encode_utf8_all ahead) (encoded_utf8 typed s) (encoded_utf8 ahead t)

-- what holds of words that have labels
record AreShown (ws : List Words) : Type 0 where
  utf8 : IsUtf8 (flat_map words_text ws)
  text : chars (flat_map words_text ws) ≡ flat_map words_chars ws
  closed : IsClosed (flat_map words_chars ws)
  stands : stand (flat_map words_chars ws) ≡ flat_map words_stand ws
  no_lf : begins_with_lf (flat_map words_chars ws) ≡ false
  theirs : AllTheirs ws

no_chars : chars [] ≡ []
no_chars = chars-encodes [] refl

one_shown : (name : ℕ → List ℕ) (w : Words) (ws : List Words) → ((i : ℕ) → IsUtf8 (name i)) → NamesPrint name → HasLabel name w → AreShown ws → AreShown (w ∷ ws)
one_shown name w ws u p h r =
    let more = flat_map words_chars ws in
    let own = w.typed ++ w.ahead in
    let head : signs ((chars w.label ++ own) ++ more) ≡ (signs (chars w.label) ++ signs own) ++ signs more =
    signs-append (chars w.label ++ own) more (and_right (ends_with_cr (chars w.label ++ own)) (begins_with_lf more) r.no_lf)
    ∙ ap (λ l. l ++ signs more) (signs-append (chars w.label) own (ap (λ b. b && begins_with_lf own) whole.no_cr)) in
    let own_closed : IsClosed own = closed_both w.typed w.ahead h.typed_closed h.ahead_closed in
    let tail : reach (signs own ++ signs more) ≡ 0 = reach_append (signs own) (signs more) r.closed ∙ own_closed in
    record {
      utf8 = IsUtf8-append (words_text w) (flat_map words_text ws) words_utf8 r.utf8;
      text = chars-append (words_text w) (flat_map words_text ws) words_utf8 ∙ ap₂ (λ a b. a ++ b) words_are r.text;
      closed = ap reach (head ∙ append_assoc (signs (chars w.label)) (signs own) (signs more)) ∙ (reach_append (signs (chars w.label)) (signs own ++ signs more) tail ∙ whole.closed);
      stands = ap survivors head
          ∙ (survivors_append (signs (chars w.label) ++ signs own) (signs more) r.closed
          ∙ ap₂ (λ a b. a ++ b) (survivors_append (signs (chars w.label)) (signs own) own_closed ∙ ap (λ l. l ++ stand own) whole.whole) r.stands);
      no_lf = ap begins_with_lf (append_assoc (chars w.label) own more) ∙ whole.no_lf (own ++ more);
      theirs = (record { unseen = h.unseen; kept = kept_both w.typed w.ahead h.ahead_closed h.unseen }, r.theirs);
    }
  where
    utf8 : IsUtf8 w.label
    utf8 = subst IsUtf8 (sym h.label) (label_utf8 h.is_open (name h.leg) (u h.leg))

    whole : StandsWhole (chars w.label)
    whole = subst (λ (l : List ℕ). StandsWhole (chars l)) (sym h.label) (label_whole h.is_open (name h.leg) (u h.leg) (p h.leg))

    words_utf8 : IsUtf8 (words_text w)
    words_utf8 = IsUtf8-append w.label (encode_utf8_all w.typed ++ encode_utf8_all w.ahead) utf8 (text_utf8 w.typed w.ahead h.typed_scalars h.ahead_scalars)

    words_are : chars (words_text w) ≡ words_chars w
    words_are = chars-append w.label (encode_utf8_all w.typed ++ encode_utf8_all w.ahead) utf8 ∙ ap (λ l. chars w.label ++ l) (text_chars w.typed w.ahead h.typed_scalars h.ahead_scalars)

all_shown : (name : ℕ → List ℕ) (ws : List Words) → ((i : ℕ) → IsUtf8 (name i)) → NamesPrint name → AllLabelled name ws → AreShown ws
all_shown name [] u p a = record { utf8 = IsUtf8-nil; text = no_chars; closed = refl; stands = refl; no_lf = refl; theirs = tt }
all_shown name (w ∷ ws) u p a = one_shown name w ws u p a.0 (all_shown name ws u p a.1)

-- ---- a run
-- the first words, which have no label
first_theirs : (σ : Block) (w : Words) → list_any prints w.ahead ≡ false → IsFirst σ w → AreTheirs w
first_theirs (Behind leg sent) w u f = record { unseen = u; kept = kept_both w.typed w.ahead f.1 u }
first_theirs (Before sent) w u f = record { unseen = u; kept = ap (λ l. filter prints (stand (l ++ w.ahead))) f.0 ∙ (none_stand w.ahead u ∙ ap (λ l. filter prints (stand l)) (sym f.0)) }

-- What holds of the words of a run.
pub record RunIs (ws : List Words) (text : List ℕ) : Type 0 where
  pub utf8 : IsUtf8 text
  pub text_is : text ≡ flat_map words_text ws
  pub stands : stand (chars text) ≡ flat_map words_stand ws
  pub theirs : AllTheirs ws

pub run_is : (name : ℕ → List ℕ) (σ : Block) (w : Words) (ws : List Words) (text : List ℕ) → ((i : ℕ) → IsUtf8 (name i)) → NamesPrint name
    → text ≡ encode_utf8_all w.typed ++ (encode_utf8_all w.ahead ++ flat_map words_text ws) → w.label ≡ []
    → list_any prints w.ahead ≡ false → scalars w.typed ≡ true → scalars w.ahead ≡ true → IsFirst σ w → AllLabelled name ws → RunIs (w ∷ ws) text
run_is name σ w ws text u p e l n st sa f a =
    let r = all_shown name ws u p a in
    let more = flat_map words_chars ws in
    let own = w.typed ++ w.ahead in
    let both : text ≡ (encode_utf8_all w.typed ++ encode_utf8_all w.ahead) ++ flat_map words_text ws = e ∙ sym (append_assoc (encode_utf8_all w.typed) (encode_utf8_all w.ahead) (flat_map words_text ws)) in
    let v = text_utf8 w.typed w.ahead st sa in
    let cs : chars text ≡ own ++ more = ap chars both ∙ (chars-append (encode_utf8_all w.typed ++ encode_utf8_all w.ahead) (flat_map words_text ws) v ∙ ap₂ (λ x y. x ++ y) (text_chars w.typed w.ahead st sa) r.text) in
    let none : signs (chars w.label) ≡ [] = ap (λ x. signs (chars x)) l ∙ ap signs no_chars in
    record {
      utf8 = subst IsUtf8 (sym both) (IsUtf8-append (encode_utf8_all w.typed ++ encode_utf8_all w.ahead) (flat_map words_text ws) v r.utf8);
      text_is = both ∙ ap (λ x. (x ++ (encode_utf8_all w.typed ++ encode_utf8_all w.ahead)) ++ flat_map words_text ws) (sym l);
      stands = ap stand cs
          ∙ (ap survivors (signs-append own more (and_right (ends_with_cr own) (begins_with_lf more) r.no_lf))
          ∙ (survivors_append (signs own) (signs more) r.closed
          ∙ (ap (λ x. stand own ++ x) r.stands ∙ ap (λ x. (x ++ stand own) ++ flat_map words_stand ws) (sym none))));
      theirs = (first_theirs σ w n f, r.theirs);
    }

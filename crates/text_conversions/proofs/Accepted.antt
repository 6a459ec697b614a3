-- The lines of a script that is accepted.
use Rattle.std.proofs.Common.{◌≡◌, ℕ, suc, ◌+◌, ◌<◌, ◌≤◌, Bool, true, false, Option, Some, None, List, [], ◌∷◌, ◌++◌, append_assoc, length, length-append, get_or, drop, refl, ap, subst, sym, ◌∙◌, arith}
use Rattle.std.specs.Prelude.{◌==◌, not, max, nat_lt, if◌then◌else◌, Ok, Err, All, IsUtf8}
use Rattle.std.specs.List.{position_or_len, before_first, after_first}
use Rattle.std.specs.Option.{ok_or}
use Rattle.std.specs.Char.{encode_utf8}
use Rattle.std.specs.Str.{byte, is_utf8}
use Rattle.std.specs.Str.Lines.{lines}
use Rattle.std.proofs.Math.Seq.{take-append_seam}
use Rattle.std.proofs.lemmas.List.Sums.{passes_at_first}
use Rattle.std.proofs.lemmas.List.Elements.{All-nil, All-head, All-tail, All-push, All-weaker, All-cons}
use Rattle.std.proofs.lemmas.Bool.{ltb-false, eqb-true as eq_true, not-false as not_false}
use Rattle.std.proofs.lemmas.Bool.Decides.{nat_tests}
use Rattle.std.proofs.lemmas.Str.{IsUtf8-append, IsUtf8-take, IsUtf8-drop, IsUtf8-from_is_utf8, IsCharBoundary-before_ascii, IsCharBoundary-after_ascii}
use Rattle.file_spec.specs.declared.kinds.ConfKind.TheVariants.{NotText, Count, Number, Order, Escape, Long, Large}
use Rattle.file_spec.specs.Script.{ScriptLine, escape, followed, unescaped, typed, around_space, script_line, latest, and_line, script}
use Rattle.rtt_base.proofs.Steps.{bind_ok}
use Rattle.file_spec.specs.Steps.{unless}
use Rattle.file_spec.proofs.Passed.{unless_ok, ok_or_ok, number_most}
use Rattle.file_spec.specs.Lines.{Line, told, is_comment, at_line, read_lines}
use Rattle.file_spec.specs.Numbers.{number}
use Rattle.command_spec.specs.Scripts.{InOrder, AreLines}
use Rattle.file_spec.specs.declared.limits.TheConstants.{LAST_MOMENT, MOST_SCRIPT_OCTETS}
use Rattle.rtt_base.specs.declared.limits.TheConstants.{MOST_TEXT_OCTETS}
use Rattle.file_spec.proofs.EachLine.{at_ok as at_line_ok}

-- ---- UTF-8 is cut at an ASCII octet
pub record Cut (front rest : List ℕ) : Type 0 where
  pub front_is : IsUtf8 front
  pub rest_is : IsUtf8 rest

at_length : (front rest : List ℕ) (c : ℕ) → get_or (front ++ c ∷ rest) (length front) 0 ≡ c
at_length [] rest c = refl
at_length (x ∷ front) rest c = at_length front rest c

past_length : (front rest : List ℕ) (c : ℕ) → drop (length front + 1) (front ++ c ∷ rest) ≡ rest
past_length [] rest c = refl
past_length (x ∷ front) rest c = let s : length (x ∷ front) + 1 ≡ suc (length front + 1) = omega arith in ap (λ n. drop n (x ∷ (front ++ c ∷ rest))) s ∙ past_length front rest c

cut_at : (front rest : List ℕ) (c : ℕ) → c < 128 → IsUtf8 (front ++ c ∷ rest) → Cut front rest
cut_at front rest c a u =
    let whole = front ++ c ∷ rest in
    let here : get_or whole (length front) 0 < 128 = omega (arith, at_length front rest c) in
    let within : length front < length whole = omega (arith, length-append front (c ∷ rest)) in
    record {
      front_is = subst IsUtf8 (take-append_seam front (c ∷ rest)) (IsUtf8-take whole (length front) u (IsCharBoundary-before_ascii whole (length front) within here));
      rest_is = subst IsUtf8 (past_length front rest c) (IsUtf8-drop whole (length front + 1) u (IsCharBoundary-after_ascii whole (length front) u within here));
    }

-- ---- escapes
new_line_is : IsUtf8 (226 ∷ 128 ∷ 168 ∷ [])
unfolding encode_utf8
new_line_is = (8232 ∷ [], (refl, refl))

eight : IsUtf8 (8 ∷ [])
unfolding encode_utf8
eight = (8 ∷ [], (refl, refl))

seven : IsUtf8 (7 ∷ [])
unfolding encode_utf8
seven = (7 ∷ [], (refl, refl))

backslash : IsUtf8 (byte "\\" ∷ [])
unfolding encode_utf8
backslash = (92 ∷ [], (refl, refl))

record Escaped (c : ℕ) (text : List ℕ) : Type 0 where
  ascii : c < 128
  text_is : IsUtf8 text

escaped : (c d : ℕ) (xs text : List ℕ) → (c == d) ≡ true → d < 128 → IsUtf8 xs → Some xs ≡ Some text → Escaped c text
escaped c d xs text q l u e = record { ascii = (let s = eq_true c d q in omega arith); text_is = (let s : xs ≡ text = cc e in subst IsUtf8 s u) }

escape_is : (c : ℕ) (text : List ℕ) → escape c ≡ Some text → Escaped c text
escape_is c text e = first (c == byte "n") refl e
  where
    fourth : (b : Bool) → (c == byte "\\") ≡ b → (if b then Some (byte "\\" ∷ []) else None) ≡ Some text → Escaped c text
    fourth true q e = escaped c (byte "\\") (byte "\\" ∷ []) text q (omega arith) backslash e
    fourth false q e = absurd (cc e)

    third : (b : Bool) → (c == byte "a") ≡ b → (if b then Some (7 ∷ []) else (if c == byte "\\" then Some (byte "\\" ∷ []) else None)) ≡ Some text → Escaped c text
    third true q e = escaped c (byte "a") (7 ∷ []) text q (omega arith) seven e
    third false q e = fourth (c == byte "\\") refl e

    second : (b : Bool) → (c == byte "b") ≡ b → (if b then Some (8 ∷ []) else (if c == byte "a" then Some (7 ∷ []) else (if c == byte "\\" then Some (byte "\\" ∷ []) else None))) ≡ Some text → Escaped c text
    second true q e = escaped c (byte "b") (8 ∷ []) text q (omega arith) eight e
    second false q e = third (c == byte "a") refl e

    first : (b : Bool) → (c == byte "n") ≡ b → (if b then Some (226 ∷ 128 ∷ 168 ∷ []) else (if c == byte "b" then Some (8 ∷ []) else (if c == byte "a" then Some (7 ∷ []) else (if c == byte "\\" then Some (byte "\\" ∷ []) else None)))) ≡ Some text → Escaped c text
    first true q e = escaped c (byte "n") (226 ∷ 128 ∷ 168 ∷ []) text q (omega arith) new_line_is e
    first false q e = second (c == byte "b") refl e

record Followed (o more : Option (List ℕ)) (text : List ℕ) : Type 0 where
  one : List ℕ
  rest : List ℕ
  one_is : o ≡ Some one
  rest_is : more ≡ Some rest
  text_is : text ≡ one ++ rest

followed_is : (o more : Option (List ℕ)) (text : List ℕ) → followed o more ≡ Some text → Followed o more text
followed_is None more text e = absurd (cc e)
followed_is (Some one) None text e = absurd (cc e)
followed_is (Some one) (Some rest) text e = record { one = one; rest = rest; one_is = refl; rest_is = refl; text_is = (let s : one ++ rest ≡ text = cc e in sym s) }

-- behind a front with which it is UTF-8
read_is : (front octets text : List ℕ) → IsUtf8 (front ++ octets) → unescaped octets ≡ Some text → IsUtf8 (front ++ text)
read_is front [] text u e = let s : [] ≡ text = cc e in subst (λ xs. IsUtf8 (front ++ xs)) s u
read_is front (c ∷ []) text u e = go (c == byte "\\") e
  where
    go : (b : Bool) → (if b then None else Some (c ∷ [])) ≡ Some text → IsUtf8 (front ++ text)
    go true q = absurd (cc q)
    go false q = let s : c ∷ [] ≡ text = cc q in subst (λ xs. IsUtf8 (front ++ xs)) s u
read_is front (c ∷ d ∷ more) text u e = go (c == byte "\\") refl e (λ rest v q. read_is [] more rest v q) (λ rest v q. read_is (front ++ c ∷ []) (d ∷ more) rest v q)
  where
    go : (b : Bool) → (c == byte "\\") ≡ b → (if b then followed (escape d) (unescaped more) else followed (Some (c ∷ [])) (unescaped (d ∷ more))) ≡ Some text
        → ((rest : List ℕ) → IsUtf8 more → unescaped more ≡ Some rest → IsUtf8 rest)
        → ((rest : List ℕ) → IsUtf8 ((front ++ c ∷ []) ++ d ∷ more) → unescaped (d ∷ more) ≡ Some rest → IsUtf8 ((front ++ c ∷ []) ++ rest)) → IsUtf8 (front ++ text)
    go true q f skip on =
        let p = followed_is (escape d) (unescaped more) text f in
        let x = escape_is d p.one p.one_is in
        let at = cut_at front (d ∷ more) c (let s = eq_true c (byte "\\") q in omega arith) u in
        let further = cut_at [] more d x.ascii at.rest_is in
        subst (λ xs. IsUtf8 (front ++ xs)) (sym p.text_is) (IsUtf8-append front (p.one ++ p.rest) at.front_is (IsUtf8-append p.one p.rest x.text_is (skip p.rest further.rest_is p.rest_is)))
    go false q f skip on =
        let p = followed_is (Some (c ∷ [])) (unescaped (d ∷ more)) text f in
        let one : c ∷ [] ≡ p.one = cc p.one_is in
        let all : text ≡ c ∷ p.rest = p.text_is ∙ ap (λ xs. xs ++ p.rest) (sym one) in
        subst (λ xs. IsUtf8 (front ++ xs)) (sym all) (subst IsUtf8 (append_assoc front (c ∷ []) p.rest) (on p.rest (subst IsUtf8 (sym (append_assoc front (c ∷ []) (d ∷ more))) u) p.rest_is))

-- ---- a line
record Said (above : ℕ) (said : ScriptLine) : Type 0 where
  later : above ≤ said.at
  early : said.at ≤ LAST_MOMENT
  text_is : IsUtf8 said.text

around_is : (octets : List ℕ) (parts : List ℕ × List ℕ) → around_space octets ≡ Some parts → IsUtf8 octets → IsUtf8 parts.1
around_is octets parts e u = go (nat_lt (position_or_len (λ c. c == byte " ") octets) (length octets)) refl e
  where
    go : (b : Bool) → nat_lt (position_or_len (λ c. c == byte " ") octets) (length octets) ≡ b
        → (if b then Some (before_first (λ c. c == byte " ") octets, after_first (λ c. c == byte " ") octets) else None) ≡ Some parts → IsUtf8 parts.1
    go true q f =
        let l : position_or_len (λ c. c == byte " ") octets < length octets = grind (arith, nat_tests) in
        let k = position_or_len (λ c. c == byte " ") octets in
        let here = eq_true (get_or octets k 0) (byte " ") (passes_at_first (λ c. c == byte " ") octets 0 l) in
        let s : (before_first (λ c. c == byte " ") octets, after_first (λ c. c == byte " ") octets) ≡ parts = cc f in
        subst IsUtf8 (ap (λ (p : List ℕ × List ℕ). p.1) s) (IsUtf8-drop octets (k + 1) u (IsCharBoundary-after_ascii octets k u l (omega (arith, here))))
    go false q f = absurd (cc f)

said_is : (above : ℕ) (line : Line) (said : ScriptLine) → script_line above line ≡ Ok said → Said above said
unfolding script_line
said_is above line said e =
    let a = bind_ok (unless (not (is_utf8 line.octets)) NotText line.octets) _ said e in
    let au = unless_ok (not (is_utf8 line.octets)) NotText line.octets a.0 a.1 in
    let utf8 : IsUtf8 a.0 = subst IsUtf8 au.1 (IsUtf8-from_is_utf8 line.octets (not_false (is_utf8 line.octets) au.0)) in
    let b = bind_ok (ok_or (around_space a.0) Count) _ said a.2 in
    let parts = around_is a.0 b.0 (ok_or_ok (around_space a.0) Count b.0 b.1) utf8 in
    let m = bind_ok (ok_or (number LAST_MOMENT b.0.0) Number) _ said b.2 in
    let most = number_most LAST_MOMENT b.0.0 m.0 (ok_or_ok (number LAST_MOMENT b.0.0) Number m.0 m.1) in
    let t = bind_ok (unless (nat_lt m.0 above) Order m.0) _ said m.2 in
    let at = unless_ok (nat_lt m.0 above) Order m.0 t.0 t.1 in
    let later = ltb-false m.0 above at.0 in
    let x = bind_ok (typed b.0.1) _ said t.2 in
    let y = bind_ok (ok_or (unescaped b.0.1) Escape) (λ text. unless (nat_lt MOST_TEXT_OCTETS (length text)) Long text) x.0 x.1 in
    let z = unless_ok (nat_lt MOST_TEXT_OCTETS (length y.0)) Long y.0 x.0 y.2 in
    let text : IsUtf8 x.0 = subst IsUtf8 z.1 (read_is [] b.0.1 y.0 parts (ok_or_ok (unescaped b.0.1) Escape y.0 y.1)) in
    let is : record { line = line.number; at = t.0; text = x.0 } ≡ said = cc x.2 in
    let n = ap (λ (l : ScriptLine). l.at) is in
    record {
      later = omega (arith, later, at.1, n);
      early = omega (arith, most, at.1, n);
      text_is = subst IsUtf8 (ap (λ (l : ScriptLine). l.text) is) text;
    }

-- ---- line after line
up_to_latest : (above : List ScriptLine) → All (λ l. l.at ≤ latest above) above
up_to_latest [] = All-nil (λ (l : ScriptLine). l.at ≤ 0)
up_to_latest (l ∷ more) = All-cons (λ m. m.at ≤ max l.at (latest more)) l more (omega arith) (All-weaker (λ m. m.at ≤ latest more) (λ m. m.at ≤ max l.at (latest more)) (λ m h. omega arith) more (up_to_latest more))

in_order : (above : List ScriptLine) (said : ScriptLine) → InOrder above → All (λ l. l.at ≤ said.at) above → InOrder (above ++ said ∷ [])
in_order [] said o a = (All-nil (λ l. said.at ≤ l.at), tt)
in_order (l ∷ more) said o a = (All-push (λ m. l.at ≤ m.at) more said o.0 (All-head (λ m. m.at ≤ said.at) l more a), in_order more said o.1 (All-tail (λ m. m.at ≤ said.at) l more a))

one_more : (above : List ScriptLine) (said : ScriptLine) → AreLines above → Said (latest above) said → AreLines (above ++ said ∷ [])
one_more above said a s = record {
  ordered = in_order above said a.ordered (All-weaker (λ l. l.at ≤ latest above) (λ l. l.at ≤ said.at) (λ l h. let k = s.later in omega arith) above (up_to_latest above));
  early = All-push (λ l. l.at ≤ LAST_MOMENT) above said a.early s.early;
  texts = All-push (λ l. IsUtf8 l.text) above said a.texts s.text_is;
}

all_read : (ls : List Line) (above read : List ScriptLine) → AreLines above → read_lines and_line above ls ≡ Ok read → AreLines read
all_read [] above read a e = let s : above ≡ read = cc e in subst AreLines s a
all_read (line ∷ more) above read a e =
    let b = bind_ok (at_line line.number (and_line above line)) (λ said. read_lines and_line said more) read e in
    let c = bind_ok (script_line (latest above) line) (λ said. Ok (above ++ said ∷ [])) b.0 (at_line_ok line.number (and_line above line) b.0 b.1) in
    let s : above ++ c.0 ∷ [] ≡ b.0 = cc c.2 in
    all_read more b.0 read (subst AreLines s (one_more above c.0 a (said_is (latest above) line c.0 c.1))) b.2

pub accepted_lines : (octets : List ℕ) (read : List ScriptLine) → script octets ≡ Ok read → AreLines read
accepted_lines octets read e = go (nat_lt MOST_SCRIPT_OCTETS (length octets)) e
  where
    go : (b : Bool) → (if b then Err (record { line = 0; kind = Large }) else read_lines and_line [] (told is_comment 1 (lines octets))) ≡ Ok read → AreLines read
    go true q = absurd (cc q)
    go false q = all_read (told is_comment 1 (lines octets)) [] read (record { ordered = tt; early = All-nil (λ (l : ScriptLine). l.at ≤ LAST_MOMENT); texts = All-nil (λ (l : ScriptLine). IsUtf8 l.text) }) q

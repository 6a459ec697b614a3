-- When a line is typed and what it types, by what its head says.
use Rattle.std.proofs.Common.{◌≡◌, ℕ, ◌+◌, ◌<◌, ◌≤◌, Bool, true, false, eqb, ltb, cond, List, [], ◌∷◌, ◌++◌, length, take, drop, Option, None, Some, Result, Ok, Err, refl, ap, sym, subst, ◌∙◌}
use Rattle.std.specs.Prelude.{not, nat_lt, All, option_and_then}
use Rattle.std.specs.List.{position_or_len, position}
use Rattle.std.specs.Option.{option_map, ok_or}
use Rattle.std.specs.Str.{is_utf8}
use Rattle.std.proofs.lemmas.List.Elements.{All-head, All-tail, All-drop}
use Rattle.rtt_base.specs.Steps.{◌>>=◌}
use Rattle.file_spec.specs.Steps.{unless}
use Rattle.file_spec.specs.Numbers.{number}
use Rattle.file_spec.specs.Script.{ScriptLine, around_space, script_line, typed, unescaped, followed}
use Rattle.file_spec.specs.declared.limits.TheConstants.{LAST_MOMENT, LONGEST_TEXT}
use Rattle.file_spec.specs.declared.kinds.ConfKind.{ConfKind}
use Rattle.file_spec.specs.declared.kinds.ConfKind.TheVariants.{NotText, Count, Number, Order, Long}
use Rattle.script_text.specs.declared.faults.ConfFault.{ConfFault}
use Rattle.script_text.specs.declared.faults.ConfFault.TheVariants.{Refused}
use Rattle.script_text.specs.Causes.{IsCauseAt}
use Rattle.script_text.specs.Fronts.{number_and_rest}
use Rattle.script_text.specs.declared.line_facts.KnownLines.{KnownLines}
use Rattle.script_text.specs.ScriptLines.{moment_said, head_said, IsPlain, IsKnown, AreKnown}
use Rattle.script_text.proofs.EscapeLoop.{none_read, unescaped-plain, end_read, end_long}

-- the moment among the two parts of a line
abbrev moment_in : Option (List ℕ × List ℕ) → Result (ℕ × List ℕ) ConfKind
moment_in parts = ok_or parts Count >>= λ p. ok_or (number LAST_MOMENT p.0) Number >>= λ moment. Ok (moment, p.1)

no_parts : (b : Bool) (p : ℕ) (x : List ℕ × List ℕ) → cond b (Some p) None ≡ None → moment_in (cond b (Some x) None) ≡ Err Count
no_parts true p x e = absurd (cc)
no_parts false p x e = refl

pub no_space_said : (octets : List ℕ) → position (λ c. eqb c 32) octets ≡ None → moment_said octets ≡ Err Count
no_space_said octets e =
    let p = position_or_len (λ (c : ℕ). eqb c 32) octets in
    no_parts (ltb p (length octets)) p (take p octets, drop (p + 1) octets) e

abbrev moment_and : Option ℕ → List ℕ → Result (ℕ × List ℕ) ConfKind
moment_and o y = ok_or o Number >>= λ moment. Ok (moment, y)

abbrev number_and : Option ℕ → List ℕ → Option (ℕ × List ℕ)
number_and o y = option_map (λ n. (n, y)) o

no_number_in : (o : Option ℕ) (y : List ℕ) → number_and o y ≡ None → moment_and o y ≡ Err Number
no_number_in None y e = refl
no_number_in (Some n) y e = absurd (cc)

no_number_either : (b : Bool) (p end : ℕ) (x y : List ℕ) → cond b (Some p) None ≡ Some end
    → option_and_then {U = ℕ × List ℕ} (λ (q : List ℕ × List ℕ). number_and (number LAST_MOMENT q.0) q.1) (cond b (Some (x, y)) None) ≡ None
    → moment_in (cond b (Some (x, y)) None) ≡ Err Number
no_number_either true p end x y e none = no_number_in (number LAST_MOMENT x) y none
no_number_either false p end x y e none = absurd (cc)

pub no_number_said : (octets : List ℕ) (end : ℕ) → position (λ c. eqb c 32) octets ≡ Some end → number_and_rest LAST_MOMENT octets ≡ None → moment_said octets ≡ Err Number
no_number_said octets end e none =
    let p = position_or_len (λ (c : ℕ). eqb c 32) octets in
    no_number_either (ltb p (length octets)) p end (take p octets) (drop (p + 1) octets) e none

number_in : (o : Option ℕ) (y : List ℕ) (head : ℕ × List ℕ) → number_and o y ≡ Some head → moment_and o y ≡ Ok head
number_in None y head e = absurd (cc)
number_in (Some n) y head e = ap Ok (cc)

number_of_parts : (parts : Option (List ℕ × List ℕ)) (head : ℕ × List ℕ)
    → option_and_then {U = ℕ × List ℕ} (λ (q : List ℕ × List ℕ). number_and (number LAST_MOMENT q.0) q.1) parts ≡ Some head → moment_in parts ≡ Ok head
number_of_parts None head e = absurd (cc)
number_of_parts (Some p) head e = number_in (number LAST_MOMENT p.0) p.1 head e

pub number_said : (octets : List ℕ) (head : ℕ × List ℕ) → number_and_rest LAST_MOMENT octets ≡ Some head → moment_said octets ≡ Ok head
number_said octets head e = number_of_parts (around_space octets) head e

-- what a line says is what its head says, and then its text
abbrev in_time : ℕ → ℕ × List ℕ → Result (ℕ × List ℕ) ConfKind
in_time latest head = unless (nat_lt head.0 latest) Order head.0 >>= λ at. Ok (at, head.1)

by_order : {X : Type 0} (b : Bool) (m : ℕ) (y : List ℕ) (k : ℕ × List ℕ → Result X ConfKind) → (unless b Order m >>= λ at. k (at, y)) ≡ ((unless b Order m >>= λ at. Ok (at, y)) >>= k)
by_order true m y k = refl
by_order false m y k = refl

by_number : {X : Type 0} (o : Option ℕ) (latest : ℕ) (y : List ℕ) (k : ℕ × List ℕ → Result X ConfKind)
    → (ok_or o Number >>= λ m. unless (nat_lt m latest) Order m >>= λ at. k (at, y)) ≡ (((ok_or o Number >>= λ m. Ok (m, y)) >>= in_time latest) >>= k)
by_number None latest y k = refl
by_number (Some m) latest y k = by_order (nat_lt m latest) m y k

by_space : {X : Type 0} (parts : Option (List ℕ × List ℕ)) (latest : ℕ) (k : ℕ × List ℕ → Result X ConfKind)
    → (ok_or parts Count >>= λ p. ok_or (number LAST_MOMENT p.0) Number >>= λ m. unless (nat_lt m latest) Order m >>= λ at. k (at, p.1)) ≡ ((moment_in parts >>= in_time latest) >>= k)
by_space None latest k = refl
by_space (Some p) latest k = by_number (number LAST_MOMENT p.0) latest p.1 k

by_text : {X : Type 0} (b : Bool) (octets : List ℕ) (latest : ℕ) (k : ℕ × List ℕ → Result X ConfKind)
    → (unless b NotText octets >>= λ os. ok_or (around_space os) Count >>= λ p. ok_or (number LAST_MOMENT p.0) Number >>= λ m. unless (nat_lt m latest) Order m >>= λ at. k (at, p.1))
    ≡ ((unless b NotText octets >>= λ os. moment_said os >>= in_time latest) >>= k)
by_text true octets latest k = refl
by_text false octets latest k = by_space (around_space octets) latest k

line_is : (latest n : ℕ) (octets : List ℕ) → script_line latest (record { number = n; octets = octets })
    ≡ (head_said latest octets >>= λ head. typed head.1 >>= λ text. let said : ScriptLine = record { line = n; at = head.0; text = text } in Ok said)
unfolding script_line
line_is latest n octets = by_text (not (is_utf8 octets)) octets latest (λ head. typed head.1 >>= λ text. let said : ScriptLine = record { line = n; at = head.0; text = text } in Ok said)

-- the lines above and the one whose text this is
abbrev pub with_text : List ScriptLine → ℕ → ℕ → Result (List ℕ) ConfKind → Result (List ScriptLine) ConfKind
with_text above n at text = text >>= λ t. Ok (above ++ record { line = n; at = at; text = t } ∷ [])

and_text : (r : Result (List ℕ) ConfKind) (above : List ScriptLine) (n at : ℕ)
    → ((r >>= λ text. let said : ScriptLine = record { line = n; at = at; text = text } in Ok said) >>= λ said. Ok (above ++ said ∷ [])) ≡ with_text above n at r
and_text (Ok text) above n at = refl
and_text (Err kind) above n at = refl

pub and_line_is : (above : List ScriptLine) (moment n at : ℕ) (octets rest : List ℕ) → head_said moment octets ≡ Ok (at, rest)
    → (script_line moment (record { number = n; octets = octets }) >>= λ said. Ok (above ++ said ∷ [])) ≡ with_text above n at (typed rest)
and_line_is above moment n at octets rest e =
    let push = λ (s : ScriptLine). let all : Result (List ScriptLine) ConfKind = Ok (above ++ s ∷ []) in all in
    ap (λ r. r >>= push) (line_is moment n octets ∙ ap (λ r. r >>= λ head. typed head.1 >>= λ text. let said : ScriptLine = record { line = n; at = head.0; text = text } in Ok said) e)
    ∙ and_text (typed rest) above n at

pub line_without_head : (above : List ScriptLine) (moment n : ℕ) (octets : List ℕ) (kind : ConfKind) → head_said moment octets ≡ Err kind
    → (script_line moment (record { number = n; octets = octets }) >>= λ said. Ok (above ++ said ∷ [])) ≡ Err kind
line_without_head above moment n octets kind e =
    let push = λ (s : ScriptLine). let all : Result (List ScriptLine) ConfKind = Ok (above ++ s ∷ []) in all in
    ap (λ r. r >>= push) (line_is moment n octets ∙ ap (λ r. r >>= λ head. typed head.1 >>= λ text. let said : ScriptLine = record { line = n; at = head.0; text = text } in Ok said) e)

-- what is read from a line without a backslash has none
behind : Result (ℕ × List ℕ) ConfKind → List ℕ
behind (Ok head) = head.1
behind (Err kind) = []

plain_at : (r : Result (ℕ × List ℕ) ConfKind) → Type 0
plain_at r = (at : ℕ) (rest : List ℕ) → r ≡ Ok (at, rest) → IsPlain rest

plain_refused : (kind : ConfKind) → plain_at (Err kind)
unfolding plain_at
plain_refused kind at rest e = absurd (cc)

plain_in_time : (b : Bool) (m : ℕ) (y : List ℕ) → IsPlain y → plain_at (unless b Order m >>= λ at. Ok (at, y))
unfolding plain_at behind
plain_in_time true m y h at rest e = absurd (cc)
plain_in_time false m y h at rest e = subst (λ t. IsPlain t) (ap behind e) h

plain_number : (o : Option ℕ) (latest : ℕ) (y : List ℕ) → IsPlain y → plain_at ((ok_or o Number >>= λ m. Ok (m, y)) >>= in_time latest)
plain_number None latest y h = plain_refused Number
plain_number (Some m) latest y h = plain_in_time (nat_lt m latest) m y h

plain_parts : (b : Bool) (x y : List ℕ) (latest : ℕ) → IsPlain y → plain_at (moment_in (cond b (Some (x, y)) None) >>= in_time latest)
plain_parts true x y latest h = plain_number (number LAST_MOMENT x) latest y h
plain_parts false x y latest h = plain_refused Count

plain_said : (b : Bool) (octets : List ℕ) (latest : ℕ) → IsPlain octets → plain_at (unless b NotText octets >>= λ os. moment_said os >>= in_time latest)
plain_said true octets latest h = plain_refused NotText
plain_said false octets latest h =
    let p = position_or_len (λ (c : ℕ). eqb c 32) octets in
    plain_parts (ltb p (length octets)) (take p octets) (drop (p + 1) octets) latest (All-drop (λ c. eqb c 92 ≡ false) (p + 1) octets h)

pub plain_behind : (latest at : ℕ) (octets rest : List ℕ) → head_said latest octets ≡ Ok (at, rest) → IsPlain octets → IsPlain rest
unfolding plain_at
plain_behind latest at octets rest e h = plain_said (not (is_utf8 octets)) octets latest h at rest e

-- a text without a backslash is read as it is
plain_is : (octets : List ℕ) → IsPlain octets → unescaped octets ≡ Some octets
plain_is [] h = refl
plain_is (c ∷ more) h =
    unescaped-plain c more (All-head (λ c. eqb c 92 ≡ false) c more h) ∙ ap (λ m. followed (Some (c ∷ [])) m) (plain_is more (All-tail (λ c. eqb c 92 ≡ false) c more h))

pub plain_typed : (octets : List ℕ) → IsPlain octets → length octets ≤ LONGEST_TEXT → typed octets ≡ Ok octets
plain_typed octets h short = end_read octets octets [] (plain_is octets h) short (none_read octets)

pub plain_long : (n : ℕ) (octets : List ℕ) (fault : ConfFault) → IsPlain octets → LONGEST_TEXT < length octets → fault ≡ Refused n Long → IsCauseAt n fault (typed octets)
plain_long n octets fault h long e = subst (λ f. IsCauseAt n f (typed octets)) (sym e) (refl, end_long octets octets [] (plain_is octets h) long (none_read octets))

-- what is known of the first line, and of those behind it
pub known_first : (known : KnownLines) (rest after : List (List ℕ)) (l : List ℕ) → rest ≡ l ∷ after → AreKnown known rest → IsKnown known l
known_first known rest after l e k = record {
  text = λ t. All-head (λ x. is_utf8 x ≡ true) l after (subst (λ ls. All (λ x. is_utf8 x ≡ true) ls) e (k.text t));
  plain = λ t. All-head (λ x. IsPlain x) l after (subst (λ ls. All (λ x. IsPlain x) ls) e (k.plain t));
}

pub known_behind : (known : KnownLines) (rest after : List (List ℕ)) (l : List ℕ) → rest ≡ l ∷ after → AreKnown known rest → AreKnown known after
known_behind known rest after l e k = record {
  text = λ t. All-tail (λ x. is_utf8 x ≡ true) l after (subst (λ ls. All (λ x. is_utf8 x ≡ true) ls) e (k.text t));
  plain = λ t. All-tail (λ x. IsPlain x) l after (subst (λ ls. All (λ x. IsPlain x) ls) e (k.plain t));
}

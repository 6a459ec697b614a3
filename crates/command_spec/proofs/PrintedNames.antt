-- The names of a conference have characters alone that are shown as they are.
use Rattle.std.proofs.Common.{◌≡◌, ℕ, zero, suc, ◌<◌, ◌≤◌, Bool, true, inl, inr, List, [], ◌∷◌, refl, ap, ◌∙◌, arith, All}
use Rattle.std.specs.Prelude.{◌==◌, ◌&&◌, ◌||◌, nat_le, nat_lt, length}
use Rattle.std.specs.List.{list_all}
use Rattle.std.specs.Char.{is_ascii_alphanumeric}
use Rattle.std.specs.Str.{byte, chars, IsAscii}
use Rattle.std.proofs.lemmas.Bool.{and_from, and_parts, or_cases, leb-true, eqb-true}
use Rattle.std.proofs.lemmas.Str.{chars-IsAscii, chars-encodes}
use Rattle.view_spec.specs.Characters.{is_print}
use Rattle.view_spec.proofs.Steps.{plain_class}
use Rattle.file_spec.specs.declared.conference_lines.LegLine.{LegLine}
use Rattle.file_spec.specs.declared.limits.TheConstants.{LONGEST_NAME}
use Rattle.file_spec.specs.Conference.{Conference, is_name, is_name_octet}
use Rattle.file_spec.specs.Kept.{IsConference, IsLeg}
use Rattle.mixer_spec.specs.Setups.{leg_at, name_of, setup}
use Rattle.command_spec.specs.Named.{prints}
use Rattle.command_spec.specs.Seen.{NamesPrint}

-- between the space and DEL
abbrev IsPlain : ℕ → Type 0
IsPlain c = (0x20 ≤ c) × (c < 0x7F)

plain_octet : (c : ℕ) → is_name_octet c ≡ true → IsPlain c
plain_octet c e = elim (or_cases (is_ascii_alphanumeric c) (c == byte "." || (c == byte "_" || c == byte "-")) e) [
  | inl a ↦ elim (or_cases (in_range 48 57 || in_range 65 90) (in_range 97 122) a) [
    | inl b ↦ elim (or_cases (in_range 48 57) (in_range 65 90) b) [ inl x ↦ within 48 57 x (omega arith) (omega arith) | inr x ↦ within 65 90 x (omega arith) (omega arith) ]
    | inr x ↦ within 97 122 x (omega arith) (omega arith)
  ]
  | inr a ↦ elim (or_cases (c == byte ".") (c == byte "_" || c == byte "-") a) [
    | inl x ↦ one (byte ".") x (omega arith) (omega arith)
    | inr b ↦ elim (or_cases (c == byte "_") (c == byte "-") b) [ inl x ↦ one (byte "_") x (omega arith) (omega arith) | inr x ↦ one (byte "-") x (omega arith) (omega arith) ]
  ]
]
  where
    in_range : ℕ → ℕ → Bool
    in_range lo hi = nat_le lo c && nat_le c hi

    within : (lo hi : ℕ) → (nat_le lo c && nat_le c hi) ≡ true → 0x20 ≤ lo → hi < 0x7F → IsPlain c
    within lo hi x l h =
        let p = and_parts (nat_le lo c) (nat_le c hi) x in
        let m = leb-true lo c p.0 in
        let n = leb-true c hi p.1 in
        (omega arith, omega arith)

    one : (n : ℕ) → (c == n) ≡ true → 0x20 ≤ n → n < 0x7F → IsPlain c
    one n x l h = let m = eqb-true c n x in (omega arith, omega arith)

ascii_name : (text : List ℕ) → list_all is_name_octet text ≡ true → IsAscii text
ascii_name [] e = λ i. omega arith
ascii_name (c ∷ text) e =
    let p = and_parts (is_name_octet c) (list_all is_name_octet text) e in
    let low : c < 128 = let q = (plain_octet c p.0).1 in omega arith in
    let more = ascii_name text p.1 in
    elim [ zero ↦ low | suc i ↦ more i ]

octets_print : (text : List ℕ) → list_all is_name_octet text ≡ true → list_all prints text ≡ true
octets_print [] e = refl
octets_print (c ∷ text) e =
    let p = and_parts (is_name_octet c) (list_all is_name_octet text) e in
    let q = plain_octet c p.0 in
    and_from (prints c) (list_all prints text) (ap is_print (plain_class c q.0 q.1)) (octets_print text p.1)

name_prints : (text : List ℕ) → is_name text ≡ true → list_all prints (chars text) ≡ true
name_prints text e =
    let rest = and_parts (nat_lt 0 (length text)) (nat_le (length text) LONGEST_NAME && list_all is_name_octet text) e in
    let octets = (and_parts (nat_le (length text) LONGEST_NAME) (list_all is_name_octet text) rest.1).1 in
    ap (list_all prints) (chars-IsAscii text (ascii_name text octets)) ∙ octets_print text octets

names_at : (ls : List LegLine) → All (λ leg. IsLeg leg) ls → (k : ℕ) → list_all prints (chars (name_of (leg_at ls k))) ≡ true
names_at [] each k = ap (list_all prints) (chars-encodes [] refl)
names_at (l ∷ ls) each zero = name_prints l.name (each 0 l (omega arith)).name
names_at (l ∷ ls) each (suc k) = names_at ls (λ i d b. each (suc i) d (omega arith)) k

pub names_print : (c : Conference) → IsConference c → NamesPrint (setup c).name
names_print c k = names_at c.legs k.legs.each

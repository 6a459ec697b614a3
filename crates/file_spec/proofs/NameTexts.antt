-- The name of a leg is text.
use Rattle.std.proofs.Common.{◌≡◌, ℕ, zero, suc, ◌<◌, ◌≤◌, Bool, true, inl, inr, List, [], ◌∷◌, length, arith}
use Rattle.std.specs.Prelude.{◌==◌, ◌&&◌, ◌||◌, nat_le, nat_lt, IsUtf8}
use Rattle.std.specs.List.{list_all}
use Rattle.std.specs.Char.{is_ascii_alphanumeric}
use Rattle.std.specs.Str.{byte}
use Rattle.std.proofs.lemmas.Bool.{and_parts, or_cases, leb-true, eqb-true}
use Rattle.std.proofs.lemmas.Str.{IsUtf8-append, IsUtf8-nil, IsUtf8-from_ascii}
use Rattle.file_spec.specs.declared.limits.TheConstants.{LONGEST_NAME}
use Rattle.file_spec.specs.Conference.{is_name_octet, is_name}

octet_ascii : (c : ℕ) → is_name_octet c ≡ true → c < 128
octet_ascii c e = elim (or_cases (is_ascii_alphanumeric c) (c == byte "." || (c == byte "_" || c == byte "-")) e) [
  | inl a ↦ elim (or_cases (in_range 48 57 || in_range 65 90) (in_range 97 122) a) [
    | inl b ↦ elim (or_cases (in_range 48 57) (in_range 65 90) b) [ inl x ↦ top 48 57 x (omega arith) | inr x ↦ top 65 90 x (omega arith) ]
    | inr x ↦ top 97 122 x (omega arith)
  ]
  | inr a ↦ elim (or_cases (c == byte ".") (c == byte "_" || c == byte "-") a) [
    | inl x ↦ one (byte ".") x (omega arith)
    | inr b ↦ elim (or_cases (c == byte "_") (c == byte "-") b) [ inl x ↦ one (byte "_") x (omega arith) | inr x ↦ one (byte "-") x (omega arith) ]
  ]
]
  where
    in_range : ℕ → ℕ → Bool
    in_range lo hi = nat_le lo c && nat_le c hi

    top : (lo hi : ℕ) → (nat_le lo c && nat_le c hi) ≡ true → hi < 128 → c < 128
    top lo hi x l = let m = leb-true c hi (and_parts (nat_le lo c) (nat_le c hi) x).1 in omega arith

    one : (n : ℕ) → (c == n) ≡ true → n < 128 → c < 128
    one n x l = let m = eqb-true c n x in omega arith

pub one_ascii : (c : ℕ) → c < 128 → IsUtf8 (c ∷ [])
one_ascii c l = IsUtf8-from_ascii (c ∷ []) (elim [ zero ↦ l | suc i ↦ omega arith ])

name_utf8 : (text : List ℕ) → list_all is_name_octet text ≡ true → IsUtf8 text
name_utf8 [] e = IsUtf8-nil
name_utf8 (c ∷ text) e = let r = and_parts (is_name_octet c) (list_all is_name_octet text) e in IsUtf8-append (c ∷ []) text (one_ascii c (octet_ascii c r.0)) (name_utf8 text r.1)

pub name_is_short : (text : List ℕ) → is_name text ≡ true → length text ≤ LONGEST_NAME
name_is_short text e =
    let rest = and_parts (nat_lt 0 (length text)) (nat_le (length text) LONGEST_NAME && list_all is_name_octet text) e in
    leb-true (length text) LONGEST_NAME (and_parts (nat_le (length text) LONGEST_NAME) (list_all is_name_octet text) rest.1).0

pub name_is_text : (text : List ℕ) → is_name text ≡ true → IsUtf8 text
name_is_text text e =
    let rest = and_parts (nat_lt 0 (length text)) (nat_le (length text) LONGEST_NAME && list_all is_name_octet text) e in
    name_utf8 text (and_parts (nat_le (length text) LONGEST_NAME) (list_all is_name_octet text) rest.1).1

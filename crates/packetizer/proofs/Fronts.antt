-- Where the characters of a text end.
use Rattle.std.proofs.Common.{◌≡◌, ℕ, zero, suc, ◌+◌, ◌-◌, ◌<◌, ◌≤◌, min, true, false, inl, inr, ◌++◌, length, take, append-nil, Option, None, Some, List, get_or, refl, ap, sym, ◌∙◌, arith}
use Rattle.std.specs.Prelude.{nat_lt, nat_le, slice_get, unwrap_or}
use Rattle.std.proofs.lemmas.Option.{unwrap_or-slice_get}
use Rattle.std.proofs.lemmas.Bool.{cases_lt}
use Rattle.std.proofs.lemmas.List.{take-append-le}
use Rattle.std.proofs.Math.Seq.{take-append-add, take-length}
use Rattle.std.proofs.lemmas.Bool.Decides.{nat_tests}
use Rattle.stream_spec.specs.Typed.{is_end, last_end}

octet_at : (octets : List ℕ) (i : ℕ) (o : Option ℕ) → o ≡ slice_get octets i → get_or octets i 0 ≡ unwrap_or o 0
octet_at octets i o e = sym (unwrap_or-slice_get octets i 0) ∙ ap (λ (p : Option ℕ). unwrap_or p 0) (sym e)

pub end_past : (octets : List ℕ) (i : ℕ) → None ≡ slice_get octets i → true ≡ is_end octets i
end_past octets i e = let v = octet_at octets i None e in grind (arith, nat_tests)

pub end_low : (octets : List ℕ) (i octet : ℕ) → Some octet ≡ slice_get octets i → octet < 128 → nat_lt octet 128 ≡ is_end octets i
end_low octets i octet e l = let v = octet_at octets i (Some octet) e in grind (arith, nat_tests)

pub end_high : (octets : List ℕ) (i octet : ℕ) → Some octet ≡ slice_get octets i → 128 ≤ octet → nat_le 192 octet ≡ is_end octets i
end_high octets i octet e l = let v = octet_at octets i (Some octet) e in grind (arith, nat_tests)

pub at_start : (octets : List ℕ) (n : ℕ) → n ≡ 0 → last_end octets n ≡ n
at_start octets zero z = refl
at_start octets (suc n) z = absurd (omega arith)

pub at_end : (octets : List ℕ) (n : ℕ) → is_end octets n ≡ true → last_end octets n ≡ n
at_end octets zero e = refl
at_end octets (suc n) e = rw e refl

pub before_end : (octets : List ℕ) (n : ℕ) → 0 < n → is_end octets n ≡ false → last_end octets (n - 1) ≡ last_end octets n
before_end octets zero l e = absurd (omega arith)
before_end octets (suc n) l e = let p : suc n - 1 ≡ n = omega arith in rw (p, e) refl

-- a front of a text that lies in two parts
pub front_parts : (whole first second : List ℕ) (len part : ℕ) → first ++ second ≡ whole → part ≡ min (length first) len → take part first ++ take (len - part) second ≡ take len whole
front_parts whole first second len part e m = elim (cases_lt (length first) len) [
  | inr within ↦
      let p : part ≡ len = m ∙ omega arith in
      let none : len - len ≡ 0 = omega arith in
      rw (p, none) (append-nil (take len first) ∙ (sym (take-append-le len first second within) ∙ ap (λ (l : List ℕ). take len l) e))
  | inl beyond ↦
      let p : part ≡ length first = m ∙ omega arith in
      let sum : length first + (len - length first) ≡ len = omega arith in
      rw (p) (ap (λ (l : List ℕ). l ++ take (len - length first) second) (take-length first) ∙ (sym (take-append-add first second (len - length first)) ∙ (ap (λ (n : ℕ). take n (first ++ second)) sum ∙ ap (λ (l : List ℕ). take len l) e)))
]

-- What holds of a file holds of each of its lines.
use Rattle.std.proofs.Common.{◌≡◌, ℕ, zero, suc, ◌+◌, ◌-◌, ◌<◌, ◌≤◌, true, eqb, List, [], ◌∷◌, length, get_or, take, drop, Some, None, refl, arith}
use Rattle.std.specs.List.{position, All}
use Rattle.std.specs.Str.{is_utf8}
use Rattle.std.specs.Str.Lines.{lines, strip_carriage_return}
use Rattle.std.proofs.lemmas.List.{length-drop}
use Rattle.std.proofs.lemmas.List.Elements.{All-nil, All-cons, All-same, All-take, All-drop}
use Rattle.std.proofs.lemmas.List.Quantifiers.{position-Some}
use Rattle.std.proofs.lemmas.Bool.{cond_both, eqb-true}
use Rattle.std.proofs.lemmas.Str.{IsUtf8-from_is_utf8, is_utf8-from_IsUtf8, IsUtf8-take, IsUtf8-drop, IsCharBoundary-before_ascii, IsCharBoundary-after_ascii}
use Rattle.script_text.proofs.FirstLine.{a_line_ends, no_line_ends}

-- it holds of what stands before an ASCII octet, and of what stands after it
record IsKeptByCuts (P : List ℕ → Type 0) : Type 0 where
  before : (octets : List ℕ) (end : ℕ) → P octets → end < length octets → get_or octets end 0 < 128 → P (take end octets)
  after : (octets : List ℕ) (end : ℕ) → P octets → end < length octets → get_or octets end 0 < 128 → P (drop (end + 1) octets)

stripped : (P : List ℕ → Type 0) → IsKeptByCuts P → (line : List ℕ) → P line → P (strip_carriage_return line)
stripped P kept [] h = h
stripped P kept (c ∷ more) h =
    let last = length (c ∷ more) - 1 in
    cond_both (eqb (get_or (c ∷ more) last 0) 13) (take last (c ∷ more)) (c ∷ more) P
    (λ e. let return : get_or (c ∷ more) last 0 ≡ 13 = eqb-true (get_or (c ∷ more) last 0) 13 e in kept.before (c ∷ more) last h (omega arith) (omega (arith, return)))
    (λ e. h)

each_of : (P : List ℕ → Type 0) → IsKeptByCuts P → (n : ℕ) (octets : List ℕ) → length octets ≤ n → P octets → All P (lines octets)
each_of P kept zero [] short h = All-nil P
each_of P kept zero (c ∷ more) short h = absurd (omega arith)
each_of P kept (suc n) [] short h = All-nil P
each_of P kept (suc n) (c ∷ more) short h =
    let octets : List ℕ = c ∷ more in
    elim (position (λ (x : ℕ). eqb x 10) octets) as (λ o. position (λ (x : ℕ). eqb x 10) octets ≡ o → All P (lines octets)) [
      | None ↦ λ e. All-same P (lines octets) (octets ∷ []) (no_line_ends octets e (omega arith)) (All-cons P octets [] h (All-nil P))
      | Some end ↦ λ e.
          let at = position-Some (λ (x : ℕ). eqb x 10) octets end 0 e in
          let within : end < length octets = at.0 in
          let newline : get_or octets end 0 ≡ 10 = eqb-true (get_or octets end 0) 10 at.1 in
          let ascii : get_or octets end 0 < 128 = omega (arith, newline) in
          All-same P (lines octets) (strip_carriage_return (take end octets) ∷ lines (drop (end + 1) octets)) (a_line_ends octets end e)
          (All-cons P (strip_carriage_return (take end octets)) (lines (drop (end + 1) octets)) (stripped P kept (take end octets) (kept.before octets end h within ascii))
          (each_of P kept n (drop (end + 1) octets) (omega (arith, length-drop (end + 1) octets)) (kept.after octets end h within ascii)))
    ] refl

texts_are_kept : IsKeptByCuts (λ octets. is_utf8 octets ≡ true)
texts_are_kept = record {
  before = λ octets end h within ascii. is_utf8-from_IsUtf8 (take end octets) (IsUtf8-take octets end (IsUtf8-from_is_utf8 octets h) (IsCharBoundary-before_ascii octets end within ascii));
  after = λ octets end h within ascii. let u = IsUtf8-from_is_utf8 octets h in
      is_utf8-from_IsUtf8 (drop (end + 1) octets) (IsUtf8-drop octets (end + 1) u (IsCharBoundary-after_ascii octets end u within ascii));
}

-- each line of a text is a text
pub each_is_text : (octets : List ℕ) → is_utf8 octets ≡ true → All (λ l. is_utf8 l ≡ true) (lines octets)
each_is_text octets h = each_of (λ l. is_utf8 l ≡ true) texts_are_kept (length octets) octets (omega arith) h

all_are_kept : (Q : ℕ → Type 0) → IsKeptByCuts (λ octets. All Q octets)
all_are_kept Q = record {
  before = λ octets end h within ascii. All-take Q end octets h;
  after = λ octets end h within ascii. All-drop Q (end + 1) octets h;
}

-- what holds of each octet of a file holds of each octet of each line
pub each_has_all : (Q : ℕ → Type 0) (octets : List ℕ) → All Q octets → All (λ l. All Q l) (lines octets)
each_has_all Q octets h = each_of (λ l. All Q l) (all_are_kept Q) (length octets) octets (omega arith) h

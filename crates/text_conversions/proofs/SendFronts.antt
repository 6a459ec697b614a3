-- The front of a text that is not empty is not empty.
use Rattle.std.proofs.Common.{◌≡◌, ℕ, ◌≤◌, true, false, List, [], ◌∷◌, length, length-append, take, ap, subst, sym, ◌∙◌, arith, append-nil as nil}
use Rattle.std.specs.Prelude.{IsUtf8}
use Rattle.std.proofs.Math.Seq.{take-append_seam}
use Rattle.std.proofs.Math.Utf8.{scalar, scalars, encode, encodes}
use Rattle.std.proofs.lemmas.Str.{length-encode, len_utf8_bounds}
use Rattle.wire_spec.specs.Packets.{has_text}
use Rattle.stream_spec.specs.Typed.{whole_front}
use Rattle.rtt_base.specs.declared.limits.TheConstants.{MOST_TEXT_OCTETS}
use Rattle.stream_spec.proofs.Plain.{longest_front}
use Rattle.wire_spec.proofs.Plain.{first_true}

first_character : (cs octets : List ℕ) → scalars cs ≡ true → encodes cs ≡ octets → has_text octets ≡ true → IsUtf8 octets → 1 ≤ length (whole_front MOST_TEXT_OCTETS octets)
first_character [] octets s e h u = let none : has_text octets ≡ false = ap has_text (sym e) in cc (none, h)
first_character (c ∷ cs) octets s e h u =
    let k = length (encode c) in
    let size = length-encode c in
    let bounds = len_utf8_bounds c in
    let one : IsUtf8 (encode c) = (c ∷ [], (first_true (scalar c) (scalars cs) s, nil (encode c))) in
    let cut : take k octets ≡ encode c = ap (take k) (sym e) ∙ take-append_seam (encode c) (encodes cs) in
    let all = ap (λ (xs : List ℕ). length xs) e in
    let longest = longest_front MOST_TEXT_OCTETS k octets u (omega (arith, bounds.1)) (omega (arith, length-append (encode c) (encodes cs))) (subst IsUtf8 (sym cut) one) in
    omega (arith, bounds.0)

pub some_front : (octets : List ℕ) → IsUtf8 octets → has_text octets ≡ true → 1 ≤ length (whole_front MOST_TEXT_OCTETS octets)
some_front octets u h = first_character u.0 octets u.1.0 u.1.1 h u

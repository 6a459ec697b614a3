-- Octets that are no text.
use Rattle.std.proofs.Common.{◌≡◌, ℕ, Bool, true, false, List, refl}
use Rattle.std.specs.Str.{IsUtf8, is_utf8}
use Rattle.std.proofs.lemmas.Str.{IsUtf8-from_is_utf8}

no_text_either : (b : Bool) (octets : List ℕ) → is_utf8 octets ≡ b → ¬ (IsUtf8 octets) → is_utf8 octets ≡ false
no_text_either true octets e h = absurd (h (IsUtf8-from_is_utf8 octets e))
no_text_either false octets e h = e

pub no_text : (octets : List ℕ) → ¬ (IsUtf8 octets) → is_utf8 octets ≡ false
no_text octets h = no_text_either (is_utf8 octets) octets refl h

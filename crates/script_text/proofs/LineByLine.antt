-- Line after line, the lines above and those to come give what the whole file gives.
use Rattle.std.proofs.Common.{◌≡◌, ℕ, ◌+◌, Bool, true, false, List, ◌∷◌, Result, Ok, Err, refl, ap, ◌∙◌}
use Rattle.std.specs.Str.Lines.{lines}
use Rattle.file_spec.specs.declared.kinds.ConfKind.{ConfKind}
use Rattle.file_spec.specs.Lines.{Line, told, read_lines}

-- what a file gives from its first lines on is what it gives as a whole
pub passed_over : {S : Type 0} (read : S → Line → Result S ConfKind) (is_over : List ℕ → Bool) (above : S) (n : ℕ) (rest line after : List ℕ)
    → lines rest ≡ line ∷ lines after → is_over line ≡ true
    → read_lines read above (told is_over n (lines rest)) ≡ read_lines read above (told is_over (n + 1) (lines after))
passed_over read is_over above n rest line after e over =
    ap (λ ls. read_lines read above (told is_over n ls)) e ∙ rw over refl

pub one_read : {S : Type 0} (read : S → Line → Result S ConfKind) (is_over : List ℕ → Bool) (above said : S) (n : ℕ) (rest line after : List ℕ)
    → lines rest ≡ line ∷ lines after → is_over line ≡ false → read above (record { number = n; octets = line }) ≡ Ok said
    → read_lines read above (told is_over n (lines rest)) ≡ read_lines read said (told is_over (n + 1) (lines after))
one_read read is_over above said n rest line after e told_it ok =
    ap (λ ls. read_lines read above (told is_over n ls)) e ∙ rw (told_it, ok) refl

pub one_refused : {S : Type 0} (read : S → Line → Result S ConfKind) (is_over : List ℕ → Bool) (above : S) (n : ℕ) (rest line after : List ℕ) (kind : ConfKind)
    → lines rest ≡ line ∷ lines after → is_over line ≡ false → read above (record { number = n; octets = line }) ≡ Err kind
    → read_lines read above (told is_over n (lines rest)) ≡ Err (record { line = n; kind = kind })
one_refused read is_over above n rest line after kind e told_it bad =
    ap (λ ls. read_lines read above (told is_over n ls)) e ∙ rw (told_it, bad) refl

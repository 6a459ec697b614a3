-- What a loop has read of a conference.
use Rattle.std.proofs.Common.{◌≡◌, ℕ, suc, ◌+◌, ◌<◌, ◌≤◌, true, false, List, [], ◌∷◌, length, Result, Ok, Err, refl, ap, sym, ◌∙◌, arith, ltb, le-ltb}
use Rattle.std.specs.Str.Lines.{lines}
use Rattle.file_spec.specs.declared.conference_lines.Form.{Form}
use Rattle.file_spec.specs.declared.kinds.ConfKind.{ConfKind}
use Rattle.rtt_base.specs.Steps.{◌>>=◌}
use Rattle.file_spec.specs.Lines.{Refusal, told, read_lines, at_line}
use Rattle.file_spec.specs.Conference.{Above, nothing, and_line, is_blank, complete, conference_from}
use Rattle.file_spec.specs.Kept.{Keeps}
use Rattle.file_spec.proofs.KeptLines.{line_keeps, nothing_keeps}
use Rattle.script_text.proofs.LineByLine.{passed_over, one_read, one_refused}

pub record HasReadLines (form : Form) (octets rest : List ℕ) (above : Above) (number : ℕ) : Type 0 where
  pub same : read_lines (and_line form) above (told is_blank (number + 1) (lines rest)) ≡ read_lines (and_line form) nothing (told is_blank 1 (lines octets))
  pub count : number + length (lines rest) ≡ length (lines octets)
  pub counted : number + length rest ≤ length octets
  pub fits : length octets ≤ 262144
  pub kept : Keeps above

pub none_read : (form : Form) (octets : List ℕ) → length octets ≤ 262144 → HasReadLines form octets octets nothing 0
none_read form octets h = record { same = refl; count = omega arith; counted = omega arith; fits = h; kept = nothing_keeps }

one_fewer : (octets rest line after : List ℕ) (number : ℕ) → lines rest ≡ line ∷ lines after → number + length (lines rest) ≡ length (lines octets) → number + 1 + length (lines after) ≡ length (lines octets)
one_fewer octets rest line after number first count = let e = ap length first in let s : length (line ∷ lines after) ≡ suc (length (lines after)) = refl in omega arith

pub blank_read : (form : Form) (octets rest line after : List ℕ) (above : Above) (number : ℕ)
    → lines rest ≡ line ∷ lines after → length after < length rest → is_blank line ≡ true
    → HasReadLines form octets rest above number → HasReadLines form octets after above (number + 1)
blank_read form octets rest line after above number first shorter blank read =
    record {
      same = sym (passed_over (and_line form) is_blank above (number + 1) rest line after first blank) ∙ read.same;
      count = one_fewer octets rest line after number first read.count;
      counted = let c = read.counted in omega arith;
      fits = read.fits;
      kept = read.kept;
    }

pub line_read : (form : Form) (octets rest line after : List ℕ) (above later : Above) (number : ℕ)
    → lines rest ≡ line ∷ lines after → length after < length rest → is_blank line ≡ false
    → and_line form above (record { number = number + 1; octets = line }) ≡ Ok later
    → HasReadLines form octets rest above number → HasReadLines form octets after later (number + 1)
line_read form octets rest line after above later number first shorter told_it ok read =
    record {
      same = sym (one_read (and_line form) is_blank above later (number + 1) rest line after first told_it ok) ∙ read.same;
      count = one_fewer octets rest line after number first read.count;
      counted = let c = read.counted in omega arith;
      fits = read.fits;
      kept = line_keeps form above later (record { number = number + 1; octets = line }) ok read.kept;
    }

conference_is : (form : Form) (octets : List ℕ) (read : Result Above Refusal) → length octets ≤ 262144 → read ≡ read_lines (and_line form) nothing (told is_blank 1 (lines octets))
    → conference_from form octets ≡ (read >>= λ above. at_line (length (lines octets) + 1) (complete above above.mixer))
conference_is form octets read h e = let small : ltb 262144 (length octets) ≡ false = le-ltb _ _ h in rw (small, e) refl

pub line_refused : (form : Form) (octets rest line after : List ℕ) (above : Above) (number : ℕ) (kind : ConfKind)
    → lines rest ≡ line ∷ lines after → is_blank line ≡ false
    → and_line form above (record { number = number + 1; octets = line }) ≡ Err kind
    → HasReadLines form octets rest above number → conference_from form octets ≡ Err (record { line = number + 1; kind = kind })
line_refused form octets rest line after above number kind first told_it bad read =
    conference_is form octets (Err (record { line = number + 1; kind = kind })) read.fits (sym (one_refused (and_line form) is_blank above (number + 1) rest line after kind first told_it bad) ∙ read.same)

pub end_read : (form : Form) (octets rest : List ℕ) (above : Above) (number : ℕ) → lines rest ≡ []
    → HasReadLines form octets rest above number → conference_from form octets ≡ at_line (number + 1) (complete above above.mixer)
end_read form octets rest above number none read =
    conference_is form octets (Ok above) read.fits (ap (λ ls. read_lines (and_line form) above (told is_blank (number + 1) ls)) (sym none) ∙ read.same)
    ∙ ap (λ n. at_line (n + 1) (complete above above.mixer)) (let e = ap length none in let c = read.count in omega arith)

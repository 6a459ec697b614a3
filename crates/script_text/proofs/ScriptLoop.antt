-- What a loop has read of a script.
use Rattle.std.proofs.Common.{◌≡◌, ℕ, ◌+◌, ◌<◌, ◌≤◌, false, List, [], ◌∷◌, ◌++◌, length, Result, Ok, Err, refl, ap, sym, subst, ◌∙◌, arith, le-ltb, ltb}
use Rattle.file_spec.specs.Script.{ScriptLine, latest, and_line, script_line, script, typed}
use Rattle.file_spec.specs.Lines.{told, is_comment, read_lines}
use Rattle.rtt_base.specs.Steps.{◌>>=◌}
use Rattle.std.specs.Str.Lines.{lines}
use Rattle.script_text.proofs.LineByLine.{one_read, one_refused, passed_over}
use Rattle.std.specs.Prelude.{true}
use Rattle.file_spec.specs.declared.kinds.ConfKind.{ConfKind}
use Rattle.file_spec.specs.declared.limits.TheConstants.{MOST_SCRIPT_OCTETS}
use Rattle.script_text.specs.declared.faults.ConfFault.{ConfFault}
use Rattle.script_text.specs.declared.faults.ConfFault.TheVariants.{Refused, NoMemory}
use Rattle.script_text.specs.Causes.{IsCause, IsCauseAt}
use Rattle.script_text.specs.declared.line_facts.KnownLines.{KnownLines}
use Rattle.script_text.specs.ScriptLines.{head_said, AreKnown}
use Rattle.script_text.proofs.LineHeads.{and_line_is, line_without_head, with_text, known_behind}

latest-push : (above : List ScriptLine) (l : ScriptLine) → latest above ≤ l.at → latest (above ++ l ∷ []) ≡ l.at
latest-push [] l h = omega arith
latest-push (a ∷ above) l h = rw (latest-push above l (omega arith)) (omega arith)

latest_with : (text : Result (List ℕ) ConfKind) (above later : List ScriptLine) (n at : ℕ) → latest above ≤ at → with_text above n at text ≡ Ok later → latest later ≡ at
latest_with (Ok t) above later n at h e =
    let said : ScriptLine = record { line = n; at = at; text = t } in
    let pushed : (above ++ said ∷ []) ≡ later = cc in
    ap latest (sym pushed) ∙ latest-push above said h
latest_with (Err kind) above later n at h e = absurd (cc)

-- what a loop has read of a script, where `rest` is to come
pub record HasReadLines (octets rest : List ℕ) (above : List ScriptLine) (moment number : ℕ) (known : KnownLines) : Type 0 where
  pub same : read_lines and_line above (told is_comment (number + 1) (lines rest)) ≡ read_lines and_line [] (told is_comment 1 (lines octets))
  pub last : latest above ≡ moment
  pub counted : number + length rest ≤ length octets
  pub fits : length octets ≤ MOST_SCRIPT_OCTETS
  pub are_known : AreKnown known (lines rest)

pub script_more : (octets rest line after : List ℕ) (above later : List ScriptLine) (at : ℕ) (said : List ℕ) (moment number : ℕ) (known : KnownLines)
    → lines rest ≡ line ∷ lines after → length after < length rest → is_comment line ≡ false
    → head_said moment line ≡ Ok (at, said) → moment ≤ at → with_text above (number + 1) at (typed said) ≡ Ok later
    → HasReadLines octets rest above moment number known → HasReadLines octets after later at (number + 1) known
script_more octets rest line after above later at said moment number known first shorter told_it head in_order push read =
    let is_read : and_line above (record { number = number + 1; octets = line }) ≡ Ok later =
    ap (λ m. script_line m (record { number = number + 1; octets = line }) >>= λ s. Ok (above ++ s ∷ [])) read.last ∙ and_line_is above moment (number + 1) at line said head ∙ push in
    record {
      same = sym (one_read and_line is_comment above later (number + 1) rest line after first told_it is_read) ∙ read.same;
      last = latest_with (typed said) above later (number + 1) at (rw read.last in_order) push;
      counted = let c = read.counted in omega arith;
      fits = read.fits;
      are_known = known_behind known (lines rest) (lines after) line first read.are_known;
    }

pub script_over : (octets rest line after : List ℕ) (above : List ScriptLine) (moment number : ℕ) (known : KnownLines)
    → lines rest ≡ line ∷ lines after → length after < length rest → is_comment line ≡ true
    → HasReadLines octets rest above moment number known → HasReadLines octets after above moment (number + 1) known
script_over octets rest line after above moment number known first shorter over read = record {
  same = sym (passed_over and_line is_comment above (number + 1) rest line after first over) ∙ read.same;
  last = read.last;
  counted = let c = read.counted in omega arith;
  fits = read.fits;
  are_known = known_behind known (lines rest) (lines after) line first read.are_known;
}

script_is : (octets : List ℕ) → length octets ≤ MOST_SCRIPT_OCTETS → script octets ≡ read_lines and_line [] (told is_comment 1 (lines octets))
script_is octets h = let small : ltb MOST_SCRIPT_OCTETS (length octets) ≡ false = le-ltb _ _ h in rw small refl

script_refused : (octets rest line after : List ℕ) (above : List ScriptLine) (moment number : ℕ) (known : KnownLines) (kind : ConfKind)
    → lines rest ≡ line ∷ lines after → is_comment line ≡ false
    → (script_line moment (record { number = number + 1; octets = line }) >>= λ s. Ok (above ++ s ∷ [])) ≡ Err kind
    → HasReadLines octets rest above moment number known → script octets ≡ Err (record { line = number + 1; kind = kind })
script_refused octets rest line after above moment number known kind first told_it bad read =
    script_is octets read.fits
    ∙ sym read.same
    ∙ one_refused and_line is_comment above (number + 1) rest line after kind first told_it
    (ap (λ m. script_line m (record { number = number + 1; octets = line }) >>= λ s. Ok (above ++ s ∷ [])) read.last ∙ bad)

pub head_refused : (octets rest line after : List ℕ) (above : List ScriptLine) (moment number : ℕ) (known : KnownLines) (kind : ConfKind) (fault : ConfFault)
    → lines rest ≡ line ∷ lines after → is_comment line ≡ false → head_said moment line ≡ Err kind → fault ≡ Refused (number + 1) kind
    → HasReadLines octets rest above moment number known → IsCause fault (script octets)
head_refused octets rest line after above moment number known kind fault first told_it bad e read =
    subst (λ f. IsCause f (script octets)) (sym e)
    (script_refused octets rest line after above moment number known kind first told_it (line_without_head above moment (number + 1) line kind bad) read)

pub text_refused : (octets rest line after : List ℕ) (above : List ScriptLine) (moment number at : ℕ) (said : List ℕ) (known : KnownLines) (fault : ConfFault)
    → lines rest ≡ line ∷ lines after → is_comment line ≡ false → head_said moment line ≡ Ok (at, said) → IsCauseAt (number + 1) fault (typed said)
    → HasReadLines octets rest above moment number known → IsCause fault (script octets)
text_refused octets rest line after above moment number at said known (Refused n kind) first told_it head bad read =
    script_refused octets rest line after above moment number known kind first told_it
    (and_line_is above moment (number + 1) at line said head ∙ ap (λ r. with_text above (number + 1) at r) bad.1) read
    ∙ ap (λ m. Err (record { line = m; kind = kind })) (sym bad.0)
text_refused octets rest line after above moment number at said known NoMemory first told_it head bad read = tt

-- Worked examples of scripts, by computing.
use Rattle.std.proofs.Common.{◌≡◌, ℕ, refl, List, [], ◌∷◌, ◌++◌, None, Some, Ok, Err, codes}
use Rattle.std.specs.Prelude.{map}
use Rattle.std.specs.Str.{is_utf8, chars}
use Rattle.std.specs.Char.{encode_utf8}
use Rattle.file_spec.specs.declared.kinds.ConfKind.TheVariants.{NotText, Count, Number, Order, Escape}
use Rattle.file_spec.specs.Lines.{Refusal, words}
use Rattle.file_spec.specs.Script.{script, script_line, unescaped}

spaces_count_for_nothing : words (codes "  leg Ann   aware ") ≡ codes "leg" ∷ codes "Ann" ∷ codes "aware" ∷ []
spaces_count_for_nothing = refl

all_escapes : unescaped (codes "a\\nb\\b\\a\\\\n") ≡ Some (97 ∷ 226 ∷ 128 ∷ 168 ∷ 98 ∷ 8 ∷ 7 ∷ 92 ∷ 110 ∷ [])
all_escapes = refl

a_backslash_at_the_end : unescaped (codes "a\\") ≡ None
a_backslash_at_the_end = refl

two_lines_and_a_comment : script (codes "0 H\r\n#  \n\n300  e \n") ≡ Ok (record { line = 1; at = 0; text = codes "H" } ∷ record { line = 4; at = 300; text = codes " e " } ∷ [])
unfolding script_line is_utf8 chars encode_utf8
two_lines_and_a_comment = refl

a_carriage_return_stays_at_the_end : script (codes "7 H\r") ≡ Ok (record { line = 1; at = 7; text = 72 ∷ 13 ∷ [] } ∷ [])
unfolding script_line is_utf8 chars encode_utf8
a_carriage_return_stays_at_the_end = refl

-- scripts with a fault, and what is told of it
abbrev faulty : List (List ℕ × Refusal)
faulty =
    -- typed before the line above
    (codes "300 e\n299 H", record { line = 2; kind = Order })
    -- no space behind the moment
    ∷ (codes "\n300", record { line = 2; kind = Count })
    -- a millisecond past four hours
    ∷ (codes "14400001 A", record { line = 1; kind = Number })
    -- a sign
    ∷ (codes "+1 A", record { line = 1; kind = Number })
    -- no such escape
    ∷ (codes "0 a\\q", record { line = 1; kind = Escape })
    -- a backslash ends the line
    ∷ (codes "0 A\n1 a\\", record { line = 2; kind = Escape })
    -- half a character
    ∷ (codes "0 caf" ++ 195 ∷ [], record { line = 1; kind = NotText })
    ∷ []

faults_are_told : map (λ f. script f.0) faulty ≡ map (λ f. Err f.1) faulty
unfolding script_line is_utf8 chars encode_utf8
faults_are_told = refl

-- Of a file with more octets than are looked at throughout its front tells what is told of it.
use Rattle.std.proofs.Common.{◌≡◌, ℕ, ◌<◌, ◌≤◌, true, List, [], ◌∷◌, ◌++◌, length, length-append, Option, Some, None, refl, ap, sym, ◌∙◌, cond, arith}
use Rattle.std.specs.Prelude.{nat_lt}
use Rattle.std.proofs.lemmas.Bool.Decides.{nat_tests}
use Rattle.report_spec.specs.declared.forms.FileForm.{FileForm}
use Rattle.report_spec.specs.declared.forms.FileForm.TheVariants.{TooLarge}
use Rattle.report_spec.specs.declared.limits.TheConstants.{MOST_CHECKED_OCTETS}
use Rattle.report_spec.specs.Forms.{foreign, form_of}
use Rattle.std.specs.Str.Lines.{lines}
use Rattle.wire_spec.specs.Dump.{dump}
use Rattle.file_spec.specs.declared.conference_lines.LegLine.{LegLine}
use Rattle.report_spec.specs.Checking.{Report, line_at, report, report_as, report_of, untaken}
use Rattle.report_spec.specs.Inputs.{input_form, leg_told, most_of_input, recording_told}
use Rattle.file_spec.specs.Conference.{Conference}
use Rattle.report_spec.specs.Looks.{Look, Tells, legs_as, legs_by, legs_in, links_as, links_by, links_in, look_in, look_over, looks_at}

-- four octets tell whether a file is of a foreign form
foreign_front : (octets rest : List ℕ) → 4 ≤ length octets → foreign (octets ++ rest) ≡ foreign octets
foreign_front [] rest l = absurd (omega (arith, l))
foreign_front (a ∷ []) rest l = absurd (omega (arith, l))
foreign_front (a ∷ b ∷ []) rest l = absurd (omega (arith, l))
foreign_front (a ∷ b ∷ c ∷ []) rest l = absurd (omega (arith, l))
foreign_front (a ∷ b ∷ c ∷ d ∷ more) rest l = refl

-- what is told of a long file that is of no foreign form
too_large : (name octets : List ℕ) → MOST_CHECKED_OCTETS < length octets → report_of None name octets ≡ untaken TooLarge
too_large name octets l =
    let over : nat_lt MOST_CHECKED_OCTETS (length octets) ≡ true = grind (arith, nat_tests) in
    ap (λ b. cond b (untaken TooLarge) (report_as (form_of octets) name octets)) over

of_both : (found : Option FileForm) (name octets whole : List ℕ) → MOST_CHECKED_OCTETS < length octets → MOST_CHECKED_OCTETS < length whole → report_of found name whole ≡ report_of found name octets
of_both (Some form) name octets whole l m = refl
of_both None name octets whole l m = too_large name whole m ∙ sym (too_large name octets l)

front_told : (name octets rest : List ℕ) → MOST_CHECKED_OCTETS < length octets → report name (octets ++ rest) ≡ report name octets
front_told name octets rest l =
    let longer : MOST_CHECKED_OCTETS < length (octets ++ rest) = omega (arith, l, length-append octets rest) in
    let four : 4 ≤ length octets = omega (arith, l) in
    ap (λ found. report_of found name (octets ++ rest)) (foreign_front octets rest four) ∙ of_both (foreign octets) name octets (octets ++ rest) l longer

-- ---- no leg of it is looked at
none_as : (octets : List ℕ) → MOST_CHECKED_OCTETS < length octets → legs_by None octets ≡ []
none_as octets l =
    let over : nat_lt MOST_CHECKED_OCTETS (length octets) ≡ true = grind (arith, nat_tests) in
    ap (λ b. cond b [] (legs_as (form_of octets) octets)) over

no_legs : (found : Option FileForm) (octets : List ℕ) → MOST_CHECKED_OCTETS < length octets → legs_by found octets ≡ []
no_legs (Some form) octets l = refl
no_legs None octets l = none_as octets l

pub long_legs : (octets : List ℕ) → MOST_CHECKED_OCTETS < length octets → legs_in octets ≡ []
long_legs octets l = no_legs (foreign octets) octets l

-- and no port of it is tried
untried_as : (octets : List ℕ) → MOST_CHECKED_OCTETS < length octets → links_by None octets ≡ None
untried_as octets l =
    let over : nat_lt MOST_CHECKED_OCTETS (length octets) ≡ true = grind (arith, nat_tests) in
    ap (λ b. cond b None (links_as (form_of octets) octets)) over

no_ports : (found : Option FileForm) (octets : List ℕ) → MOST_CHECKED_OCTETS < length octets → links_by found octets ≡ None
no_ports (Some form) octets l = refl
no_ports None octets l = untried_as octets l

pub long_untried : (octets : List ℕ) → MOST_CHECKED_OCTETS < length octets → links_in octets ≡ None
long_untried octets l = no_ports (foreign octets) octets l

only_tells : (name octets : List ℕ) → MOST_CHECKED_OCTETS < length octets → look_in name octets ≡ Tells (report name octets)
only_tells name octets l =
    ap (λ (c : Option Conference). look_over c octets (report name octets)) (long_untried octets l)
    ∙ ap (λ (legs : List LegLine). looks_at (most_of_input legs) octets legs (report name octets)) (long_legs octets l)

pub front_looks : (name octets rest : List ℕ) → MOST_CHECKED_OCTETS < length octets → look_in name (octets ++ rest) ≡ look_in name octets
front_looks name octets rest l =
    let longer : MOST_CHECKED_OCTETS < length (octets ++ rest) = omega (arith, l, length-append octets rest) in
    only_tells name (octets ++ rest) longer ∙ (ap Tells (front_told name octets rest l) ∙ sym (only_tells name octets l))

-- ---- an IN
input_too_large : (limit : ℕ) (conference : List ℕ) (leg : LegLine) (octets : List ℕ) → MOST_CHECKED_OCTETS < length octets
    → leg_told limit conference leg octets ≡ Some (input_form TooLarge leg (line_at leg.line (lines conference)))
input_too_large limit conference leg octets l =
    let over : nat_lt MOST_CHECKED_OCTETS (length octets) ≡ true = grind (arith, nat_tests) in
    let line = line_at leg.line (lines conference) in
    ap (λ b. cond b (Some (input_form TooLarge leg line)) (recording_told leg line octets (dump limit octets))) over

pub long_inputs_alike : (limit : ℕ) (conference : List ℕ) (leg : LegLine) (a b : List ℕ) → MOST_CHECKED_OCTETS < length a → MOST_CHECKED_OCTETS < length b
    → leg_told limit conference leg a ≡ leg_told limit conference leg b
long_inputs_alike limit conference leg a b l m = input_too_large limit conference leg a l ∙ sym (input_too_large limit conference leg b m)

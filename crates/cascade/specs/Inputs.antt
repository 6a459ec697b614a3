-- The inputs of a conference behind another mixer, by number and name, as for a command: 0 is the conference, 1 is the recording of
-- what that mixer sent, and then come those of the legs that don't stand behind it, in leg order.
use Rattle.std.specs.Prelude.{◌≤◌, ℕ, zero, suc, List, [], ◌∷◌, if◌then◌else◌}
use Rattle.file_spec.specs.declared.conference_lines.LegLine.{LegLine}
use Rattle.command_spec.specs.declared.faults.Refusal.TheVariants.{AtByte, AtFrame, AtLine, AtTrunk, AfterTurns}
use Rattle.command_spec.specs.Work.{Contents, Steps, IsInput}
use Rattle.command_spec.specs.Outcomes.{Outcome, Done, Missing, Refused, Served}
use Rattle.command_spec.specs.Cascading.{is_on_trunk}

-- the number of the input of the leg at this place, where those of the legs that don't stand behind the other mixer have the
-- numbers from n on
abbrev pub number_from : ℕ → List LegLine → ℕ → ℕ
number_from n [] leg = n
number_from n (head ∷ legs) zero = if is_on_trunk head then 1 else n
number_from n (head ∷ legs) (suc leg) = if is_on_trunk head then number_from n legs leg else number_from (suc n) legs leg

abbrev pub input_number : List LegLine → ℕ → ℕ
input_number legs leg = number_from 2 legs leg

-- the name of the input at this place among those of the legs that don't stand behind the other mixer, or else this name
abbrev pub own_name : List ℕ → List LegLine → ℕ → List ℕ
own_name other [] place = other
own_name other (leg ∷ legs) zero = if is_on_trunk leg then own_name other legs zero else leg.input
own_name other (leg ∷ legs) (suc place) = if is_on_trunk leg then own_name other legs (suc place) else own_name other legs place

-- the name of the input of this number
abbrev pub input_name : List ℕ → List LegLine → ℕ → List ℕ
input_name file legs zero = file
input_name file legs (suc zero) = file
input_name file legs (suc (suc place)) = own_name file legs place

-- ---- what comes of them
-- the input of this number is read by these steps, before which one was
abbrev pub IsInputBehind : (Told : Type 0) → Contents → Steps → ℕ → List ℕ → Type 0
IsInputBehind Told held steps zero name = ⊥
IsInputBehind Told held steps (suc n) name = IsInput Told held steps n name

-- no input before this number is refused
abbrev pub RefusesNoneBefore : ℕ → Outcome → Type 0
RefusesNoneBefore n (Missing input) = Unit {0}
RefusesNoneBefore n (Refused input (AtByte byte kind)) = n ≤ input
RefusesNoneBefore n (Refused input (AtFrame byte kind)) = ⊥
RefusesNoneBefore n (Refused input (AtLine line kind)) = ⊥
RefusesNoneBefore n (Refused input (AtTrunk line)) = ⊥
RefusesNoneBefore n (Refused input (AfterTurns turns)) = Unit {0}
RefusesNoneBefore n (Done printed files) = Unit {0}
RefusesNoneBefore n (Served c) = Unit {0}

-- no input from this number on has this name
abbrev pub NoneHasName : (Told : Type 0) → Contents → Steps → ℕ → List ℕ → Type 0
NoneHasName Told held steps n name = (later : ℕ) → n ≤ later → IsInputBehind Told held steps later name → ⊥

-- Generated conferences that another program worked out from the same rules.
use Rattle.std.proofs.Common.{◌≡◌, ℕ, ◌-◌, ◌^◌, List, [], ◌∷◌, ◌++◌, refl, true, false}
use Rattle.std.specs.Prelude.{codes, length, map, take, drop}
use Rattle.file_spec.specs.declared.conference_lines.PlanLine.{PlanLine}
use Rattle.file_spec.specs.declared.conference_lines.What.{What}
use Rattle.file_spec.specs.declared.conference_lines.What.TheVariants.{Lose, Delay, Twice}
use Rattle.file_spec.specs.Script.{ScriptLine}
use Rattle.command_spec.specs.Draws.{next, draw, times}
use Rattle.command_spec.specs.Generated.{generated, plan_line, script_from, text, typist, without_repeats}
use Rattle.command_spec.specs.Making.{lines_typed, octets_typed}

-- ---- the first draw from 1
first_state : next 1 ≡ 1103527590
unfolding next
first_state = refl

first_draw : draw 15 1 ≡ (8, 1103527590)
unfolding next draw
first_draw = refl

-- the largest state
largest_state : next (2 ^ 31 - 1) ≡ 1043980748
unfolding next
largest_state = refl

-- ---- the conference 1: ten legs
legs_of_1 : length (generated 1).conference.legs ≡ 10
unfolding next draw times text script_from typist plan_line generated
legs_of_1 = refl

aware_of_1 : map (λ l. l.aware) (generated 1).conference.legs
    ≡ true ∷ true ∷ true ∷ false ∷ true ∷ true ∷ true ∷ false ∷ true ∷ true ∷ []
unfolding next draw times text script_from typist plan_line generated
aware_of_1 = refl

firsts_of_1 : (generated 1).firsts
    ≡ 5758 ∷ 27141 ∷ 32047 ∷ 16092 ∷ 21372 ∷ 3654 ∷ 22281 ∷ 15466 ∷ 9363 ∷ 2624 ∷ []
unfolding next draw times text script_from typist plan_line generated
firsts_of_1 = refl

lines_of_1 : lines_typed (generated 1) ≡ 400
unfolding next draw times text script_from typist plan_line generated
lines_of_1 = refl

octets_of_1 : octets_typed (generated 1) ≡ 2974
unfolding next draw times text script_from typist plan_line generated
octets_of_1 = refl

abbrev line : ℕ → List ℕ → ScriptLine
line at text = record { line = 0; at = at; text = text }

first_script_of_1 : map (take 2) (take 2 (generated 1).scripts)
    ≡ (line 113 (codes "hlajoetb") ∷ line 573 (codes "tztvie" ++ 8 ∷ []) ∷ [])
    ∷ (line 702 (codes "qgpbujdtdp. ") ∷ line 1355 (codes "mwqryuxfvx. ") ∷ []) ∷ []
unfolding next draw times text script_from typist plan_line generated
first_script_of_1 = refl

last_line_of_leg_1 : map (drop 39) (take 1 (drop 1 (generated 1).scripts))
    ≡ (line 19651 (codes "p" ++ 226 ∷ 128 ∷ 168 ∷ []) ∷ []) ∷ []
unfolding next draw times text script_from typist plan_line generated
last_line_of_leg_1 = refl

-- ---- the plan: of two of the 200 lines one before says the same
abbrev happens : ℕ → ℕ → What → PlanLine
happens terminal packet what = record { terminal = terminal; packet = packet; what = what }

plan_length_of_1 : length (generated 1).conference.plan ≡ 198
unfolding next draw times text script_from typist plan_line generated
plan_length_of_1 = refl

plan_of_1 : take 4 (generated 1).conference.plan
    ≡ happens 0 325 Lose ∷ happens 2 378 Lose ∷ happens 3 63 Lose ∷ happens 6 205 Lose ∷ []
unfolding next draw times text script_from typist plan_line generated
plan_of_1 = refl

plan_of_2 : take 4 (generated 2).conference.plan
    ≡ happens 0 302 Twice ∷ happens 7 323 (Delay 723) ∷ happens 2 106 Lose ∷ happens 7 195 (Delay 267) ∷ []
unfolding next draw times text script_from typist plan_line generated
plan_of_2 = refl

-- the last of all that is drawn
last_of_2 : drop 196 (generated 2).conference.plan ≡ happens 7 104 Lose ∷ []
unfolding next draw times text script_from typist plan_line generated
last_of_2 = refl

-- how long a packet is delayed makes no other line; another word does
repeats : without_repeats (happens 1 7 (Delay 5) ∷ happens 1 7 Lose ∷ happens 1 7 (Delay 6) ∷ happens 1 8 Lose ∷ happens 1 7 Lose ∷ [])
    ≡ happens 1 7 (Delay 5) ∷ happens 1 7 Lose ∷ happens 1 8 Lose ∷ []
repeats = refl

-- ---- the fewest legs, and the most
legs_of_13 : length (generated 13).conference.legs ≡ 2
unfolding next draw times text script_from typist plan_line generated
legs_of_13 = refl

legs_of_39 : length (generated 39).conference.legs ≡ 16
unfolding next draw times text script_from typist plan_line generated
legs_of_39 = refl

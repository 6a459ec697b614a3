-- What is generated, from what is drawn in turn.
use Rattle.std.proofs.Common.{◌≡◌, ℕ, ◌+◌, List, map, refl, subst}
use Rattle.file_spec.specs.declared.conference_lines.PlanLine.{PlanLine}
use Rattle.file_spec.specs.Conference.{Conference}
use Rattle.file_spec.specs.Kept.{IsConference}
use Rattle.file_spec.specs.Script.{ScriptLine}
use Rattle.command_spec.specs.Draws.{draw, times}
use Rattle.command_spec.specs.Generated.{Generated, conference_of, generated, generated_of, plan_line, typist, without_repeats}
use Rattle.command_spec.proofs.Generating.{generated_is}

pub generated_from : (n more first last : ℕ) (scripts : List (List ScriptLine)) (firsts : List ℕ) (plan : List PlanLine)
    → draw 15 n ≡ (more, first) → scripts ≡ map (λ t. t.script) (times (2 + more) typist first).0 → firsts ≡ map (λ t. t.first) (times (2 + more) typist first).0
    → last ≡ (times (2 + more) typist first).1 → plan ≡ without_repeats (times 200 (plan_line (2 + more)) last).0
    → generated n ≡ record { conference = conference_of (2 + more) plan; scripts = scripts; firsts = firsts }
unfolding generated
generated_from n more first last scripts firsts plan e f g h p = cc

pub keeps : (n more first last : ℕ) (plan : List PlanLine) → draw 15 n ≡ (more, first) → last ≡ (times (2 + more) typist first).1
    → plan ≡ without_repeats (times 200 (plan_line (2 + more)) last).0 → IsConference (conference_of (2 + more) plan)
keeps n more first last plan e h p =
    let P : Generated → Type 0 = λ g. IsConference g.conference in
    subst P (generated_from n more first last _ _ plan e refl refl h p) (generated_is n).conference

pub made_is : (n more first last : ℕ) (conference : Conference) (scripts : List (List ScriptLine)) (firsts : List ℕ) (plan : List PlanLine)
    → draw 15 n ≡ (more, first) → scripts ≡ map (λ t. t.script) (times (2 + more) typist first).0 → firsts ≡ map (λ t. t.first) (times (2 + more) typist first).0
    → last ≡ (times (2 + more) typist first).1 → plan ≡ without_repeats (times 200 (plan_line (2 + more)) last).0 → conference ≡ conference_of (2 + more) plan
    → let made : Generated = record { conference = conference; scripts = scripts; firsts = firsts } in made ≡ generated n
made_is n more first last conference scripts firsts plan e f g h p c = let whole = generated_from n more first last scripts firsts plan e f g h p in cc

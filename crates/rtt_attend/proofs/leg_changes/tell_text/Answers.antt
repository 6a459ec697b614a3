use Rattle.std.proofs.Common.{◌≡◌, false, ℕ, List, subst, sym, ◌∙◌}
use Rattle.file_spec.specs.declared.conference_lines.LegLine.{LegLine}
use Rattle.command_spec.specs.Attending.{is_free}
use Rattle.rtt_attend.proofs.Changes.{told_shapeless, told_taken}
use Rattle.rtt_attend.proofs.leg_changes.tell_text.Goals as goal

pub returns-in_default : goal.returns-in_default
returns-in_default c = told_shapeless c.args.legs.now c.args.text.now c.args.leg (sym c.name_from.ensures ∙ c.in_default.is)

pub returns-else-is_free : goal.returns-else-is_free
returns-else-is_free c =
    told_taken c.args.legs.now c.args.text.now c.in-Some.name c.args.leg (sym c.name_from.ensures ∙ c.in-Some.is)
    (subst (λ (l : List LegLine). is_free l c.in-Some.name ≡ false) c.as_slice.ensures (subst (λ (n : List ℕ). is_free c.as_slice.result.now n ≡ false) c.as_str.ensures (sym c.is_free.ensures ∙ c.if-is_free.false)))

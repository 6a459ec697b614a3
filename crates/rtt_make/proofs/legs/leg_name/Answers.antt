use Rattle.std.proofs.Common.{List, ℕ, IsTrue, ◌∙◌, sym, subst}
use Rattle.file_spec.specs.Conference.{is_name}
use Rattle.command_spec.proofs.Generating.{named}
use Rattle.rtt_make.proofs.legs.leg_name.Goals as goal

pub name_of-requires : goal.name_of-requires
name_of-requires c =
    subst (λ (t : List ℕ). IsTrue (is_name t)) (sym (c.as_str.ensures.value ∙ c.in-Ok.ensures.ok)) (named c.args.number c.requires)

use Rattle.std.proofs.Common.{List, take, subst, sym, ◌∙◌}
use Rattle.packetizer.specs.declared.slots.KeptBlock.{KeptBlock}
use Rattle.packetizer.specs.WindowStanding.{WindowStandsFor}
use Rattle.packetizer.proofs.Repeating.{any_in_turn, due_is}
use Rattle.packetizer.proofs.windows.Window.due.Goals as goal

pub returns : goal.returns
returns c = λ g base past s.
    c.any_text.ensures
    ∙ (any_in_turn c.self.inside.oldest (take c.self.inside.generations c.self.inside.places)
    ∙ due_is g base _ past (subst (λ (kept : List KeptBlock). WindowStandsFor g base kept past) (sym c.self.view_is) s))

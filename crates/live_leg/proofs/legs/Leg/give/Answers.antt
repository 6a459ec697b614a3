use Rattle.std.proofs.Common.{sym, ◌∙◌}
use Rattle.live_leg.proofs.HowFar.{parting_is, parts_or_hears}
use Rattle.live_leg.proofs.legs.Leg.give.Goals as goal

pub part-requires : goal.part-requires
part-requires g c = parting_is c.args.self.now.state (sym c.is_parting.ensures ∙ c.if-is_parting.true)

pub give_ready-requires : goal.give_ready-requires
give_ready-requires g c = parts_or_hears c.args.self.now.state c.requires (sym c.is_parting.ensures ∙ c.if-is_parting.false)

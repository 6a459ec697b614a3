use Rattle.mixer.proofs.Resting.{never_calm}
use Rattle.mixer.proofs.calm.turn_all.Goals as goal

pub returns-then-not-is_empty-clause-calm : goal.returns-then-not-is_empty-clause-calm
returns-then-not-is_empty-clause-calm c = never_calm c.args.seating.now c.turn_legs.new.schedulers

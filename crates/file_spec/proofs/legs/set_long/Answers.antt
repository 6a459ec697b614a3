use Rattle.file_spec.specs.Conference.{with_long}
use Rattle.file_spec.proofs.Changed.{change_at}
use Rattle.file_spec.proofs.legs.set_long.Goals as goal

pub returns : goal.returns
returns c = change_at with_long c.args.legs.now c.args.leg c.item_mut.result.now c.requires c.item_mut.ensures.value

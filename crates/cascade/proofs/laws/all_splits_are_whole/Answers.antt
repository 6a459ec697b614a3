use Rattle.cascade.proofs.WholeSplits.{splits_whole}
use Rattle.cascade.proofs.laws.all_splits_are_whole.Goals as goal

pub returns : goal.returns
returns c = splits_whole

use Rattle.std.proofs.Common.{[]}
use Rattle.rtt_top.proofs.Ending.{runs}
use Rattle.rtt_top.proofs.make.run_make.Goals as goal

pub returns : goal.returns
returns g c =
    runs c.make-ending.result [] c.finish_with.ensures.status (c.make-ending.ensures []) c.finish_with.ensures.silent c.finish_with.ensures.front c.finish_with.ensures.told

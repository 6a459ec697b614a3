use Rattle.std.proofs.Common.{[]}
use Rattle.rtt_top.specs.Faults.{name_in}
use Rattle.rtt_top.proofs.Ending.{runs}
use Rattle.rtt_top.proofs.help.run_help.Goals as goal

pub returns : goal.returns
returns g c =
    let ending = c.help-ending.result in
    runs ending (name_in [] [] ending) c.finish.ensures.status c.help-ending.ensures c.finish.ensures.silent c.finish.ensures.front c.finish.ensures.told

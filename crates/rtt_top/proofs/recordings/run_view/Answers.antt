use Rattle.rtt_top.specs.Faults.{name_in}
use Rattle.rtt_top.specs.RecordingViews.{command_of}
use Rattle.rtt_top.proofs.Ending.{runs}
use Rattle.rtt_top.proofs.Statused.{no_check_view, other}
use Rattle.rtt_top.proofs.recordings.run_view.Goals as goal

pub returns : goal.returns
returns g c =
    let file = c.args.name.now in
    let ending = c.print_view-ending.result in
    runs ending (name_in file file ending)
    (other (command_of c.args.view file) g.W.World.tells (g.W.World.contents c.args.world.now) ending c.finish.result (no_check_view c.args.view file) c.finish.ensures.status) c.print_view-ending.ensures c.finish.ensures.silent c.finish.ensures.front c.finish.ensures.told

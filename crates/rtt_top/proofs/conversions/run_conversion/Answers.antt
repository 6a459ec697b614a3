use Rattle.std.proofs.Common.{sym, subst}
use Rattle.rtt_top.specs.Conversions.{asked_for, input_of}
use Rattle.rtt_top.specs.Faults.{name_in}
use Rattle.rtt_top.specs.Outside.{outside_at}
use Rattle.rtt_top.specs.Runs.{Ends}
use Rattle.rtt_top.proofs.Ending.{runs}
use Rattle.rtt_top.proofs.Statused.{no_check_conversion, other}
use Rattle.rtt_top.proofs.conversions.run_conversion.Goals as goal

pub returns : goal.returns
returns g c =
    let it = c.args.conversion.now in
    let old = outside_at g.W.World g.K.Sink c.args.world.now c.args.out.now in
    let new = outside_at g.W.World g.K.Sink c.convert-ending.new.world c.args.out.now in
    let ending = c.convert-ending.result in
    let input = c.input_of.result.now in
    let output = c.output_of.result.now in
    runs ending (name_in input output ending)
    (other (asked_for it) g.W.World.tells (g.W.World.contents c.args.world.now) ending c.finish.result (no_check_conversion it) c.finish.ensures.status)
    (subst (λ i. Ends (asked_for it) g.W.World.tells g.K.Sink.tells old new (name_in i output ending) ending) (sym c.input_of.ensures)
    (subst (λ o. Ends (asked_for it) g.W.World.tells g.K.Sink.tells old new (name_in (input_of it) o ending) ending) (sym c.output_of.ensures) c.convert-ending.ensures))
    c.finish.ensures.silent c.finish.ensures.front c.finish.ensures.told

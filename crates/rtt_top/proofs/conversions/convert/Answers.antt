use Rattle.std.proofs.Common.{refl, sym, subst}
use Rattle.rtt_top.specs.Conversions.{asked_for, input_of, output_of}
use Rattle.rtt_top.specs.Faults.{name_in}
use Rattle.rtt_top.specs.Outside.{outside_at}
use Rattle.rtt_top.specs.Runs.{Ends}
use Rattle.rtt_top.specs.Worlds.{OnlyMakes}
use Rattle.rtt_top.proofs.Converting.{is_input, where_read}
use Rattle.rtt_top.proofs.Sending.{saves}
use Rattle.rtt_top.proofs.Working.{stopped}
use Rattle.rtt_top.proofs.conversions.convert.Goals as goal

pub returns-in-Ok : goal.returns-in-Ok
returns-in-Ok g c =
    let it = c.args.conversion.now in
    let mid = c.octets_of.new.world in
    let old = outside_at g.W.World g.K.Sink c.args.world.now c.args.out.now in
    let new = outside_at g.W.World g.K.Sink c.save_output.new.world c.args.out.now in
    let name = c.output_of.result.now in
    let file = c.as_slice.result.now in
    let res = c.save_output.result in
    let made =
    subst (λ n. OnlyMakes g.W.World c.args.world.now (asked_for it) n file) (sym c.output_of.ensures)
    (subst (λ f. OnlyMakes g.W.World c.args.world.now (asked_for it) (output_of it) f) (sym c.as_slice.ensures) c.in-Ok.ensures.made) in
    subst (λ n. Ends (asked_for it) g.W.World.tells g.K.Sink.tells old new (name_in (input_of it) n res) res) c.output_of.ensures
    (saves (asked_for it) (input_of it) name g.W.World.tells g.K.Sink.tells old new
    (g.W.World.contents mid) (g.W.World.own_faults mid) (g.W.World.object_faults mid) file res
    (where_read g.W.World.tells it) made.0 made.1
    refl c.in-Ok.ensures.same_contents c.in-Ok.ensures.calls_never_fall c.in-Ok.ensures.objects_never_fall
    c.save_output.ensures.fault c.save_output.ensures.saved c.save_output.ensures.cause c.save_output.ensures.partly)

pub returns-in-Err : goal.returns-in-Err
returns-in-Err g c =
    let it = c.args.conversion.now in
    let old = outside_at g.W.World g.K.Sink c.args.world.now c.args.out.now in
    let new = outside_at g.W.World g.K.Sink c.octets_of.new.world c.args.out.now in
    stopped (asked_for it) g.W.World.tells g.K.Sink.tells old new (input_of it) (output_of it) c.in-Err.fault
    (is_input g.W.World.tells old.contents it) c.in-Err.ensures.stops ((λ shown. refl), c.in-Err.ensures.same_contents)

use Rattle.std.proofs.Common.{◌≡◌, ◌∙◌, arith, length, sym}
use Rattle.mix_loop.specs.Items.{Gave}
use Rattle.mix_loop.specs.Mixers.{Of}
use Rattle.rtpdump_io.specs.declared.items.DumpFault.{DumpFault}
use Rattle.leg.specs.declared.inlets.LegInlet.{LegInlet}
use Rattle.leg.specs.Feds.{Fed}
use Rattle.leg.proofs.Telling.{none_gave, plain_mixed}
use Rattle.rtt_mix.proofs.LaneJoining.{are_new, legs_mixed, none_popped}
use Rattle.rtt_mix.proofs.threads.run_in.Goals as goal

pub start_lanes-lanes-requires-clause-new : goal.start_lanes-lanes-requires-clause-new
start_lanes-lanes-requires-clause-new g c κs within =
    are_new (λ (first now : LegInlet g.row.S.Denot) (gave : Gave DumpFault). Fed g.S.Source.tells g.S.Source.left g.S.Source.faults g.S.Source.name first now gave) c.args.job.task.legs.items
    (none_gave g.S.Source.tells g.S.Source.left g.S.Source.faults g.S.Source.name c.args.job.task.legs.items c.requires.may.new)

pub returns : goal.returns
returns g c =
    let task = c.args.job.task in
    let began = c.start_lanes-lanes in
    let ran = c.mix_inlets-mixing in
    let back = c.join_lanes-legs in
    let many : length back.result.items ≡ length task.legs.items = omega (arith, back.ensures.many, ran.ensures.inlets, ran.result.inlets.ok.0, began.result.lanes.ok.0, began.ensures.lanes.many) in
    record {
      legs = omega (arith, many, back.result.ok.0, task.legs.ok.0);
      mixed = λ s payload_types made e stay.
          plain_mixed g.S.Source.tells g.S.Source.left g.S.Source.faults g.S.Source.name (Of g.M.MixerCalls.stands payload_types) s task.tick task.turns ran.result.mixing task.legs.items back.result.items ran.new.mixer e many
          (legs_mixed (λ (first now : LegInlet g.row.S.Denot) (gave : Gave DumpFault). Fed g.S.Source.tells g.S.Source.left g.S.Source.faults g.S.Source.name first now gave) task.legs.items began.result.lanes.items began.ensures.lanes
          (Of g.M.MixerCalls.stands payload_types) s task.tick task.turns ran.result.mixing ran.result.inlets.items back.result.items ran.new.mixer back.ensures
          (ran.ensures.mixed s payload_types (none_popped (λ (first now : LegInlet g.row.S.Denot) (gave : Gave DumpFault). Fed g.S.Source.tells g.S.Source.left g.S.Source.faults g.S.Source.name first now gave) task.legs.items began.result.lanes.items began.ensures.lanes) made (e ∙ sym began.ensures.lanes.many) stay));
    }

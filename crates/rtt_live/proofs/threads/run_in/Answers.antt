use Rattle.std.proofs.Common.{◌≡◌, ℕ, List, length, refl, ap, sym, subst, arith}
use Rattle.std.proofs.lemmas.List.{with_items_is}
use Rattle.workers.specs.declared.lanes.Worker.{Worker}
use Rattle.workers.specs.Pairs.{Pairs}
use Rattle.workers.specs.Rooms.{HasRoomBack}
use Rattle.mix_loop.specs.Walks.{AreAt}
use Rattle.std.specs.Prelude.{vec_len}
use Rattle.live_leg.specs.LinkLegs.{LinkItem, LinkLeg}
use Rattle.mix_loop.specs.declared.live_ports.LivePort.{LivePort}
use Rattle.rtt_live.specs.Jobs.{ArePortsOf, IsInletOf, popped_in}
use Rattle.rtt_live.proofs.Joining.{all_failed, all_gave, inlets_paired, none_popped, ports_begun, serving_first}
use Rattle.rtt_live.proofs.threads.run_in.Goals as goal

pub turn_and_stop-turned-requires-clause-at : goal.turn_and_stop-turned-requires-clause-at
turn_and_stop-turned-requires-clause-at g c =
    subst (λ (xs : List (LivePort (Worker LinkItem (LinkLeg g.row.L.Denot) g.row.G.Denot))). AreAt xs) (sym c.as_mut_slice.ensures.value) (ports_begun c.start_lanes-lanes.result.lanes.items c.ports_over-ports.result.items c.ports_over-ports.ensures).at

pub turn_and_stop-turned-requires-clause-legs : goal.turn_and_stop-turned-requires-clause-legs
turn_and_stop-turned-requires-clause-legs g c =
    let is = ap (λ (xs : List (LivePort (Worker LinkItem (LinkLeg g.row.L.Denot) g.row.G.Denot))). length xs) c.as_mut_slice.ensures.value in
    omega (arith, c.requires.terminals, is, (ports_begun c.start_lanes-lanes.result.lanes.items c.ports_over-ports.result.items c.ports_over-ports.ensures).pairs.many, c.start_lanes-lanes.ensures.lanes.many, c.args.job.legs.ok.0)

pub join_lanes-legs-requires : goal.join_lanes-legs-requires
join_lanes-legs-requires g c =
    let is = ap (λ (xs : List (LivePort (Worker LinkItem (LinkLeg g.row.L.Denot) g.row.G.Denot))). length xs) c.as_mut_slice.ensures.value in
    let still = c.turn_and_stop-turned.auto.ports in
    let whole = with_items_is c.ports_over-ports.result c.turn_and_stop-turned.new.ports (omega (arith, still, is, c.ports_over-ports.result.ok.0)) in
    let same : vec_len c.live_inlets_of-lanes.result ≡ vec_len c.args.job.legs = omega (
      arith,
      c.live_inlets_of-lanes.result.ok.0,
      (inlets_paired _ c.live_inlets_of-lanes.result.items c.live_inlets_of-lanes.ensures).many,
      ap (λ (xs : List (LivePort (Worker LinkItem (LinkLeg g.row.L.Denot) g.row.G.Denot))). length xs) whole,
      still,
      is,
      (ports_begun c.start_lanes-lanes.result.lanes.items c.ports_over-ports.result.items c.ports_over-ports.ensures).pairs.many,
      c.start_lanes-lanes.ensures.lanes.many,
      c.args.job.legs.ok.0,
    ) in
    subst (λ (n : ℕ). HasRoomBack n c.start_lanes-lanes.result.back) (sym same) c.start_lanes-lanes.ensures.back

pub returns : goal.returns
returns g c =
    let job = c.args.job in
    let began = c.start_lanes-lanes in
    let ran = c.turn_and_stop-turned in
    let were = ran.ensures.were in
    let started = began.ensures.lanes in
    let lanes = began.result.lanes.items in
    let ps = c.as_mut_slice.result.now in
    let is = c.as_mut_slice.ensures.value in
    let ports : ArePortsOf lanes ps = subst (λ (xs : List (LivePort (Worker LinkItem (LinkLeg g.row.L.Denot) g.row.G.Denot))). ArePortsOf lanes xs) (sym is) (ports_begun lanes c.ports_over-ports.result.items c.ports_over-ports.ensures) in
    let still = ran.auto.ports in
    let whole = with_items_is c.ports_over-ports.result ran.new.ports (omega (arith, still, ap (λ (xs : List (LivePort (Worker LinkItem (LinkLeg g.row.L.Denot) g.row.G.Denot))). length xs) is, c.ports_over-ports.result.ok.0)) in
    let joined = c.live_inlets_of-lanes in
    let inlets : Pairs IsInletOf ran.new.ports joined.result.items = subst (λ (xs : List (LivePort (Worker LinkItem (LinkLeg g.row.L.Denot) g.row.G.Denot))). Pairs IsInletOf xs joined.result.items) whole (inlets_paired _ joined.result.items joined.ensures) in
    let back = c.join_lanes-legs in
    record {
      same = refl;
      passed = ran.ensures.passed;
      addresses_are = ran.ensures.addresses;
      many = omega (arith, back.ensures.many, inlets.many, still, ports.pairs.many, started.many);
      ports = were.ports;
      each = omega (arith, were.many, ports.pairs.many, started.many);
      legs = all_gave g.L.LinkIn g.M.MixerCalls.stands job.turns ran.result job.legs.items back.result.items lanes joined.result.items ps ran.new.ports job.mixer ran.new.mixer started ports were inlets back.ensures;
      ran = λ s payload_types e st made. were.ran s payload_types (omega (arith, e, ports.pairs.many, started.many)) (serving_first popped_in g.M.MixerCalls.stands s payload_types lanes ps job.mixer ports.pairs (none_popped g.L.LinkIn g.M.MixerCalls.stands job.legs.items lanes started) st made);
      faulted = were.faulted;
      failed = all_failed g.L.LinkIn g.M.MixerCalls.stands job.turns ran.result lanes ps ran.new.ports job.mixer ran.new.mixer ports (none_popped g.L.LinkIn g.M.MixerCalls.stands job.legs.items lanes started) were;
      stopped = ran.ensures.unsent;
      paced = ran.ensures.paced;
      paused = ran.ensures.pauses;
    }

pub live_inlets_of-lanes-requires-clause-room : goal.live_inlets_of-lanes-requires-clause-room
live_inlets_of-lanes-requires-clause-room g c =
    omega (arith, c.requires.joined, c.ports_over-ports.result.ok.0, (ports_begun c.start_lanes-lanes.result.lanes.items c.ports_over-ports.result.items c.ports_over-ports.ensures).pairs.many, c.start_lanes-lanes.ensures.lanes.many, c.args.job.legs.ok.0)

use Rattle.std.proofs.Common.{◌≡◌, [], length, map, refl, ap, sym, subst, ◌∙◌, arith}
use Rattle.std.proofs.lemmas.List.{length-map, with_items_is}
use Rattle.mix_loop.specs.Mixers.{Of}
use Rattle.mix_loop.specs.Turns.{AllFresh, AreSound}
use Rattle.mix_loop.proofs.Ending.{all_fresh, all_mixed, all_sound, ports_many}
use Rattle.mix_loop.proofs.Opening.{inlet_in}
use Rattle.mix_loop.proofs.plain_mix.mix_inlets.Goals as goal

pub mix_ports-mixing-requires-clause-sound : goal.mix_ports-mixing-requires-clause-sound
mix_ports-mixing-requires-clause-sound g c =
    subst (λ ps. AreSound g.I.Inlet.good ps) (sym c.as_mut_slice.ensures.value) (all_sound g.I.Inlet.good c.args.inlets.items c.args.legs.now c.ports_over-ports.result.items c.ports_over-ports.ensures c.requires.good)

pub mix_ports-mixing-requires-clause-few : goal.mix_ports-mixing-requires-clause-few
mix_ports-mixing-requires-clause-few g c =
    let is = ap (λ l. length l) c.as_mut_slice.ensures.value in
    let many = ports_many c.args.inlets.items c.args.legs.now c.ports_over-ports.result.items c.ports_over-ports.ensures in
    omega (arith, is, many, c.requires.few, c.args.inlets.ok.0)

pub mix_ports-mixing-requires-clause-legs : goal.mix_ports-mixing-requires-clause-legs
mix_ports-mixing-requires-clause-legs g c =
    let is = ap (λ l. length l) c.as_mut_slice.ensures.value in
    let many = ports_many c.args.inlets.items c.args.legs.now c.ports_over-ports.result.items c.ports_over-ports.ensures in
    omega (arith, is, many, c.requires.legs, c.args.inlets.ok.0)

pub inlets_of-inlets-requires-clause-room : goal.inlets_of-inlets-requires-clause-room
inlets_of-inlets-requires-clause-room g c =
    let many = ports_many c.args.inlets.items c.args.legs.now c.ports_over-ports.result.items c.ports_over-ports.ensures in
    omega (arith, many, c.requires.room.inlets, c.ports_over-ports.result.ok.0, c.args.inlets.ok.0)

pub returns-clause-inlets : goal.returns-clause-inlets
returns-clause-inlets g c =
    let is = ap (λ l. length l) c.as_mut_slice.ensures.value in
    let many = ports_many c.args.inlets.items c.args.legs.now c.ports_over-ports.result.items c.ports_over-ports.ensures in
    let still = c.mix_ports-mixing.auto.ports in
    let back = with_items_is c.ports_over-ports.result c.mix_ports-mixing.new.ports (omega (arith, still, is, c.ports_over-ports.result.ok.0)) in
    let all = ap (λ l. length l) (c.inlets_of-inlets.ensures ∙ ap (λ l. map inlet_in l) back) in
    let out = length-map c.mix_ports-mixing.new.ports inlet_in in
    omega (arith, is, many, still, all, out, c.inlets_of-inlets.result.ok.0, c.args.inlets.ok.0)

pub returns-clause-mixed : goal.returns-clause-mixed
returns-clause-mixed g c = λ s payload_types none made e stay.
    let ps = c.ports_over-ports.result.items in
    let new = c.ports_over-ports.ensures in
    let fresh = all_fresh g.I.Inlet.stands s c.args.inlets.items c.args.legs.now ps new none stay in
    let is = ap (λ l. length l) c.as_mut_slice.ensures.value in
    let many = ports_many c.args.inlets.items c.args.legs.now ps new in
    let legs : s.legs ≡ length c.as_mut_slice.result.now = omega (arith, e, is, many) in
    let mixed = c.mix_ports-mixing.ensures.mixed s payload_types c.args.inlets.items (subst (λ ps. AllFresh g.I.Inlet.stands s c.args.inlets.items ps) (sym c.as_mut_slice.ensures.value) fresh) (record { calls = []; made = made; leads = refl }) legs in
    let still = c.mix_ports-mixing.auto.ports in
    let back = with_items_is c.ports_over-ports.result c.mix_ports-mixing.new.ports (omega (arith, still, is, c.ports_over-ports.result.ok.0)) in
    all_mixed g.I.Inlet.stands (Of g.M.MixerCalls.stands payload_types) s c.args.inlets.items c.args.tick c.args.turns c.mix_ports-mixing.result c.mix_ports-mixing.new.ports c.mix_ports-mixing.new.mixer mixed (legs ∙ sym still) c.inlets_of-inlets.result.items (c.inlets_of-inlets.ensures ∙ ap (λ l. map inlet_in l) back)

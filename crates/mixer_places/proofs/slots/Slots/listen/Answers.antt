use Rattle.std.proofs.Common.{◌≡◌, ℕ, ◌<◌, Bool, Some, List, length, ap, subst, arith}
use Rattle.std.specs.Prelude.{slice_get}
use Rattle.mixer_places.specs.Lanes.{Waiting}
use Rattle.mixer_places.proofs.Sources.{Heard, Told, told_more, stands_told}
use Rattle.mixer_places.proofs.slots.Slots.listen.Goals as goal
use Rattle.stream_spec.proofs.Plain.{get_read}

pub loop-source-preserved : goal.loop-source-preserved
loop-source-preserved c =
    let items = c.loop-source.self-inside.lanes.items in
    let w = c.index_mut-lane.result.now in
    let v = c.listen.new.self in
    let l : c.loop-source.source < length items =
    omega (arith, c.loop-source-test.true, c.len-source-end.ensures, c.self.inside.lanes.ok.0, ap (λ (xs : List Waiting). length xs) c.self.view_is, c.loop-source.invariant.legs) in
    let g : slice_get items c.loop-source.source ≡ Some w = get_read items c.loop-source.source w l c.index_mut-lane.ensures.value in
    told_more c.args.terminal c.args.on c.loop-source.source c.args.self.now items c.loop-source.invariant w v g
    (subst (λ (b : Bool). Heard c.args.terminal b w v) c.hears-on.ensures (record { parts = c.listen.ensures.terminals; holds = c.listen.ensures.holds }))

pub returns-clause-stands : goal.returns-clause-stands
returns-clause-stands c = λ s table h none.
    let items = c.loop-source.self-inside.lanes.items in
    let all : c.loop-source.source ≡ length c.args.self.now =
    omega (arith, c.loop-source-test.false, c.loop-source.auto.source-end, c.len-source-end.ensures, c.self.inside.lanes.ok.0, ap (λ (xs : List Waiting). length xs) c.self.view_is) in
    stands_told s c.args.self.now items table c.args.terminal c.args.on h (subst (λ (n : ℕ). Told c.args.terminal c.args.on n c.args.self.now items) all c.loop-source.invariant) none

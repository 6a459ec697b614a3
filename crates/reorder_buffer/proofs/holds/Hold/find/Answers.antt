use Rattle.std.proofs.Common.{◌<◌, ◌-◌, get_or, arith}
use Rattle.reorder_buffer.specs.declared.holds.HeldPacket.{HeldPacket}
use Rattle.reorder_buffer.proofs.Places.{is_place, there_held}
use Rattle.reorder_buffer.proofs.holds.Hold.find.Goals as goal
use Rattle.reorder_buffer.proofs.holds.Hold.find.Goals.{else-place-gt0-via-then-place-gt0+else-held-place, else-place-gt0-via-else-place-gt0}

pub returns-then-held-place-clause-refused : goal.returns-then-held-place-clause-refused
returns-then-held-place-clause-refused c =
    let held = there_held c.self.inside.pool.packets c.args.number c.place_of-place.result c.as_slice-held.result.now _ c.if-place-gt0.true c.place_of-place.ensures.within c.if-held-place.true in
    rw (← c.self.view_is) (c.if-number-self.false, c.if-number-self-2.false, rw c.as_slice-held.ensures at held)

pub returns-clause-place : goal.returns-clause-place
returns-clause-place c =
    let xs = c.as_slice-held.result.now in
    let place = c.place_of-place.result in
    let none : HeldPacket = record { number = 0; time = 0; place = 0 } in
    let behind : (0 < place) → (d : HeldPacket) × ((get_or xs (place - 1) d).number < c.args.number) = λ p. (elim c.else-place-gt0.branch [
      | else-place-gt0-via-then-place-gt0+else-held-place w ↦ let l = c.place_of-place.ensures.behind none p in (none, omega (arith, l, w.if-held-place.false))
      | else-place-gt0-via-else-place-gt0 w ↦ absurd (omega arith)
    ]) in
    let r = is_place c.self.inside.pool.packets c.args.number place xs c.place_of-place.ensures.within (c.place_of-place.ensures.above c.self.inside.pool.packets) behind in
    rw (← c.self.view_is) (rw c.as_slice-held.ensures at r)

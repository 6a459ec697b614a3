use Rattle.std.proofs.Common.{◌≡◌, ◌≤◌, [], length, max, ap, sym, subst, ◌∙◌}
use Rattle.reorder_buffer.specs.States.{State, with_packet, put_current, settled_first}
use Rattle.reorder_buffer.specs.Pools.{current_packet}
use Rattle.reorder_buffer.proofs.Apart.{once_state, once_sound}
use Rattle.reorder_buffer.proofs.holds.Hold.settle_at_once.Goals as goal

pub invariant_of-self : goal.invariant_of-self
invariant_of-self c =
    let r = c.give_away-place.ensures in
    let room = subst (λ (s : State). length s.settled ≤ 64) (sym c.self.view_is) c.requires.room in
    let none = subst (λ (s : State). s.held ≡ []) (sym c.self.view_is) c.requires.none in
    rw (c.push.ensures, r.place) (once_sound c.self.inside c.give_away-place.new.self c.args.number _ c.self.invariant r.renewed room none)

pub returns : goal.returns
returns c =
    let r = c.give_away-place.ensures in
    let q = c.give_away-place.new.self in
    rw (c.push.ensures, r.place, c.max-ready.ensures) (once_state c.self.inside q c.args.number (max c.self.inside.latest c.self.inside.moment) c.self.invariant.apart r.renewed
    ∙ ap (λ (s : State). with_packet (settled_first (put_current s 0 c.args.number) (max s.latest s.moment)) (current_packet q)) c.self.view_is)

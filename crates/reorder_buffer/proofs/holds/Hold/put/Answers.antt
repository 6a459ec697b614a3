use Rattle.std.proofs.Common.{◌+◌, ◌<◌, ◌≤◌, length, ap, sym, subst, ◌∙◌}
use Rattle.reorder_buffer.specs.States.{State, with_packet, put_current}
use Rattle.reorder_buffer.specs.Pools.{current_packet}
use Rattle.reorder_buffer.proofs.Apart.{put_state, put_sound}
use Rattle.reorder_buffer.proofs.holds.Hold.put.Goals as goal

pub invariant_of-self : goal.invariant_of-self
invariant_of-self c =
    let r = c.give_away-place.ensures in
    let room = subst (λ (s : State). length s.settled + length s.held ≤ 64) (sym c.self.view_is) c.requires.room in
    let came = subst (λ (s : State). 0 < s.arrivals) (sym c.self.view_is) c.requires.counted in
    rw (c.insert.ensures, r.place) (put_sound c.self.inside c.give_away-place.new.self c.args.at c.args.number c.self.invariant r.renewed room came c.requires.number)

pub returns : goal.returns
returns c =
    let r = c.give_away-place.ensures in
    let q = c.give_away-place.new.self in
    rw (c.insert.ensures, r.place) (put_state c.self.inside q c.args.at c.args.number c.self.invariant.apart r.renewed ∙ ap (λ (s : State). with_packet (put_current s c.args.at c.args.number) (current_packet q)) c.self.view_is)

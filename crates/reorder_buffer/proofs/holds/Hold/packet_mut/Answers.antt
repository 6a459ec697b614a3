use Rattle.std.proofs.Common.{refl, ap, ◌∙◌}
use Rattle.reorder_buffer.specs.States.{State, with_packet}
use Rattle.reorder_buffer.proofs.Apart.{current_within, written_state, written_sound}
use Rattle.reorder_buffer.proofs.holds.Hold.packet_mut.Goals as goal

pub packet_mut-requires : goal.packet_mut-requires
packet_mut-requires c = current_within c.self.inside c.self.invariant.apart

pub invariant_of-self-lent : goal.invariant_of-self-lent
invariant_of-self-lent c w = written_sound c.self.inside w c.self.invariant

pub returns : goal.returns
returns c = (
  (refl, λ w. written_state c.self.inside w c.self.invariant.apart ∙ ap (λ (s : State). with_packet s w) c.self.view_is),
  record { writes_back = tt; value = c.packet_mut.ensures.value ∙ ap (λ (s : State). s.current) c.self.view_is },
)

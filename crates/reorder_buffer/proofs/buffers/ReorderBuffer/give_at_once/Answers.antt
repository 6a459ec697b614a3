use Rattle.std.proofs.Common.{◌≡◌, ap, ◌∙◌}
use Rattle.reorder_buffer.specs.States.{State, ready_at_once, given_at_once}
use Rattle.reorder_buffer.proofs.AtOnce.{gives_at_once}
use Rattle.reorder_buffer.proofs.Giving.{all_given}
use Rattle.reorder_buffer.proofs.buffers.ReorderBuffer.give_at_once.Goals as goal

pub returns-clause-stands : goal.returns-clause-stands
returns-clause-stands c p is story k =
    let now = c.args.now in
    let new : c.give_at_once.new.self ≡ given_at_once c.args.self.now now c.args.number = c.give_at_once.ensures.state ∙ ap (λ (s : State). given_at_once s now c.args.number) c.self.view_is in
    let ready : c.give_at_once.result ≡ ready_at_once c.args.self.now now = c.give_at_once.ensures.ready ∙ ap (λ (s : State). ready_at_once s now) c.self.view_is in
    rw (new, ready) (gives_at_once c.args.self.now now c.args.number p c.requires.next is story k)

pub returns-clause-all : goal.returns-clause-all
returns-clause-all c story k =
    let none = c.give_at_once.ensures.state ∙ ap (λ (s : State). given_at_once s c.args.now c.args.number) c.self.view_is in
    all_given c.give_at_once.new.self story (ap (λ (s : State). s.settled) none ∙ c.requires.next.none_settled) k

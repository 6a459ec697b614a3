use Rattle.std.proofs.Common.{subst, sym}
use Rattle.reorder_buffer.specs.States.{State}
use Rattle.reorder_buffer.specs.Insides.{state_of}
use Rattle.reorder_buffer.specs.Stories.{ended}
use Rattle.reorder_buffer.specs.Tracks.{Tracks}
use Rattle.reorder_buffer.proofs.Giving.{end_follows, end_all}
use Rattle.reorder_buffer.proofs.holds.Hold.finish.Goals as goal

pub returns-clause-stands : goal.returns-clause-stands
returns-clause-stands c story k = record {
  follows = c.advance.ensures.stands (ended story) (end_follows (state_of c.self.inside) story (subst (λ (s : State). Tracks s story) (sym c.self.view_is) k));
  still = c.advance.ensures.still;
}

pub returns-clause-all : goal.returns-clause-all
returns-clause-all c story k = end_all c.args.self.now c.advance.new.self story k (record {
  follows = c.advance.ensures.stands (ended story) (end_follows (state_of c.self.inside) story (subst (λ (s : State). Tracks s story) (sym c.self.view_is) k));
  still = c.advance.ensures.still;
})

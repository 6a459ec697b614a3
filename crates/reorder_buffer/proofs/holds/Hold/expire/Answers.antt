use Rattle.std.proofs.Common.{subst, sym}
use Rattle.reorder_buffer.specs.States.{State}
use Rattle.reorder_buffer.specs.Stories.{went}
use Rattle.reorder_buffer.specs.Tracks.{Follows}
use Rattle.reorder_buffer.proofs.Steps.{pass_follows}
use Rattle.reorder_buffer.proofs.holds.Hold.expire.Goals as goal

pub returns-clause-stands : goal.returns-clause-stands
returns-clause-stands c story k = record {
  follows = c.advance.ensures.stands (went story c.args.now) (subst (λ (s : State). Follows s (went story c.args.now)) (sym c.pass.ensures) (pass_follows c.args.self.now story c.args.now k));
  still = c.advance.ensures.still;
}

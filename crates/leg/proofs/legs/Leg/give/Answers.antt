use Rattle.std.proofs.Common.{refl, ◌∙◌, arith}
use Rattle.std.proofs.Math.Logic.{∥∥₁_map}
use Rattle.stream_spec.specs.Ready.{chunk_of}
use Rattle.leg.proofs.Stepping.{still_giving, rests_giving, gives_chunk, gives_none}
use Rattle.leg.proofs.legs.Leg.give.Goals as goal

pub invariant_of-self : goal.invariant_of-self
invariant_of-self g c = record {
  giving = ∥∥₁_map c.args.self.now.giving (still_giving c.args.self.now.ear c.next.new.self (chunk_of c.next.new.chunk) (c.next.ensures.some c.if-next.true));
  few = omega (arith, c.next.ensures.arrivals, c.args.self.now.few);
  open_still = λ o. c.next.ensures.finished ∙ c.args.self.now.open_still o;
}

pub invariant_of-self-then-ended : goal.invariant_of-self-then-ended
invariant_of-self-then-ended g c = record {
  giving = ∥∥₁_map c.args.self.now.giving (rests_giving c.args.self.now.ear c.next.new.self (c.next.ensures.none c.if-next.false));
  few = omega (arith, c.next.ensures.arrivals, c.args.self.now.few);
  open_still = λ o. c.next.ensures.finished ∙ c.args.self.now.open_still o;
}

pub invariant_of-self-else-ended : goal.invariant_of-self-else-ended
invariant_of-self-else-ended g c = record {
  giving = ∥∥₁_map c.args.self.now.giving (rests_giving c.args.self.now.ear c.next.new.self (c.next.ensures.none c.if-next.false));
  few = omega (arith, c.next.ensures.arrivals, c.args.self.now.few);
  open_still = λ o. c.next.ensures.finished ∙ c.args.self.now.open_still o;
}

pub returns-then-next-clause-steps : goal.returns-then-next-clause-steps
returns-then-next-clause-steps g c = gives_chunk g.S.Source.left c.args.self.now _ (chunk_of c.next.new.chunk) refl (c.next.ensures.some c.if-next.true)

pub returns-clause-steps : goal.returns-clause-steps
returns-clause-steps g c = gives_none g.S.Source.left c.args.self.now _ refl (c.next.ensures.none c.if-next.false)

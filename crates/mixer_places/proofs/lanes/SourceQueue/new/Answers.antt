use Rattle.std.proofs.Common.{[]}
use Rattle.mixer_spec.specs.Table.{is_given}
use Rattle.mixer_places.specs.Words.{all_listen}
use Rattle.mixer_places.proofs.Starting.{new_holds}
use Rattle.mixer_places.proofs.lanes.SourceQueue.new.Goals as goal

pub invariant_of-result : goal.invariant_of-result
invariant_of-result c = record {
  taken = [];
  listens = is_given all_listen.seats c.args.own;
  waits = λ j. [];
  holds = new_holds c.args.own c.in_ok-ring.ring c.in_ok-parts.parts.items c.in_ok-ring.ensures c.in_ok-parts.ensures.parts;
  utf8 = tt;
}

pub returns-clause-holds : goal.returns-clause-holds
returns-clause-holds c = new_holds c.args.own c.in_ok-ring.ring c.in_ok-parts.parts.items c.in_ok-ring.ensures c.in_ok-parts.ensures.parts

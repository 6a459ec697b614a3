use Rattle.std.proofs.Common.{length, rules}
use Rattle.std.proofs.lemmas.List.Sorted.{All-permutation}
use Rattle.playback.specs.Arriving.{IsOfFirst}
use Rattle.playback.proofs.Order.{sorted_arrives}
use Rattle.playback.proofs.copies.arrivals.Goals as goal

pub returns-clause-exact : goal.returns-clause-exact
returns-clause-exact c =
    sorted_arrives c.args.plan.now c.args.terminal c.args.sent.now c.in_ok-copies.copies.items c.sort.new.self.items
    (c.in_ok-copies.ensures.copies c.args.plan.now c.args.terminal (search rules)) c.sort.ensures.permutation c.in_ok-sort.ensures.sorted

pub returns-clause-sent : goal.returns-clause-sent
returns-clause-sent c = All-permutation (IsOfFirst (length c.args.sent.now)) _ _ c.sort.ensures.permutation c.in_ok-copies.ensures.sent

use Rattle.std.proofs.Common.{subst}
use Rattle.std.proofs.NetLemmas.Theorems.{IsSocketText_unique}
use Rattle.link_io.specs.Peers.{IsOfPeer}
use Rattle.link_io.proofs.peers.peer_of.Goals as goal

pub returns-then-not-is_of_peer-clause-none : goal.returns-then-not-is_of_peer-clause-none
returns-then-not-is_of_peer-clause-none c = λ address names.
    let same = IsSocketText_unique c.args.to.now address c.in-Ok.address names.0 c.in-Ok.ensures.value in
    let is = c.is_of_peer.ensures.1 (subst IsOfPeer same names.1) in
    let not = c.if-not-is_of_peer.true in
    cc

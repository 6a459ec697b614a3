use Rattle.std.proofs.Math.Logic.{∥∥₁_map}
use Rattle.reorder_buffer.specs.Stories.{ended, went}
use Rattle.live_leg.proofs.Ears.{becomes_giving}
use Rattle.live_leg.proofs.Taking.{follows_closed, follows_datagram, follows_large, follows_quiet}
use Rattle.live_leg.proofs.Tallying.{counts_closed, counts_datagram, counts_large, counts_quiet}
use Rattle.live_leg.proofs.takes.hear_taken.Goals as goal

pub returns-in-Datagram-clause-hears : goal.returns-in-Datagram-clause-hears
returns-in-Datagram-clause-hears c =
    follows_datagram c.args.ear.now c.hear_sent.new.ear c.args.senders.now c.meet-sent.new.self c.args.taken c.args.octets.now c.meet-sent.result c.hear_sent.result
    c.in-Datagram.is c.meet-sent.ensures c.hear_sent.ensures.hears c.hear_sent.ensures.state

pub returns-in-Large-clause-hears : goal.returns-in-Large-clause-hears
returns-in-Large-clause-hears c =
    follows_large c.args.ear.now c.expire.new.self c.args.senders.now c.pass.new.self c.args.taken c.args.octets.now c.in-Large.is c.pass.ensures c.expire.ensures.becomes c.expire.ensures.settings

pub returns-in-Large-clause-giving : goal.returns-in-Large-clause-giving
returns-in-Large-clause-giving c =
    ∥∥₁_map c.requires.giving (becomes_giving c.args.ear.now c.expire.new.self (λ settings story. went story c.args.taken.at) c.expire.ensures.becomes)

pub returns-in-Quiet-clause-hears : goal.returns-in-Quiet-clause-hears
returns-in-Quiet-clause-hears c =
    follows_quiet c.args.ear.now c.expire-in-Quiet.new.self c.args.senders.now c.pass-in-Quiet.new.self c.args.taken c.args.octets.now c.in-Quiet.is c.pass-in-Quiet.ensures c.expire-in-Quiet.ensures.becomes c.expire-in-Quiet.ensures.settings

pub returns-in-Quiet-clause-giving : goal.returns-in-Quiet-clause-giving
returns-in-Quiet-clause-giving c =
    ∥∥₁_map c.requires.giving (becomes_giving c.args.ear.now c.expire-in-Quiet.new.self (λ settings story. went story c.args.taken.at) c.expire-in-Quiet.ensures.becomes)

pub returns-in-Closed-clause-hears : goal.returns-in-Closed-clause-hears
returns-in-Closed-clause-hears c =
    follows_closed c.args.ear.now c.finish.new.self c.args.senders.now c.args.taken c.args.octets.now c.in-Closed.is c.finish.ensures.becomes c.finish.ensures.all c.finish.ensures.settings

pub returns-in-Closed-clause-giving : goal.returns-in-Closed-clause-giving
returns-in-Closed-clause-giving c =
    ∥∥₁_map c.requires.giving (becomes_giving c.args.ear.now c.finish.new.self (λ settings story. ended story) c.finish.ensures.becomes)

pub returns-in-Datagram-clause-counts : goal.returns-in-Datagram-clause-counts
returns-in-Datagram-clause-counts c =
    counts_datagram c.args.senders.now c.meet-sent.new.self c.args.tally.now c.count.new.self c.args.taken c.args.octets.now c.meet-sent.result c.in-Datagram.is c.meet-sent.ensures c.count.ensures

pub returns-in-Large-clause-counts : goal.returns-in-Large-clause-counts
returns-in-Large-clause-counts c = counts_large c.args.senders.now c.args.tally.now c.refuse.new.self c.args.taken c.args.octets.now c.in-Large.is c.refuse.ensures

pub returns-in-Quiet-clause-counts : goal.returns-in-Quiet-clause-counts
returns-in-Quiet-clause-counts c = counts_quiet c.args.senders.now c.args.tally.now c.args.taken c.args.octets.now c.in-Quiet.is

pub returns-in-Closed-clause-counts : goal.returns-in-Closed-clause-counts
returns-in-Closed-clause-counts c = counts_closed c.args.senders.now c.args.tally.now c.args.taken c.args.octets.now c.in-Closed.is

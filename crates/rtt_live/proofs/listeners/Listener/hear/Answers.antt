use Rattle.std.proofs.Common.{ap, arith}
use Rattle.view_spec.specs.declared.counts.Counts.{Counts}
use Rattle.rtt_live.proofs.Hearing.{after_arrival}
use Rattle.rtt_live.proofs.listeners.Listener.hear.Goals as goal

pub invariant_of-self : goal.invariant_of-self
invariant_of-self c =
    let a = c.arrive.ensures in
    after_arrival c.arrive.result c.self.inside.terminal c.arrive.new.self c.self.inside.settings c.self.inside.sources.items c.args.packet.now
    c.self.invariant (omega (arith, c.if-counts.false, ap (λ (n : Counts). n.packets) c.counts.ensures)) a.packets a.listens a.whole a.spent

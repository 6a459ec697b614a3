use Rattle.std.proofs.Common.{ℕ, sym, subst}
use Rattle.rtpdump_io.specs.declared.items.DumpItem.{DumpItem}
use Rattle.rtpdump_io.specs.Answers.{record_of}
use Rattle.cascade.specs.Dividers.{Takes}
use Rattle.cascade.specs.Splits.{TakesItem}
use Rattle.cascade.proofs.splits.hear_record.Goals as goal
use Rattle.wire_spec.proofs.Plain.{on_ok}

pub returns-in-Packet-clause-takes : goal.returns-in-Packet-clause-takes
returns-in-Packet-clause-takes c = on_ok c.hear.result c.hear.ensures.takes (λ k.
    subst (λ (i : DumpItem). TakesItem c.args.divider.now c.hear.new.self (record_of i c.args.octets.now)) (sym c.in-Packet.is)
    (subst (λ (n : ℕ). Takes c.args.divider.now c.hear.new.self n c.args.octets.now) c.from.ensures k))

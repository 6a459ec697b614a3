use Rattle.std.proofs.Common.{ℕ, Some, sym, subst}
use Rattle.rtpdump_io.specs.declared.items.DumpItem.{DumpItem}
use Rattle.receiver.specs.Hears.{Becomes, told, text_for}
use Rattle.leg.specs.Items.{after_item}
use Rattle.leg.proofs.records.hear_item.Goals as goal

pub returns-in-Packet-clause-becomes : goal.returns-in-Packet-clause-becomes
returns-in-Packet-clause-becomes c =
    let P : DumpItem → Type 0 = λ i. Becomes c.args.ear.now c.hear-refused.new.self (λ settings story. after_item settings story i c.args.octets.now) in
    let Q : ℕ → Type 0 = λ n. Becomes c.args.ear.now c.hear-refused.new.self (λ settings story. told story n (text_for settings c.args.octets.now)) in
    subst P (sym c.in-Packet.is) (subst Q c.from.ensures c.hear-refused.ensures.becomes)

pub returns-in-End-clause-becomes : goal.returns-in-End-clause-becomes
returns-in-End-clause-becomes c =
    let P : DumpItem → Type 0 = λ i. Becomes c.args.ear.now c.finish.new.self (λ settings story. after_item settings story i c.args.octets.now) in
    subst P (sym c.in-End.is) c.finish.ensures.becomes

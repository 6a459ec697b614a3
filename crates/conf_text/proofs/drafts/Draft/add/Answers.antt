use Rattle.std.proofs.Common.{length, ap, arith}
use Rattle.file_spec.specs.Conference.{with_follow, with_generations, with_long, with_stay}
use Rattle.file_spec.proofs.KeptLines.{length-change}
use Rattle.conf_text.proofs.drafts.Draft.add.Goals as goal

pub invariant_of-self-in-Generations : goal.invariant_of-self-in-Generations
invariant_of-self-in-Generations c =
    let n = ap length c.set_generations.ensures in
    let few = c.args.self.now.seats in
    record { seats = omega (arith, length-change (with_generations c.in-Generations.line.generations) c.from.result c.args.self.now.legs) }

pub invariant_of-self-in-Stays : goal.invariant_of-self-in-Stays
invariant_of-self-in-Stays c =
    let n = ap length c.set_stay.ensures in
    let few = c.args.self.now.seats in
    record { seats = omega (arith, length-change (with_stay c.in-Stays.line.stay) c.from-in-Stays.result c.args.self.now.legs) }

pub invariant_of-self-in-Follows : goal.invariant_of-self-in-Follows
invariant_of-self-in-Follows c =
    let n = ap length c.set_follow.ensures in
    let few = c.args.self.now.seats in
    record { seats = omega (arith, length-change with_follow c.from-in-Follows.result c.args.self.now.legs) }

pub invariant_of-self-in-Longs : goal.invariant_of-self-in-Longs
invariant_of-self-in-Longs c =
    let n = ap length c.set_long.ensures in
    let few = c.args.self.now.seats in
    record { seats = omega (arith, length-change with_long c.from-in-Longs.result c.args.self.now.legs) }

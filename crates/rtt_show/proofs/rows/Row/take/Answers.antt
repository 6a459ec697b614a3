use Rattle.std.proofs.Common.{◌≡◌, ◌+◌, ◌%◌, ◌<◌, ◌^◌, arith, refl}
use Rattle.std.specs.Prelude.{min, max}
use Rattle.rtt_show.proofs.Rowing.{rows_more_by}
use Rattle.rtt_show.proofs.rows.Row.take.Goals as goal

pub returns : goal.returns
returns c =
    let begin = c.begin_of-begin.result in
    let source : c.args.origin.source ≡ begin.source = omega arith in
    let seq : c.args.origin.seq ≡ (begin.seq + c.args.self.now.packets) % 65536 = omega arith in
    let small : begin.seq < 2 ^ 16 = omega arith in
    let from : c.min.result ≡ min c.args.self.now.from c.args.at = omega arith in
    let to : c.max.result ≡ max c.args.self.now.to c.args.at = omega arith in
    λ _. rows_more_by c.args.self.now _ c.args.at c.args.origin begin c.min.result c.max.result c.begin_of-begin.ensures source seq small from to refl

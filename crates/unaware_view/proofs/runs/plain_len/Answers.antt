use Rattle.std.proofs.Common.{arith}
use Rattle.std.proofs.lemmas.List.Elements.{All-more}
use Rattle.unaware_view.specs.Runs.{IsPlain}
use Rattle.unaware_view.proofs.runs.plain_len.Goals as goal

pub loop-len-preserved : goal.loop-len-preserved
loop-len-preserved c = record {
  fits = let t = c.loop-len-test.true in omega (arith, t);
  plain = All-more IsPlain c.args.octets.now c.loop-len.len 0 c.loop-len-test.true c.loop-len.invariant.plain c.if-is_plain.ensures;
}

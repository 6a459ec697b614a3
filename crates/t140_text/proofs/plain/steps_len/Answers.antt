use Rattle.std.proofs.Common.{◌≡◌, ℕ, ◌+◌, ◌-◌, take, drop, All, subst, arith}
use Rattle.t140_text.specs.Screens.{IsPlain}
use Rattle.t140_text.proofs.Runs.{plain_more}
use Rattle.t140_text.proofs.plain.steps_len.Goals as goal

pub loop-len-preserved : goal.loop-len-preserved
loop-len-preserved c = record {
  fits = let t = c.loop-len-test.true in omega (arith, t, c.loop-len.invariant.fits);
  plain = plain_more c.loop-len.len 32 c.args.octets.now c.loop-len.invariant.fits c.loop-len.invariant.plain (subst (λ (k : ℕ). All IsPlain (take k (drop c.loop-len.len c.args.octets.now))) (let e : (c.loop-len.len + 32) - c.loop-len.len ≡ 32 = omega arith in e) c.if-are_plain.ensures);
}

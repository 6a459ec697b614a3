use Rattle.std.proofs.Common.{◌<◌, length, arith, rules}
use Rattle.script_text.proofs.Digits.{value_small, one_more, digit_more}
use Rattle.script_text.proofs.numerals.digits_in_front.Goals as goal

pub overflow_mul-value : goal.overflow_mul-value
overflow_mul-value c =
    let i = c.loop-len.invariant in
    omega (arith, value_small c.args.text.now c.loop-len.len c.loop-len.value (omega (arith, c.loop-len-test.true)) (omega (arith, c.loop-len-test.true)) i.digits i.value)

pub overflow_add-value : goal.overflow_add-value
overflow_add-value c =
    let i = c.loop-len.invariant in
    omega (arith, c.value_of_digit.ensures.small, value_small c.args.text.now c.loop-len.len c.loop-len.value (omega (arith, c.loop-len-test.true)) (omega (arith, c.loop-len-test.true)) i.digits i.value)

pub loop-len-preserved : goal.loop-len-preserved
loop-len-preserved c =
    let i = c.loop-len.invariant in
    let below : c.loop-len.len < length c.args.text.now = omega (arith, c.loop-len-test.true) in
    record {
      value = one_more c.args.text.now c.loop-len.len c.loop-len.value c.value_of_digit.result below i.value c.value_of_digit.ensures.value;
      digits = digit_more c.args.text.now c.loop-len.len below i.digits (search rules);
    }

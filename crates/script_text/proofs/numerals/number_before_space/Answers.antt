use Rattle.std.proofs.Common.{◌<◌, length, arith, rules, sym}
use Rattle.std.proofs.lemmas.List.{take_rest}
use Rattle.script_text.proofs.Digits.{no_rest, no_rest_further, rest_is, number_is, number_over}
use Rattle.script_text.proofs.numerals.number_before_space.Goals as goal

pub returns-then-digits-text-clause-exact : goal.returns-then-digits-text-clause-exact
returns-then-digits-text-clause-exact c = sym (no_rest c.args.most c.args.text.now c.digits_in_front-digits.result c.digits_in_front-digits.ensures (omega arith))

pub returns-then-text-digits-ne32-clause-exact : goal.returns-then-text-digits-ne32-clause-exact
returns-then-text-digits-ne32-clause-exact c = sym (no_rest_further c.args.most c.args.text.now c.digits_in_front-digits.result c.digits_in_front-digits.ensures (search rules))

pub returns-then-digits-from-clause-exact : goal.returns-then-digits-from-clause-exact
returns-then-digits-from-clause-exact c =
    let d = c.digits_in_front-digits.result in
    let a = c.digits_in_front-digits.ensures in
    let within : d.len < length c.args.text.now = omega (arith, a.within) in
    sym (rest_is c.args.most c.args.text.now d _ a within (search rules) (number_over c.args.most c.args.text.now d a (omega arith) (omega arith)))

pub returns-clause-exact : goal.returns-clause-exact
returns-clause-exact c =
    let d = c.digits_in_front-digits.result in
    let a = c.digits_in_front-digits.ensures in
    let within : d.len < length c.args.text.now = omega (arith, a.within) in
    rw take_rest (sym (rest_is c.args.most c.args.text.now d _ a within (search rules) (number_is c.args.most c.args.text.now d a (omega arith) (omega arith))))

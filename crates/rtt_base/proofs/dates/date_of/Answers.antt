use Rattle.std.proofs.Common.{◌≤◌, ◌<◌, refl, arith}
use Rattle.rtt_base.specs.Dates.{date_of}
use Rattle.rtt_base.proofs.Walking.{to_next_year, to_next_month, in_month}
use Rattle.rtt_base.proofs.dates.date_of.Goals as goal

pub loop-rest-init : goal.loop-rest-init
unfolding date_of
loop-rest-init c = record { far = refl; month = omega arith; small = omega arith }

pub loop-rest-preserved-then-month-eq12 : goal.loop-rest-preserved-then-month-eq12
loop-rest-preserved-then-month-eq12 c =
    let i = c.loop-rest.invariant in
    let len = c.month_length-rest.result in
    let e = c.month_length-rest.ensures.length in
    let enough : len ≤ c.loop-rest.rest = omega (arith, e, c.month_length.ensures.length, c.loop-rest-test.true) in
    record {
      far = to_next_year c.loop-rest.rest c.loop-rest.year c.loop-rest.month len c.args.days e enough c.if-month-eq12.true i.far;
      month = omega arith;
      small = omega (arith, i.small, enough, c.month_length-rest.ensures.some);
    }

pub loop-rest-preserved : goal.loop-rest-preserved
loop-rest-preserved c =
    let i = c.loop-rest.invariant in
    let len = c.month_length-rest.result in
    let e = c.month_length-rest.ensures.length in
    let enough : len ≤ c.loop-rest.rest = omega (arith, e, c.month_length.ensures.length, c.loop-rest-test.true) in
    record {
      far = to_next_month c.loop-rest.rest c.loop-rest.year c.loop-rest.month len c.args.days e enough c.if-month-eq12.false i.far;
      month = omega (arith, i.month, c.if-month-eq12.false);
      small = omega (arith, i.small, enough);
    }

pub returns : goal.returns
returns c =
    let less : c.loop-rest.rest < c.month_length.result = omega (arith, c.loop-rest-test.false) in
    in_month c.loop-rest.rest c.loop-rest.year c.loop-rest.month c.month_length.result c.args.days c.month_length.ensures.length less c.loop-rest.invariant.far

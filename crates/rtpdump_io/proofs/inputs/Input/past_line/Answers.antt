use Rattle.std.proofs.Common.{◌∙◌, ap, arith, Ok}
use Rattle.rtpdump_io.proofs.Lines.{line_found, line_on, line_none, one_more}
use Rattle.rtpdump_io.proofs.inputs.Input.past_line.Goals as goal

pub returns-in-Some-eq10-clause-line : goal.returns-in-Some-eq10-clause-line
returns-in-Some-eq10-clause-line g c = λ t.
    line_found _ _ _ _ _ _ c.in-Some-eq10.field-0 c.loop-place-test.true (c.loop-place.invariant.line t) (c.in_ok-octet.ensures.given t) c.in-Some-eq10.is c.in-Some-eq10.field-0-test

pub returns-in-None-clause-line : goal.returns-in-None-clause-line
returns-in-None-clause-line g c = λ t.
    line_none _ _ _ _ _ _ (c.loop-place.invariant.line t) (c.in_ok-octet.ensures.given t) c.in-None.is (c.in_ok-octet.ensures.ended t (ap Ok c.in-None.is))

pub loop-place-preserved : goal.loop-place-preserved
loop-place-preserved g c =
    let kept = c.loop-place.invariant in
    let read = c.in_ok-octet.ensures in
    record {
      never_falls = omega (arith, kept.never_falls, read.counts.0);
      calm = read.counts.2 ∙ kept.calm;
      same_name = read.counts.3 ∙ kept.same_name;
      line = λ t. line_on _ _ _ _ _ _ c.in-Some.field-0 c.loop-place-test.true (kept.line t) (read.given t) c.in-Some.is c.in-Some.field-0-test.1;
      number = λ t. kept.number t ∙ one_more _ _ _ _ _ (read.given t) c.in-Some.is;
    }

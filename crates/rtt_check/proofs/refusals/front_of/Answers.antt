use Rattle.std.proofs.Common.{◌≤◌, length, sym, arith}
use Rattle.std.proofs.lemmas.Bool.Decides.{nat_tests}
use Rattle.std.proofs.lemmas.List.{length-take-le, take_all}
use Rattle.report_spec.specs.declared.limits.TheConstants.{MOST_SHOWN_OCTETS}
use Rattle.rtt_check.proofs.refusals.front_of.Goals as goal

pub slice_bounds-result-end : goal.slice_bounds-result-end
slice_bounds-result-end c =
    let is : 100 ≤ length c.args.line.now = grind (arith, nat_tests, c.if-line-gt-MOST_SHOWN_OCTETS.true) in
    sym (length-take-le 100 c.args.line.now is)

pub returns-else-line-gt-MOST_SHOWN_OCTETS : goal.returns-else-line-gt-MOST_SHOWN_OCTETS
returns-else-line-gt-MOST_SHOWN_OCTETS c =
    let is : length c.args.line.now ≤ MOST_SHOWN_OCTETS = grind (arith, nat_tests, c.if-line-gt-MOST_SHOWN_OCTETS.false) in
    sym (take_all MOST_SHOWN_OCTETS c.args.line.now is)

use Rattle.std.proofs.Common.{◌≡◌, ◌++◌, map}
use Rattle.view_spec.specs.Views.{printed_lines}
use Rattle.t140_text.proofs.views.append_lines.Given as goal

abbrev pub invariant-loop-line : goal.invariant-loop-line
invariant-loop-line l = l.out ≡ l.fn.out ++ printed_lines (l.name ++ l.sign) (map (λ line. line.now) l.yielded)

use Rattle.std.proofs.Common.{◌≡◌, drop}
use Rattle.unaware_view.specs.Runs.{pushed_all}
use Rattle.unaware_view.proofs.runs.push_octets.Given as goal

abbrev pub invariant-loop-octet : goal.invariant-loop-octet
invariant-loop-octet l = pushed_all l.ending (drop l.octet-index l.octet-items) ≡ pushed_all l.fn.ending l.octet-items

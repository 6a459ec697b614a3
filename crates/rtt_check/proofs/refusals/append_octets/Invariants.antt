use Rattle.std.proofs.Common.{◌≡◌, ◌++◌, map, take}
use Rattle.report_spec.specs.Checking.{shown_octet}
use Rattle.rtt_check.proofs.refusals.append_octets.Given as goal

abbrev pub invariant-loop-octet : goal.invariant-loop-octet
invariant-loop-octet l = l.text ≡ l.fn.text ++ map shown_octet (take l.octet-index l.octets)

use Rattle.std.proofs.Common.{◌≡◌, take}
use Rattle.file_spec.proofs.names.name_of.Given as goal

abbrev pub invariant-loop-octet : goal.invariant-loop-octet
invariant-loop-octet l = (l.octet-items ≡ l.text) × (l.name ≡ take l.octet-index l.text)

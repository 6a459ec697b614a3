use Rattle.std.proofs.Common.{◌≡◌, true, take}
use Rattle.std.specs.List.{list_all}
use Rattle.file_spec.specs.Conference.{is_name_octet}
use Rattle.command_spec.specs.Attending.{as_name}
use Rattle.rtt_attend.proofs.leg_changes.name_from.Given as goal

abbrev pub invariant-loop-octet : goal.invariant-loop-octet
invariant-loop-octet l = record {
  items : l.octet-items ≡ l.text;
  name : l.name ≡ as_name (take l.octet-index l.text);
  all : list_all is_name_octet l.name ≡ true;
}

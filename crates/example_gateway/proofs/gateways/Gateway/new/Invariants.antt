use Rattle.std.proofs.Common.{◌≡◌, length, take}
use Rattle.file_spec.specs.Conferences.{meaning_of}
use Rattle.mixer.specs.Making.{source_counts}
use Rattle.mixer.specs.States.{legs_of, sources_of}
use Rattle.example_gateway.specs.Outputs.{counts_of}
use Rattle.example_gateway.proofs.gateways.Gateway.new.Given as goal

abbrev pub invariant-loop-leg : goal.invariant-loop-leg
invariant-loop-leg l = record {
  legs : legs_of l.mixer ≡ length l.conference.legs;
  turns : l.mixer.turns ≡ 0;
  sources : sources_of l.mixer ≡ source_counts (meaning_of l.conference);
  heard : length l.legs.items ≡ l.leg;
  written : counts_of l.outputs.items ≡ take l.leg (source_counts (meaning_of l.conference));
}

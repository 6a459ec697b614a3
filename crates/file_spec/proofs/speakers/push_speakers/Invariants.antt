use Rattle.std.proofs.Common.{◌≡◌, ◌++◌, take}
use Rattle.std.specs.Prelude.{map}
use Rattle.file_spec.proofs.speakers.push_speakers.Given as goal

abbrev pub invariant-loop-leg : goal.invariant-loop-leg
invariant-loop-leg l = record {
  told : l.sources.items ≡ l.fn.sources.items ++ map (λ x. x.ssrc) (take l.leg-index l.legs);
  called : l.names.items ≡ l.fn.names.items ++ map (λ x. x.name) (take l.leg-index l.legs);
}

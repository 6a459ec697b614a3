use Rattle.std.proofs.Common.{◌++◌, refl, ap, ◌∙◌}
use Rattle.wire_spec.specs.Dump.{dump_opening}
use Rattle.cascade.proofs.Splitting.{splits_none}
use Rattle.cascade.proofs.splitters.SourceRecording.new.Goals as goal

pub returns : goal.returns
returns c = record { splits = splits_none _ c.args.payload_types c.args.source refl refl (c.in_ok-write_opening.ensures.ok ∙ ap (λ o. o ++ dump_opening) c.new-octets.ensures) refl refl refl }

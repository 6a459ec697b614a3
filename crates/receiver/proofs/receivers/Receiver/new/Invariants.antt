use Rattle.std.proofs.Common.{◌≡◌, None, take}
use Rattle.std.specs.Prelude.{map}
use Rattle.stream_spec.specs.Lists.{In}
use Rattle.receiver.specs.declared.receivers.ListedSource.{ListedSource}
use Rattle.receiver.proofs.receivers.Receiver.new.Given as goal

abbrev pub invariant-loop-source : goal.invariant-loop-source
invariant-loop-source l = (map (λ x. x.source) l.listed.items ≡ take l.source-index l.sources) × ((x : ListedSource) → In x l.listed.items → x.seen ≡ None)

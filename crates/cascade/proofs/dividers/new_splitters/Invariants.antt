use Rattle.std.proofs.Common.{◌≡◌, ℕ, ◌<◌, [], length}
use Rattle.std.specs.Prelude.{slice_index, slice_index_or}
use Rattle.cascade.specs.declared.splitters.SourceRecording.{SourceRecording}
use Rattle.cascade.specs.Splitters.{Splits}
use Rattle.cascade.proofs.dividers.new_splitters.Given as goal

abbrev pub invariant-loop-source : goal.invariant-loop-source
invariant-loop-source l = (length l.splitters.items ≡ l.source-index) × ((k : ℕ) (d : SourceRecording) → k < l.source-index → Splits (slice_index_or l.splitters.items k d) l.payload_types (slice_index l.sources k) [])

use Rattle.std.proofs.Common.{◌≡◌, ◌<◌, ℕ, length}
use Rattle.std.specs.Prelude.{slice_index, slice_index_or}
use Rattle.receiver.specs.declared.source_texts.SourceText.{SourceText}
use Rattle.sent_log.specs.States.{OfTerminal, sents}
use Rattle.playback.specs.Whole.{IsSaid}
use Rattle.playback.proofs.sent_texts.said_at_once.Given as goal

abbrev pub invariant-loop-place : goal.invariant-loop-place
invariant-loop-place l = record {
  each : length l.texts.items ≡ l.place;
  are : OfTerminal l.log l.terminal (λ x. (k : ℕ) (d : SourceText) → k < l.place → IsSaid (slice_index l.sources k) (sents x.sent) (slice_index_or l.texts.items k d));
}

-- What is heard where all that was sent to a terminal comes, in order: what was sent (profile).
use Rattle.std.specs.Prelude.{◌≡◌, ◌<◌, ℕ, List, ◌∷◌, ◌++◌, length, slice_index, slice_index_or, IsUtf8}
use Rattle.wire_spec.specs.Dump.{Item}
use Rattle.stream_spec.specs.Own.{Sent}
pub use Rattle.sent_log.specs.States.{said}
use Rattle.view_spec.specs.Seen.{Reception, counts_at, text_at}
use Rattle.view_spec.specs.Markers.{markers_at}
use Rattle.terminal.specs.Terminals.{all_used}
use Rattle.receiver.specs.declared.source_texts.SourceText.{SourceText}

-- that is the text, and no marker was put
pub record IsSaid (s : ℕ) (past : List Sent) (t : SourceText) : Type 0 where
  pub text : t.text ≡ said s past
  pub markers : t.markers ≡ 0

-- so it is of each source
pub record AreSaid (sources : List ℕ) (past : List Sent) (texts : List SourceText) : Type 0 where
  pub each : length texts ≡ length sources
  pub are : (k : ℕ) (d : SourceText) → k < length sources
      → IsSaid (slice_index sources k) past (slice_index_or texts k d)

-- a text of the source with this SSRC was added to its own, where it is one of these
abbrev pub SaysMore : List ℕ → ℕ → List ℕ → List SourceText → List SourceText → Type 0
SaysMore sources ssrc text old new = (past : List Sent) (media : ℕ) → AreSaid sources past old
    → AreSaid sources (record { source = ssrc; media = media; text = text } ∷ past) new

-- Of each source what was sent is what is heard in these items, without a marker, and each packet is used.
pub record IsHeardAsSent (r : Reception) (past : List Sent) (items : List Item) : Type 0 where
  pub texts : (s : ℕ) → text_at r items s ≡ said s past
  pub utf8 : (s : ℕ) → IsUtf8 (said s past)
  pub markers : (s : ℕ) → markers_at r items s ≡ 0
  pub counts : counts_at r items ≡ all_used (length past)

-- What is heard of each of many sources (profile).
use Rattle.std.specs.Prelude.{◌≡◌, ℕ, ◌+◌, ◌<◌, Bool, ◌&&◌, List, [], ◌∷◌, ◌++◌, length, slice_index, slice_index_or, if◌then◌else◌}
use Rattle.std.specs.List.{concat}
use Rattle.rtt_base.specs.declared.text_packets.TextPacket.{TextPacket}
use Rattle.stream_spec.specs.Numbering.{Numbered}
use Rattle.stream_spec.specs.Hearing.{adds_marker, heard_by, is_packet_of}
use Rattle.stream_spec.specs.ChunksBy.{texts_added}
use Rattle.receiver.specs.declared.pieces.TextCursor.{TextCursor}
use Rattle.receiver.specs.declared.receivers.Receiver.{Receiver}
use Rattle.receiver.specs.declared.source_texts.SourceText.{SourceText}
use Rattle.receiver.specs.Pieces.{left_of}
use Rattle.receiver.specs.Stands.{Stands, used_packet}

-- how many sources are listened to
abbrev pub sources_count : Receiver → ℕ
sources_count r = length r.listed.items

abbrev pub one_if : Bool → ℕ
one_if b = if b then 1 else 0

-- how many of these used packets of the source s put a marker before their texts, behind those before them
abbrev pub markers_from : List Numbered → List Numbered → ℕ → ℕ
markers_from before [] s = 0
markers_from before (u ∷ us) s = one_if (is_packet_of s u && adds_marker before u) + markers_from (before ++ u ∷ []) us s

-- how many markers are heard of the source s by these used packets, in rising number
abbrev pub markers_by : List Numbered → ℕ → ℕ
markers_by us s = markers_from [] us s

-- what is heard of the source s by these used packets
pub record IsHeardOf (s : ℕ) (us : List Numbered) (t : SourceText) : Type 0 where
  pub text : t.text ≡ concat (heard_by us s)
  pub markers : t.markers ≡ markers_by us s

-- each text is what is heard of the source in its place
abbrev pub AreHeard : List ℕ → List Numbered → List SourceText → Type 0
AreHeard sources us texts = (k : ℕ) (d : SourceText) → k < length sources
    → IsHeardOf (slice_index sources k) us (slice_index_or texts k d)

-- What is left of a packet is what it adds to what is heard of its source, where that is listed.
abbrev pub LeavesAdded : Receiver → ℕ → TextPacket → TextCursor → Type 0
LeavesAdded old number p piece =
    (sources : List ℕ) (us : List Numbered) (time k : ℕ) → Stands old sources us → k < length sources
    → slice_index sources k ≡ p.source
    → left_of piece p ≡ texts_added us (used_packet time number p) p.source

-- The lines of a recording, and the parts of a packet's line.
use Rattle.std.specs.Prelude.{◌≡◌, List, ℕ, ◌++◌, codes, decimal}
use Rattle.rtt_base.specs.declared.text_packets.PayloadTypes.{PayloadTypes}
use Rattle.wire_spec.specs.Dump.{Recording}
use Rattle.command_spec.specs.Listing.{bit, list_view}
use Rattle.recording_views.specs.declared.records.Head.{Head}

-- what stands before the lengths of the blocks
abbrev pub head_line : Head → List ℕ
head_line h = decimal h.at ++ codes " " ++ decimal h.seq ++ codes " mark " ++ bit h.marker_bit
    ++ codes " stamp " ++ decimal h.timestamp
    ++ codes " ssrc " ++ decimal h.ssrc ++ codes " source " ++ decimal h.source
    ++ codes " texts"

-- these are the lines of the records of this recording
abbrev pub AreLinesOf : PayloadTypes → Recording → List ℕ → Type 0
AreLinesOf payload_types recording lines = lines ≡ list_view payload_types recording.items

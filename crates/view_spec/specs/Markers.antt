-- The markers that are heard of a source, and the texts that are none (profile).
use Rattle.std.specs.Prelude.{ℕ, ◌+◌, Bool, Option, None, Some, List, [], ◌∷◌, ◌++◌, filter, chars, if◌then◌else◌}
use Rattle.std.specs.List.{concat}
use Rattle.wire_spec.specs.Packets.{Arrival}
use Rattle.wire_spec.specs.Dump.{Item}
use Rattle.stream_spec.specs.Numbering.{Numbered, numbered, used, has_number, first_number}
use Rattle.stream_spec.specs.Hearing.{is_marked, is_packet_of, new_texts}
use Rattle.stream_spec.specs.Kept as kept
use Rattle.view_spec.specs.Shown as text
use Rattle.view_spec.specs.Shown.{Display}
use Rattle.view_spec.specs.Seen.{Reception, arrivals_at}

-- What is heard are markers and new texts: a marker is a text of its own before the new texts of a packet (`piece`). So a
-- U+FFFD that was typed is none.
-- how many of these packets of one source have a marker before their texts, where prev is the packet before them
abbrev pub markers_over : (ℕ → Bool) → ℕ → Option Numbered → List Numbered → ℕ
markers_over present first prev [] = 0
markers_over present first prev (b ∷ bs) =
    (if is_marked present first prev b then 1 else 0) + markers_over present first (Some b) bs

-- how many of the texts in `heard` are markers
abbrev pub marker_count : ℕ → List Arrival → ℕ → ℕ
marker_count wait a s =
    markers_over (has_number (used wait (numbered a))) (first_number 0 (numbered a)) None
    (filter (is_packet_of s) (used wait (numbered a)))

abbrev pub markers_at : Reception → List Item → ℕ → ℕ
markers_at r came source = marker_count r.wait (arrivals_at r came) source

-- the new texts of these packets of one source, without markers
abbrev pub new_texts_over : Option Numbered → List Numbered → List (List ℕ)
new_texts_over prev [] = []
new_texts_over prev (b ∷ bs) = new_texts prev b ++ new_texts_over (Some b) bs

-- all that is heard of the source s but the markers
abbrev pub new_texts_heard : ℕ → List Arrival → ℕ → List (List ℕ)
new_texts_heard wait a s = new_texts_over None (filter (is_packet_of s) (used wait (numbered a)))

-- the markers among what places tell of a history
abbrev pub markers_in : List kept.Item → ℕ
markers_in [] = 0
markers_in (kept.Marker ∷ items) = 1 + markers_in items
markers_in (kept.Block x ∷ items) = markers_in items

-- how many U+FFFD these texts have, and how many are shown
abbrev pub typed_markers : List (List ℕ) → ℕ
typed_markers texts = text.marker_count (chars (concat texts))

abbrev pub shown_markers : Display → ℕ
shown_markers d = text.marker_count (chars (concat d.lines))

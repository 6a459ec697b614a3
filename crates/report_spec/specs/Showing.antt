-- What `show` prints of a recording: what was typed in each stream of text, what else is there, where the recording can't
-- be read further, and when it began (profile). Each line ends with LF.
use Rattle.std.specs.Prelude.{ℕ, ◌==◌, Option, None, Some, List, [], ◌++◌, length, flat_map, codes, decimal, if◌then◌else◌}
use Rattle.rtt_base.specs.declared.text_packets.PayloadTypes.{PayloadTypes}
use Rattle.wire_spec.specs.Dump.{Item, Recording, dump, usual_limit}
use Rattle.stream_spec.specs.Numbering.{Numbered, numbered}
use Rattle.view_spec.specs.Seen.{arrivals_at}
use Rattle.view_spec.specs.Views.{printed_line}
use Rattle.command_spec.specs.Reading.{usual_wait}
use Rattle.command_spec.specs.Streams.{ssrc_of, type_of, streams, stream, pairs, packets_of, sources}
use Rattle.command_spec.specs.Showing.{hearing, least_time, greatest_time, hearing_view, other_lines, end_line}
use Rattle.report_spec.specs.Times.{start_of, began_line}
use Rattle.report_spec.specs.Missed.{lost_count, late_count}
use Rattle.report_spec.specs.Guesses.{guess_line}

-- ---- a stream of text

-- a number behind these words, where it is not 0
abbrev pub counted : List ℕ → ℕ → List ℕ
counted words number = if number == 0 then [] else words ++ decimal number

-- the packets of the stream with their numbers, newest first
abbrev pub numbers_of : PayloadTypes → ℕ → List Item → List Numbered
numbers_of payload_types ssrc came = numbered (arrivals_at (hearing payload_types ssrc) came)

abbrev pub title_of : ℕ → ℕ → ℕ → ℕ → ℕ → List ℕ
title_of ssrc from to lost late =
    printed_line (codes "== " ++ decimal ssrc ++ codes " from " ++ decimal from ++ codes " to " ++ decimal to
    ++ counted (codes " lost ") lost ++ counted (codes " late ") late)

unfoldable pub stream_title : PayloadTypes → ℕ → List Item → List ℕ
stream_title payload_types ssrc came =
    title_of ssrc (least_time came) (greatest_time came) (lost_count (numbers_of payload_types ssrc came))
    (late_count usual_wait (numbers_of payload_types ssrc came))

-- what is seen of the stream whose packets these are
unfoldable pub stream_view : PayloadTypes → ℕ → List Item → List ℕ
stream_view payload_types ssrc came = stream_title payload_types ssrc came ++ hearing_view (hearing payload_types ssrc) (sources ssrc payload_types came) came

-- ---- the packets of another payload type

unfoldable pub pair_view : ℕ → List Item → List ℕ
pair_view pair came =
    printed_line (codes "-- ssrc " ++ decimal (ssrc_of pair) ++ codes " type " ++ decimal (type_of pair)
    ++ codes " packets " ++ decimal (length came) ++ guess_line (ssrc_of pair) (type_of pair) came)

-- ---- all

unfoldable pub items_view : PayloadTypes → List Item → List ℕ
items_view payload_types items =
    flat_map (λ ssrc. stream_view payload_types ssrc (stream payload_types ssrc items)) (streams payload_types items).kept
    ++ flat_map (λ pair. pair_view pair (packets_of payload_types pair items)) (pairs payload_types items).kept
    ++ other_lines payload_types items

-- when it began, where it has a start, and that is not 0
abbrev pub start_line : Option ℕ → List ℕ
start_line None = []
start_line (Some start) = if start == 0 then [] else began_line start

abbrev pub recording_view : PayloadTypes → Option ℕ → Recording → List ℕ
recording_view payload_types start r = items_view payload_types r.items ++ end_line r.fault ++ start_line start

unfoldable pub show_view : PayloadTypes → List ℕ → List ℕ
show_view payload_types octets = recording_view payload_types (start_of octets) (dump usual_limit octets)

-- What `show` prints of a stream's sources, what else there is, and where the recording can't be read further (profile). Each
-- line ends with LF.
use Rattle.std.specs.Prelude.{ℕ, ◌+◌, ◌==◌, Bool, true, false, Option, None, Some, List, [], ◌∷◌, ◌++◌, length, map, filter, flat_map, min, max, Result, Ok, Err, codes, decimal, if◌then◌else◌}
use Rattle.rtt_base.specs.declared.text_packets.PayloadTypes.{PayloadTypes}
use Rattle.wire_spec.specs.declared.faults.DumpKind.{DumpKind}
use Rattle.wire_spec.specs.declared.faults.DumpKind.TheVariants.{NotDump}
use Rattle.wire_spec.specs.declared.faults.TextFault.{TextFault}
use Rattle.wire_spec.specs.declared.faults.TextFault.TheVariants.{Short, Version, Padding, Sources, WrongType, Cut, Many, Long, NotText, Foreign}
use Rattle.wire_spec.specs.declared.limits.TheConstants.{LAST_RECORD_MOMENT}
use Rattle.wire_spec.specs.Packets.{Packet}
use Rattle.wire_spec.specs.Dump.{Item, Fault, dump, usual_limit}
use Rattle.view_spec.specs.Seen.{Reception, Speaker, source_at, counts_at}
use Rattle.view_spec.specs.Views.{Source, printed_line, source_view, counts_line}
use Rattle.command_spec.specs.Firsts.{Firsts}
use Rattle.command_spec.specs.Listing.{fault_name}
use Rattle.command_spec.specs.Messages.{dump_kind_name}
use Rattle.command_spec.specs.Reading.{usual_wait}
use Rattle.command_spec.specs.Streams as sorts
use Rattle.command_spec.specs.Streams.{Sort, sort_of, is_same_sort, streams, stream, pairs, sources, text_at}

-- a line of a number, where it is not 0
abbrev pub number_line : List ℕ → ℕ → List ℕ
number_line before number = if number == 0 then [] else printed_line (before ++ decimal number)

-- ---- a stream of text

-- who hears it
abbrev pub hearing : PayloadTypes → ℕ → Reception
hearing payload_types ssrc = record { ssrc = ssrc; payload_types = payload_types; wait = usual_wait }

-- no record is later than LAST_RECORD_MOMENT
abbrev pub least_time : List Item → ℕ
least_time [] = LAST_RECORD_MOMENT
least_time (item ∷ items) = min item.time (least_time items)

abbrev pub greatest_time : List Item → ℕ
greatest_time [] = 0
greatest_time (item ∷ items) = max item.time (greatest_time items)

-- a source goes by its number
abbrev pub speaker : ℕ → Speaker
speaker source = record { name = decimal source; ssrc = source }

abbrev pub sources_seen : Reception → List ℕ → List Item → List Source
sources_seen r sources came = map (λ s. source_at r came (speaker s)) sources

-- the refusals, in the order of their tests
abbrev pub refusals : List TextFault
refusals = Short ∷ Version ∷ Padding ∷ Sources ∷ WrongType ∷ Cut ∷ Many ∷ Long ∷ NotText ∷ []

abbrev pub place_of : TextFault → ℕ
place_of Short = 0
place_of Version = 1
place_of Padding = 2
place_of Sources = 3
place_of WrongType = 4
place_of Cut = 5
place_of Many = 6
place_of Long = 7
place_of NotText = 8
place_of Foreign = 9

abbrev pub is_refused_as : TextFault → Result Packet TextFault → Bool
is_refused_as fault (Ok packet) = false
is_refused_as fault (Err other) = place_of other == place_of fault

-- how many are refused so
abbrev pub refused_as : Reception → List Item → TextFault → ℕ
refused_as r came fault = length (filter (λ item. is_refused_as fault (text_at r.ssrc r.payload_types item)) came)

abbrev pub refusal_line : TextFault → ℕ → List ℕ
refusal_line fault number = number_line (codes "-- refused " ++ fault_name fault ++ codes " ") number

abbrev pub refusal_lines : Reception → List Item → List ℕ
refusal_lines r came = flat_map (λ fault. refusal_line fault (refused_as r came fault)) refusals

abbrev pub hearing_view : Reception → Firsts → List Item → List ℕ
hearing_view r named came =
    flat_map source_view (sources_seen r named.kept came) ++ counts_line (counts_at r came)
    ++ refusal_lines r came ++ number_line (codes "-- other sources ") named.others

-- ---- all

-- how many records are of this sort, of which no header is read
abbrev pub how_many : Sort → List Item → ℕ
how_many sort items = length (filter (λ item. is_same_sort sort (sort_of item)) items)

-- how many packets are of later streams and pairs
abbrev pub more : PayloadTypes → List Item → ℕ
more payload_types items = (streams payload_types items).others + (pairs payload_types items).others

unfoldable pub other_lines : PayloadTypes → List Item → List ℕ
other_lines payload_types items =
    number_line (codes "-- rtcp ") (how_many sorts.Rtcp items) ++ number_line (codes "-- cut ") (how_many sorts.Cut items)
    ++ number_line (codes "-- large ") (how_many sorts.Large items) ++ number_line (codes "-- no RTP ") (how_many sorts.NoRtp items)
    ++ number_line (codes "-- more ") (more payload_types items)

-- the recording is whole, or there is a fault where it can't be read further
unfoldable pub end_line : Option Fault → List ℕ
end_line None = printed_line (codes "-- whole")
end_line (Some fault) = printed_line (codes "-- byte " ++ decimal fault.byte ++ codes ": " ++ dump_kind_name fault.kind)

-- ---- what is refused

-- octets that don't begin as a recording does; every other fault ends what is shown
abbrev pub is_no_recording : DumpKind → Bool
is_no_recording NotDump = true
is_no_recording _ = false

abbrev pub if_no_recording : Option Fault → Option Fault
if_no_recording None = None
if_no_recording (Some fault) = if is_no_recording fault.kind then Some fault else None

abbrev pub show_refusal : List ℕ → Option Fault
show_refusal octets = if_no_recording (dump usual_limit octets).fault

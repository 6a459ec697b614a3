-- What is printed of all that was found in a recording.
use Rattle.std.specs.Prelude.{◌≡◌, ℕ, ◌+◌, ◌<◌, ◌^◌, Option, None, Some, List, ◌++◌, length, map, flat_map, codes, All}
use Rattle.wire_spec.specs.Dump.{Item, Fault}
use Rattle.rtpdump_io.specs.declared.items.DumpFault.{DumpFault}
use Rattle.command_spec.specs.Streams.{Sort, naming}
use Rattle.command_spec.specs.Showing.{number_line}
use Rattle.report_spec.specs.Showing.{stream_view, pair_view, recording_view}
use Rattle.rtt_show.specs.declared.views.Shape.{Shape}
use Rattle.rtt_show.specs.declared.views.Shape.TheVariants.{Stream, Pair}
use Rattle.rtt_show.specs.declared.groups.Group.{Group}
use Rattle.rtt_show.specs.declared.findings.Findings.{Findings}
use Rattle.rtpdump_io.specs.InMemory.{HasRecords}
use Rattle.rtt_show.specs.Records.{OfRecords}
use Rattle.rtt_show.specs.Groups.{GroupHolds}
use Rattle.rtt_show.specs.Finds.{IsFound}

-- ---- groups

-- an SSRC has 32 bits, and a payload type seven
abbrev pub shape_limit : Shape → ℕ
shape_limit (Stream payload_types) = 2 ^ 32
shape_limit Pair = 2 ^ 39

abbrev pub shape_view : Shape → ℕ → List Item → List ℕ
shape_view (Stream payload_types) name came = stream_view payload_types name came
shape_view Pair name came = pair_view name came

-- a group has records, and a name that fits
abbrev pub IsGroupOf : Shape → Group → Type 0
IsGroupOf shape group = HasRecords group.records × group.name < shape_limit shape

-- the view of this group was appended
abbrev pub IsGroupShown : Shape → Group → List ℕ → List ℕ → Type 0
IsGroupShown shape group old new = OfRecords group.records (λ came. new ≡ old ++ shape_view shape group.name came)

-- the views of the groups were appended: of each name, those of the records that name it
abbrev pub AreShown : Shape → List Group → List ℕ → List ℕ → Type 0
AreShown shape groups old new =
    (of : Sort → Option ℕ) (items : List Item)
    → length items < 2 ^ 32 → All (GroupHolds of items) groups
    → new ≡ old ++ flat_map (λ name. shape_view shape name (naming of name items)) (map (λ group. group.name) groups)

-- ---- others

abbrev pub others_text : Findings → List ℕ
others_text f =
    number_line (codes "-- rtcp ") f.rtcp ++ number_line (codes "-- cut ") f.cut ++ number_line (codes "-- large ") f.large
    ++ number_line (codes "-- no RTP ") f.no_rtp ++ number_line (codes "-- more ") (f.streams.others + f.pairs.others)

-- the fault that ends a recording
abbrev pub ends : Option DumpFault → Option Fault
ends None = None
ends (Some fault) = Some (record { byte = fault.offset; kind = fault.kind })

-- ---- all

-- this is what is printed
abbrev pub IsShownOf : Findings → Option ℕ → Option DumpFault → List ℕ → Type 0
IsShownOf found start end printed =
    (items : List Item) → length items < 2 ^ 32 → IsFound found items
    → printed ≡ recording_view found.payload_types start (record { items = items; fault = ends end })

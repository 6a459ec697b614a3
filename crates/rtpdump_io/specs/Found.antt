-- What the parts of a reading find, as the definition of recordings has it.
use Rattle.std.specs.Prelude.{ℕ, ◌==◌, ◌&&◌, Bool, nat_lt, List, Result, Ok, Err, if◌then◌else◌}
use Rattle.wire_spec.specs.declared.faults.DumpKind.{DumpKind}
use Rattle.wire_spec.specs.Dump.{Whole, Place, Fault, Step, Next, Broken, Recording, with_item}
use Rattle.wire_spec.specs.Dump as dumps
use Rattle.rtpdump_io.specs.declared.items.DumpItem.{DumpItem}
use Rattle.rtpdump_io.specs.declared.items.DumpItem.TheVariants.{Packet, Rtcp, Cut, Large, End}
use Rattle.rtpdump_io.specs.Reading.{item_at, nothing, broken}
use Rattle.rtt_base.specs.declared.limits.TheConstants.{MOST_PACKET_OCTETS}

-- the answer for a record, by the sizes of its packet and of what it has behind its head
abbrev pub kind_of : ℕ → ℕ → ℕ → DumpItem
kind_of packet_size size at =
    if packet_size == 0 then Rtcp at
    else (if nat_lt size packet_size then Cut at else (if nat_lt MOST_PACKET_OCTETS packet_size then Large at else Packet at))

-- how many of its octets are a packet's, or RTCP where this is wanted too
abbrev pub wanted_of : Bool → ℕ → ℕ → ℕ
wanted_of with_rtcp packet_size size = if packet_size == 0 && with_rtcp then size else packet_size

-- how many of so many are handed out
abbrev pub kept_of : ℕ → ℕ → ℕ
kept_of packet_size size = if nat_lt size packet_size then 0 else (if nat_lt MOST_PACKET_OCTETS packet_size then 0 else packet_size)

-- what stands at the first record's byte
abbrev pub opened_as : Result (Unit {0}) DumpKind → Place → Result Place Fault
opened_as (Ok u) p = Ok p
opened_as (Err kind) p = Err (record { byte = p.byte; kind = kind })

-- one step, with the place behind it
abbrev pub found_as : Result DumpItem DumpKind → List ℕ → Place → Step
found_as (Ok (Packet at)) out p = Next (item_at at (Whole out)) p
found_as (Ok (Rtcp at)) out p = Next (item_at at dumps.Rtcp) p
found_as (Ok (Cut at)) out p = Next (item_at at dumps.Cut) p
found_as (Ok (Large at)) out p = Next (item_at at dumps.Large) p
found_as (Ok End) out p = dumps.End
found_as (Err kind) out p = Broken (record { byte = p.byte; kind = kind })

-- all that comes, with what comes behind the first
abbrev pub came_as : Result DumpItem DumpKind → List ℕ → ℕ → Recording → Recording
came_as (Ok (Packet at)) out byte rest = with_item (item_at at (Whole out)) rest
came_as (Ok (Rtcp at)) out byte rest = with_item (item_at at dumps.Rtcp) rest
came_as (Ok (Cut at)) out byte rest = with_item (item_at at dumps.Cut) rest
came_as (Ok (Large at)) out byte rest = with_item (item_at at dumps.Large) rest
came_as (Ok End) out byte rest = nothing
came_as (Err kind) out byte rest = broken byte kind

-- what is to come where the opening is read
abbrev pub ready_as : Result (Unit {0}) DumpKind → ℕ → Recording → Recording
ready_as (Ok u) byte rest = rest
ready_as (Err kind) byte rest = broken byte kind

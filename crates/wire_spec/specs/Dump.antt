-- Recordings of packets (the file form of rtpdump), what arrives out of one, and the one form in which one is written (profile).
use Rattle.std.specs.Prelude.{ℕ, zero, suc, ◌<◌, ◌≤◌, ◌+◌, ◌-◌, ◌==◌, max, nat_eq, List, [], ◌∷◌, ◌++◌, length, take, drop, Option, None, Some, Result, Ok, Err, nat_lt, if◌then◌else◌, codes}
use Rattle.std.specs.List.{flat_map, starts_with}
use Rattle.std.specs.Int.{w16, w32, to_be_bytes, from_be_bytes}
use Rattle.rtt_base.specs.declared.text_packets.PayloadTypes.{PayloadTypes}
use Rattle.wire_spec.specs.declared.faults.TextFault.{TextFault}
use Rattle.wire_spec.specs.declared.faults.DumpKind.{DumpKind}
use Rattle.wire_spec.specs.declared.faults.DumpKind.TheVariants.{NotDump, BadLength, EndsInside, TooLong, TooLarge}
use Rattle.wire_spec.specs.Packets.{Packet, Arrival}
use Rattle.wire_spec.specs.Text.{text_within}
use Rattle.rtt_base.specs.declared.limits.TheConstants.{MOST_PACKET_OCTETS, MOST_TEXT_OCTETS}
use Rattle.wire_spec.specs.declared.limits.TheConstants.{LAST_RECORD_MOMENT, MOST_RECORDING_OCTETS}

-- what a record is: a packet with its octets, one of RTCP, one that was recorded in part, or one of more than 4224 octets
pub data What : Type 0 where
  Whole : (octets : List ℕ) → What
  Rtcp : What
  Cut : What
  Large : What

-- a record and its time, in milliseconds
pub record Item : Type 0 where
  pub time : ℕ
  pub what : What

-- the byte at which a reading stands, and what follows
pub record Place : Type 0 where
  pub byte : ℕ
  pub rest : List ℕ

-- why a recording can't be read further, and the byte of the structure that was read
pub record Fault : Type 0 where
  pub byte : ℕ
  pub kind : DumpKind

-- ---- the line and the head

-- what follows the first line feed among so many octets
abbrev pub past_line : ℕ → List ℕ → Option (List ℕ)
past_line zero octets = None
past_line (suc n) [] = None
past_line (suc n) (b ∷ octets) = if b == 10 then Some octets else past_line n octets

abbrev pub past_head : ℕ → List ℕ → Result Place Fault
past_head byte rest =
    if nat_lt (length rest) 16 then Err (record { byte = byte; kind = EndsInside })
    else Ok (record { byte = byte + 16; rest = drop 16 rest })

abbrev pub after_line : List ℕ → Option (List ℕ) → Result Place Fault
after_line octets None = Err (record { byte = 0; kind = NotDump })
after_line octets (Some rest) = past_head (length octets - length rest) rest

-- the place of the first record
unfoldable pub opening : List ℕ → Result Place Fault
opening octets = after_line octets (if starts_with nat_eq octets (codes "#!rtpplay1.0 ") then past_line 128 octets else None)

-- ---- one record

pub data Step : Type 0 where
  End : Step
  Broken : (fault : Fault) → Step
  Next : (item : Item) (place : Place) → Step

-- what a record has behind its head, where the packet had so many octets
abbrev pub what_of : ℕ → List ℕ → What
what_of packet_size body =
    if packet_size == 0 then Rtcp
    else (if nat_lt (length body) packet_size then Cut else (if nat_lt MOST_PACKET_OCTETS packet_size then Large else Whole (take packet_size body)))

-- a record's size, that of its packet, and its time
abbrev pub size_of : List ℕ → ℕ
size_of rest = from_be_bytes w16 rest

abbrev pub packet_size_of : List ℕ → ℕ
packet_size_of rest = from_be_bytes w16 (drop 2 rest)

abbrev pub time_of : List ℕ → ℕ
time_of rest = from_be_bytes w32 (drop 4 rest)

abbrev pub item_of : List ℕ → Item
item_of rest = record { time = time_of rest; what = what_of (packet_size_of rest) (drop 8 (take (size_of rest) rest)) }

-- the tests of a record whose head is there, in their order; a recording has at most `limit` octets and four hours
abbrev pub record_fault : ℕ → Place → Option DumpKind
record_fault limit p =
    if nat_lt (size_of p.rest) 8 then Some BadLength
    else (if nat_lt limit (p.byte + size_of p.rest) then Some TooLarge
    else (if nat_lt (length p.rest) (size_of p.rest) then Some EndsInside
    else (if nat_lt LAST_RECORD_MOMENT (time_of p.rest) then Some TooLong else None)))

abbrev pub step_or : Place → Option DumpKind → Step
step_or p (Some kind) = Broken (record { byte = p.byte; kind = kind })
step_or p None = Next (item_of p.rest) (record { byte = p.byte + size_of p.rest; rest = drop (size_of p.rest) p.rest })

-- the end, the next record, or the fault that stands in its place
unfoldable pub dump_step : ℕ → Place → Step
dump_step limit p =
    if length p.rest == 0 then End
    else (if nat_lt (length p.rest) 8 then step_or p (Some EndsInside) else step_or p (record_fault limit p))

-- ---- all records

-- the records, oldest first, and the fault that ends them, if one does
pub record Recording : Type 0 where
  pub items : List Item
  pub fault : Option Fault

abbrev pub with_item : Item → Recording → Recording
with_item item r = record { items = item ∷ r.items; fault = r.fault }

-- one step and what comes of the rest
abbrev pub records_by : (Place → Recording) → Step → Recording
records_by more End = record { items = []; fault = None }
records_by more (Broken fault) = record { items = []; fault = Some fault }
records_by more (Next item place) = with_item item (more place)

-- in at most so many steps
unfoldable pub records_within : ℕ → ℕ → Place → Recording
records_within zero limit p = record { items = []; fault = None }
records_within (suc fuel) limit p = records_by (records_within fuel limit) (dump_step limit p)

-- what is still to come at a place: each record has eight octets, so as many steps as octets are enough
unfoldable pub records : ℕ → Place → Recording
records limit p = records_within (length p.rest) limit p

abbrev pub dump_from : ℕ → Result Place Fault → Recording
dump_from limit (Err fault) = record { items = []; fault = Some fault }
dump_from limit (Ok place) = records limit place

unfoldable pub dump : ℕ → List ℕ → Recording
dump limit octets = dump_from limit (opening octets)

-- the greatest recording that is read
abbrev pub usual_limit : ℕ
usual_limit = MOST_RECORDING_OCTETS

-- ---- arrivals

-- the greatest time so far, over arrivals that stand newest first
abbrev pub latest : List Arrival → ℕ
latest [] = 0
latest (a ∷ past) = a.time

-- what is no packet of text of the stream hands in no time
abbrev pub arrived : ℕ → Result Packet TextFault → List Arrival → List Arrival
arrived time (Err fault) past = past
arrived time (Ok packet) past = record { time = max time (latest past); packet = packet } ∷ past

-- where a primary text has at most so many octets
abbrev pub with_arrival : ℕ → ℕ → PayloadTypes → Item → List Arrival → List Arrival
with_arrival most ssrc payload_types item past =
    elim item.what [ Whole octets ↦ arrived item.time (text_within most octets (Some ssrc) payload_types) past | Rtcp ↦ past | Cut ↦ past | Large ↦ past ]

abbrev pub arrivals_within : ℕ → ℕ → PayloadTypes → List Arrival → List Item → List Arrival
arrivals_within most ssrc payload_types past [] = past
arrivals_within most ssrc payload_types past (item ∷ items) = arrivals_within most ssrc payload_types (with_arrival most ssrc payload_types item past) items

-- where it is no longer than the text of any block
abbrev pub arrivals_with : ℕ → PayloadTypes → Item → List Arrival → List Arrival
arrivals_with ssrc payload_types item past = with_arrival MOST_TEXT_OCTETS ssrc payload_types item past

abbrev pub arrivals_after : ℕ → PayloadTypes → List Arrival → List Item → List Arrival
arrivals_after ssrc payload_types past items = arrivals_within MOST_TEXT_OCTETS ssrc payload_types past items

-- the arrivals of a stream out of a recording, newest first
unfoldable pub arrivals : List ℕ → ℕ → PayloadTypes → List Arrival
arrivals octets ssrc payload_types = arrivals_after ssrc payload_types [] (dump usual_limit octets).items

-- ---- writing

-- from 127.0.0.1, port 5004, at no time
abbrev pub dump_opening : List ℕ
dump_opening =
    codes "#!rtpplay1.0 127.0.0.1/5004" ++ (10 ∷ (to_be_bytes w32 0 ++ (to_be_bytes w32 0 ++ (127 ∷ 0 ∷ 0 ∷ 1 ∷ (to_be_bytes w16 5004 ++ to_be_bytes w16 0)))))

-- a packet at its time
abbrev pub record_written : ℕ × List ℕ → List ℕ
record_written r = to_be_bytes w16 (length r.1 + 8) ++ (to_be_bytes w16 (length r.1) ++ (to_be_bytes w32 r.0 ++ r.1))

abbrev pub dump_written : List (ℕ × List ℕ) → List ℕ
dump_written rs = dump_opening ++ flat_map record_written rs

-- what can be written and is read back: a packet of 1 to 4224 octets, in the first four hours
pub record FitsRecord (r : ℕ × List ℕ) : Type 0 where
  pub time : r.0 ≤ LAST_RECORD_MOMENT
  pub some : 0 < length r.1
  pub few : length r.1 ≤ MOST_PACKET_OCTETS

-- as it is read
abbrev pub sent_item : ℕ × List ℕ → Item
sent_item r = record { time = r.0; what = Whole r.1 }

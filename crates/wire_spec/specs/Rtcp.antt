-- What RTCP packets tell of names and leavings (RFC 3550, sections 6.1, 6.5 and 6.6), or why they are refused.
use Rattle.std.specs.Prelude.{ℕ, zero, suc, ◌+◌, ◌-◌, ◌*◌, ◌/◌, ◌%◌, ◌^◌, ◌<◌, ◌≤◌, ◌==◌, ◌&&◌, Bool, true, false, List, [], ◌∷◌, ◌++◌, length, take, drop, replicate, slice_index, Option, None, Some, Result, Ok, Err, nat_lt, nat_le, if◌then◌else◌, IsUtf8}
use Rattle.std.specs.Str.{is_utf8}
use Rattle.std.specs.Int.{w16, w32, to_be_bytes, from_be_bytes}
use Rattle.rtt_base.specs.Steps.{◌>>=◌}
use Rattle.wire_spec.specs.declared.events.Event.{Event}
use Rattle.wire_spec.specs.declared.events.Event.TheVariants as event
use Rattle.wire_spec.specs.declared.rtcp_faults.RtcpRefusal.{RtcpRefusal}
use Rattle.wire_spec.specs.declared.rtcp_faults.RtcpRefusal.TheVariants.{Short, Version, Padding, Items, Bye, Many}

-- ---- a packet

-- how many chunks or sources it counts, its type, its octets behind the head and before the padding, and what follows the packet
pub record Body : Type 0 where
  pub count : ℕ
  pub kind : ℕ
  pub octets : List ℕ
  pub rest : List ℕ

-- what stands before q octets of padding
abbrev pub before_padding : ℕ → List ℕ → Result (List ℕ) RtcpRefusal
before_padding q octets = if nat_le 1 q && nat_le q (length octets) then Ok (take (length octets - q) octets) else Err Padding

-- all, or what stands before the padding, whose last octet counts it
abbrev pub unpadded : Bool → List ℕ → Result (List ℕ) RtcpRefusal
unpadded false octets = Ok octets
unpadded true octets = before_padding (slice_index octets (length octets - 1)) octets

-- a packet of version 2 with this first octet and type, from behind its head on, where so many octets are its own
abbrev pub body_of : ℕ → ℕ → ℕ → List ℕ → Result Body RtcpRefusal
body_of first kind size behind = if nat_lt (length behind) size then Err Short else do
  octets ← unpadded (first / 32 % 2 == 1) (take size behind)
  Ok (record { count = first % 32; kind = kind; octets = octets; rest = drop size behind })

-- the packet in front
unfoldable pub body_at : List ℕ → Result Body RtcpRefusal
body_at octets =
    if nat_lt (length octets) 4 then Err Short
    else (if slice_index octets 0 / 64 == 2
    then body_of (slice_index octets 0) (slice_index octets 1) (4 * from_be_bytes w16 (drop 2 octets)) (drop 4 octets)
    else Err Version)

-- ---- source descriptions

-- an item of a chunk
pub record Item : Type 0 where
  pub kind : ℕ
  pub text : List ℕ

-- the item in front, or none where an octet 0 ends the items
abbrev pub item_at : List ℕ → Result (Option Item) RtcpRefusal
item_at octets =
    if length octets == 0 then Err Items
    else (if slice_index octets 0 == 0 then Ok None
    else (if nat_lt (length octets) 2 then Err Items
    else (if nat_lt (length octets) (2 + slice_index octets 1) then Err Items
    else Ok (Some (record { kind = slice_index octets 0; text = take (slice_index octets 1) (drop 2 octets) })))))

-- an item of type 2 that has text is the source's name
abbrev pub is_name : Item → Bool
is_name i = (i.kind == 2) && (nat_lt 0 (length i.text) && is_utf8 i.text)

abbrev pub name_in : ℕ → Item → List Event
name_in ssrc i = if is_name i then event.Name ssrc i.text ∷ [] else []

-- what is told, and the octets behind
pub record Told : Type 0 where
  pub events : List Event
  pub rest : List ℕ

abbrev pub and_told : List Event → Told → Told
and_told before told = record { events = before ++ told.events; rest = told.rest }

-- what comes of an item and of the others, as they were read
abbrev pub and_items : ℕ → List ℕ → Result Told RtcpRefusal → Option Item → Result Told RtcpRefusal
and_items ssrc octets others None = Ok (record { events = []; rest = drop 1 octets })
and_items ssrc octets others (Some i) = others >>= λ told. Ok (and_told (name_in ssrc i) told)

-- the items up to the octet 0 that ends them, in at most so many steps
unfoldable pub items_within : ℕ → ℕ → List ℕ → Result Told RtcpRefusal
items_within zero ssrc octets = Err Items
items_within (suc fuel) ssrc octets = item_at octets >>= and_items ssrc octets (items_within fuel ssrc (drop (2 + slice_index octets 1) octets))

-- the items of a source
abbrev pub items : ℕ → List ℕ → Result Told RtcpRefusal
items ssrc octets = items_within (length octets) ssrc octets

-- how many octets follow n up to a multiple of four
abbrev pub fill : ℕ → ℕ
fill n = (4 - n % 4) % 4

-- what stands behind items, which are filled up to a multiple of four
abbrev pub filled : List ℕ → Told → Result Told RtcpRefusal
filled octets told =
    if nat_lt (length told.rest) (fill (length octets - length told.rest)) then Err Items
    else Ok (record { events = told.events; rest = drop (fill (length octets - length told.rest)) told.rest })

-- a source and its items
unfoldable pub chunk_at : List ℕ → Result Told RtcpRefusal
chunk_at octets =
    if nat_lt (length octets) 4 then Err Items
    else (items (from_be_bytes w32 octets) (drop 4 octets) >>= filled (drop 4 octets))

-- so many chunks
unfoldable pub chunks : ℕ → List ℕ → Result (List Event) RtcpRefusal
chunks zero octets = Ok []
chunks (suc n) octets = chunk_at octets >>= λ told. chunks n told.rest >>= λ events. Ok (told.events ++ events)

-- ---- leavings

-- so many sources that leave
abbrev pub byes : ℕ → List ℕ → List Event
byes zero octets = []
byes (suc n) octets = event.Bye (from_be_bytes w32 octets) ∷ byes n (drop 4 octets)

abbrev pub leavings : ℕ → List ℕ → Result (List Event) RtcpRefusal
leavings n octets = if nat_lt (length octets) (4 * n) then Err Bye else Ok (byes n octets)

-- ---- all packets

-- source descriptions have type 202, leavings 203; packets of other types are passed over, and what is left of a packet is too
abbrev pub events_of : Body → Result (List Event) RtcpRefusal
events_of body =
    if body.kind == 202 then chunks body.count body.octets
    else (if body.kind == 203 then leavings body.count body.octets else Ok [])

abbrev pub at_most_64 : List Event → Result (List Event) RtcpRefusal
at_most_64 events = if nat_lt 64 (length events) then Err Many else Ok events

-- the events so far and those of the packet in front
unfoldable pub packet_read : List Event → List ℕ → Result Told RtcpRefusal
packet_read past octets = do
  body ← body_at octets
  events ← events_of body
  all ← at_most_64 (past ++ events)
  Ok (record { events = all; rest = body.rest })

-- and those of the packets behind it, in at most so many steps
unfoldable pub packets_within : ℕ → List Event → List ℕ → Result (List Event) RtcpRefusal
packets_within zero past octets = Err Short
packets_within (suc fuel) past octets = packet_read past octets >>= λ told.
    if length told.rest == 0 then Ok told.events else packets_within fuel told.events told.rest

-- the events of one or more packets
unfoldable pub rtcp : List ℕ → Result (List Event) RtcpRefusal
rtcp octets = packets_within (length octets) [] octets

-- ---- writing

-- a source description of one name: its chunk has 6 octets, the name and one to four octets 0
abbrev pub sdes_written : ℕ → List ℕ → List ℕ
sdes_written ssrc name =
    129 ∷ 202 ∷ (to_be_bytes w16 ((6 + length name) / 4 + 1) ++ (to_be_bytes w32 ssrc ++ (2 ∷ length name ∷ (name ++ replicate (4 - (6 + length name) % 4) 0))))

-- a leaving of one source
abbrev pub bye_written : ℕ → List ℕ
bye_written ssrc = 129 ∷ 203 ∷ 0 ∷ 1 ∷ to_be_bytes w32 ssrc

abbrev pub event_written : Event → List ℕ
event_written (event.Name ssrc name) = sdes_written ssrc name
event_written (event.Bye ssrc) = bye_written ssrc

-- what has a spelling
abbrev pub FitsEvent : Event → Type 0
FitsEvent (event.Name ssrc name) = (ssrc < 2 ^ 32) × ((0 < length name) × ((length name ≤ 255) × IsUtf8 name))
FitsEvent (event.Bye ssrc) = ssrc < 2 ^ 32

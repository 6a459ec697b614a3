-- What a recording has: the streams of text, the packets of other payload types, and what is no packet (RFC 3550, section 5.1;
-- which are kept apart is a profile).
use Rattle.std.specs.Prelude.{◌≡◌, ℕ, ◌+◌, ◌*◌, ◌/◌, ◌%◌, ◌==◌, ◌&&◌, ◌||◌, Bool, true, false, not, Option, None, Some, List, [], ◌∷◌, filter, slice_index, Result, Ok, Err, nat_le, if◌then◌else◌}
use Rattle.std.specs.List.{filter_map, list_any, list_all}
use Rattle.rtt_base.specs.declared.text_packets.PayloadTypes.{PayloadTypes}
use Rattle.wire_spec.specs.declared.faults.RtpFault.{RtpFault}
use Rattle.wire_spec.specs.declared.faults.TextFault.{TextFault}
use Rattle.wire_spec.specs.declared.faults.TextFault.TheVariants.{Long, NotText}
use Rattle.wire_spec.specs.Packets.{Packet, has_text}
use Rattle.wire_spec.specs.Rtp.{Reading, rtp}
use Rattle.wire_spec.specs.Text.{text_of}
use Rattle.wire_spec.specs.Dump.{Item, What, Whole}
use Rattle.wire_spec.specs.Dump as dumps
use Rattle.file_spec.specs.declared.limits.TheConstants.{FIRST_TYPE, LAST_TYPE}
use Rattle.command_spec.specs.Firsts.{Firsts, firsts}

-- ---- what a record is

-- a packet, of which no more than the header is read here, or none
pub data Sort : Type 0 where
  Headed : (header : Reading) → Sort
  NoRtp : Sort
  Rtcp : Sort
  Cut : Sort
  Large : Sort

-- A packet of RTCP has a second octet of 192 to 223 (RFC 5761, section 4).
abbrev pub is_rtcp : List ℕ → Bool
is_rtcp octets = nat_le 192 (slice_index octets 1) && nat_le (slice_index octets 1) 223

abbrev pub headed : Result Reading RtpFault → Sort
headed (Ok header) = Headed header
headed (Err fault) = NoRtp

abbrev pub sort_of_what : What → Sort
sort_of_what (Whole octets) = if is_rtcp octets then Rtcp else headed (rtp octets)
sort_of_what dumps.Rtcp = Rtcp
sort_of_what dumps.Cut = Cut
sort_of_what dumps.Large = Large

abbrev pub sort_of : Item → Sort
sort_of item = sort_of_what item.what

-- both are the same, and none whose header is read
abbrev pub is_same_sort : Sort → Sort → Bool
is_same_sort NoRtp NoRtp = true
is_same_sort Rtcp Rtcp = true
is_same_sort Cut Cut = true
is_same_sort Large Large = true
is_same_sort _ _ = false

-- ---- streams and pairs

abbrev pub is_of_text : PayloadTypes → Reading → Bool
is_of_text payload_types header = header.pt == payload_types.t140 || header.pt == payload_types.red

-- the SSRC of a packet with one of the two payload types of text: its stream
abbrev pub stream_of : PayloadTypes → Sort → Option ℕ
stream_of payload_types (Headed header) = if is_of_text payload_types header then Some header.ssrc else None
stream_of payload_types _ = None

-- an SSRC and a payload type of seven bits, as one number
abbrev pub pair : ℕ → ℕ → ℕ
pair ssrc pt = 128 * ssrc + pt

abbrev pub ssrc_of : ℕ → ℕ
ssrc_of pair = pair / 128

abbrev pub type_of : ℕ → ℕ
type_of pair = pair % 128

-- the pair of a packet with another payload type
abbrev pub pair_of : PayloadTypes → Sort → Option ℕ
pair_of payload_types (Headed header) = if is_of_text payload_types header then None else Some (pair header.ssrc header.pt)
pair_of payload_types _ = None

-- the first 64 of what records name
abbrev pub named : (Sort → Option ℕ) → List Item → Firsts
named name items = firsts (filter_map (λ item. name (sort_of item)) items)

abbrev pub is_name : ℕ → Option ℕ → Bool
is_name name None = false
is_name name (Some x) = x == name

-- the records that name this
abbrev pub naming : (Sort → Option ℕ) → ℕ → List Item → List Item
naming name x items = filter (λ item. is_name x (name (sort_of item))) items

abbrev pub streams : PayloadTypes → List Item → Firsts
streams payload_types items = named (stream_of payload_types) items

abbrev pub stream : PayloadTypes → ℕ → List Item → List Item
stream payload_types ssrc items = naming (stream_of payload_types) ssrc items

abbrev pub pairs : PayloadTypes → List Item → Firsts
pairs payload_types items = named (pair_of payload_types) items

abbrev pub packets_of : PayloadTypes → ℕ → List Item → List Item
packets_of payload_types pair items = naming (pair_of payload_types) pair items

-- ---- what a packet is as one of text of an SSRC

abbrev pub octets_of : What → List ℕ
octets_of (Whole octets) = octets
octets_of _ = []

abbrev pub text_at : ℕ → PayloadTypes → Item → Result Packet TextFault
text_at ssrc payload_types item = text_of (octets_of item.what) (Some ssrc) payload_types

abbrev pub source_in : Result Packet TextFault → Option ℕ
source_in (Ok packet) = Some packet.source
source_in (Err fault) = None

-- the sources of a stream: the first 64 that its packets of text name
abbrev pub sources : ℕ → PayloadTypes → List Item → Firsts
sources ssrc payload_types came = firsts (filter_map (λ item. source_in (text_at ssrc payload_types item)) came)

-- ---- what the packets of a pair may be

-- it is a text, or would be one if its text were shorter or other octets
abbrev pub is_like_text : Result Packet TextFault → Bool
is_like_text (Ok packet) = true
is_like_text (Err Long) = true
is_like_text (Err NotText) = true
is_like_text (Err _) = false

abbrev pub are_like_text : ℕ → PayloadTypes → List Item → Bool
are_like_text ssrc payload_types came = list_all (λ item. is_like_text (text_at ssrc payload_types item)) came

abbrev pub payload_in : Sort → List ℕ
payload_in (Headed header) = header.payload
payload_in _ = []

abbrev pub payload_of : Item → List ℕ
payload_of item = payload_in (sort_of item)

-- the payload types that are given to text (RFC 3551, section 3)
abbrev pub is_dynamic : ℕ → Bool
is_dynamic pt = nat_le FIRST_TYPE pt && nat_le pt LAST_TYPE

-- both are given to text
abbrev pub AreGiven : PayloadTypes → Type 0
AreGiven payload_types = (is_dynamic payload_types.t140 ≡ true) × (is_dynamic payload_types.red ≡ true)

-- the type in the first header of a red payload
abbrev pub first_type : List ℕ → ℕ
first_type payload = slice_index payload 0 % 128

-- that of the first packet
abbrev pub type_inside : List Item → ℕ
type_inside [] = 0
type_inside (item ∷ items) = first_type (payload_of item)

-- F is 1 in the first header
abbrev pub has_redundant : List ℕ → Bool
has_redundant payload = nat_le 128 (slice_index payload 0)

-- they may be red, with text of this type inside
abbrev pub may_be_red : ℕ → ℕ → ℕ → List Item → Bool
may_be_red ssrc pt t140 came =
    is_dynamic t140 && not (t140 == pt)
    && list_any (λ item. has_redundant (payload_of item)) came
    && are_like_text ssrc (record { t140 = t140; red = pt }) came

-- they may be plain texts; the type of red is one that none of them has
abbrev pub may_be_text : ℕ → ℕ → List Item → Bool
may_be_text ssrc pt came =
    list_any (λ item. has_text (payload_of item)) came && are_like_text ssrc (record { t140 = pt; red = 0 }) came

-- What a packet of text that is looked at where it lies stands for (RFC 2198, section 3; RFC 4103, section 4).
use Rattle.std.specs.Prelude.{◌≡◌, ℕ, ◌*◌, ◌≤◌, List, [], ◌∷◌, ◌++◌, length, take, drop, Ok}
use Rattle.std.specs.Str.{IsAscii}
use Rattle.rtt_base.specs.declared.blocks.TextBlock.{TextBlock}
use Rattle.rtt_base.specs.declared.text_packets.PayloadTypes.{PayloadTypes}
use Rattle.rtt_base.specs.declared.limits.TheConstants.{MOST_PRIMARY_OCTETS}
use Rattle.wire_spec.specs.declared.headers.RedHeader.{RedHeader}
use Rattle.wire_spec.specs.Packets.{Packet, primary}
use Rattle.wire_spec.specs.Rtp.{Reading}
use Rattle.wire_spec.specs.Red.{older_size, red_within}
use Rattle.wire_spec.specs.Text.{text_packet}
use Rattle.rtp_text.specs.Reading.{headers_of}
use Rattle.rtp_text.specs.declared.views.TextView.{TextView}

-- the redundant blocks of these headers, whose texts stand one behind the other
abbrev pub older_at : List RedHeader → List ℕ → List TextBlock
older_at [] octets = []
older_at (h ∷ hs) octets = record { offset = h.offset; text = take h.size octets } ∷ older_at hs (drop h.size octets)

-- the headers of the redundant blocks
abbrev pub headers_in : TextView → List RedHeader
headers_in v = headers_of v.count v.headers.now

-- the redundant blocks
abbrev pub older_in : TextView → List TextBlock
older_in v = older_at (headers_in v) v.older.now

-- all blocks, the primary one last
abbrev pub blocks_in : TextView → List TextBlock
blocks_in v = older_in v ++ primary v.primary.now ∷ []

-- the packet
abbrev pub packet_in : TextView → Packet
packet_in v =
    record { marker_bit = v.marker_bit; seq = v.seq; timestamp = v.timestamp; ssrc = v.ssrc; source = v.source; older = older_in v; primary = v.primary.now }

-- all that a view speaks of is there, and its texts are ASCII
pub record IsView (v : TextView) : Type 0 where
  pub few : v.count ≤ 8
  pub headers : 4 * v.count ≤ length v.headers.now
  pub older : length v.older.now ≡ older_size (headers_in v)
  pub primary : length v.primary.now ≤ MOST_PRIMARY_OCTETS
  pub older_ascii : IsAscii v.older.now
  pub primary_ascii : IsAscii v.primary.now

-- texts that are cut into the redundant ones, of so many octets, and the primary one, of at most so many
pub record IsCut (most size : ℕ) (texts front back : List ℕ) : Type 0 where
  pub enough : size ≤ length texts
  pub older : front ≡ take size texts
  pub primary : back ≡ drop size texts
  pub few : length back ≤ most
  pub ascii : IsAscii texts

-- the packet that has this header and payload, where a primary text has at most so many octets
pub record IsPacketOf (most : ℕ) (r : Reading) (payload_types : PayloadTypes) (v : TextView) : Type 0 where
  pub blocks : red_within most r.payload r.pt payload_types ≡ Ok (blocks_in v)
  pub packet : text_packet r (blocks_in v) ≡ packet_in v

-- What a packet of text brings that comes behind others.
use Rattle.std.specs.Prelude.{◌≡◌, ◌≤◌, ℕ, true, None, Ok, List, length}
use Rattle.rtt_base.specs.declared.text_packets.PayloadTypes.{PayloadTypes}
use Rattle.stream_spec.specs.Still.{is_blank}
use Rattle.wire_spec.specs.Packets.{Packet}
use Rattle.wire_spec.specs.Text.{text_of}
use Rattle.recorded_links.specs.declared.arrivals.PacketRun.{PacketRun}
use Rattle.recorded_links.specs.declared.arrivals.PacketShape.{PacketShape}

-- octets are this packet of text, and of it this is told
pub record IsShapeOf (octets : List ℕ) (payload_types : PayloadTypes) (shape : PacketShape) (p : Packet) : Type 0 where
  pub read : text_of octets None payload_types ≡ Ok p
  pub ssrc : p.ssrc ≡ shape.ssrc
  pub seq : p.seq ≡ shape.seq
  pub blocks : length p.older ≡ shape.blocks
  pub blank : is_blank p.primary ≡ shape.is_blank

abbrev pub HasShape : List ℕ → PayloadTypes → PacketShape → Type 0
HasShape octets payload_types shape = (p : Packet) × IsShapeOf octets payload_types shape p

-- A packet of text comes behind these. It has no text of its own, or one that only keeps the line alive, and its redundant blocks are as
-- many as these packets at most: so their texts are those of these packets.
pub record IsRepeatOf (run : PacketRun) (octets : List ℕ) (p : Packet) : Type 0 where
  pub read : text_of octets None run.payload_types ≡ Ok p
  pub ssrc : p.ssrc ≡ run.ssrc
  pub seq : p.seq ≡ run.next
  pub blocks : length p.older ≤ run.count
  pub blank : is_blank p.primary ≡ true

abbrev pub IsRepeat : PacketRun → List ℕ → Type 0
IsRepeat run octets = (p : Packet) × IsRepeatOf run octets p

-- What the head of a record tells of the octets behind it.
use Rattle.std.specs.Prelude.{◌≡◌, ◌≢◌, ◌≤◌, ℕ, ◌+◌, ◌-◌, Bool, List, length, take}
use Rattle.wire_spec.specs.Dump.{size_of, packet_size_of, time_of}
use Rattle.rtt_base.specs.declared.limits.TheConstants.{MOST_PACKET_OCTETS}
use Rattle.wire_spec.specs.declared.limits.TheConstants.{LAST_RECORD_MOMENT}
use Rattle.rtpdump_io.specs.declared.record_heads.RecordHead.{RecordHead}
use Rattle.rtpdump_io.specs.Found.{kept_of, wanted_of}

-- how many octets the record has behind its head
abbrev pub body_size : RecordHead → ℕ
body_size head = head.size - 8

-- how many of them are handed out
abbrev pub kept_size : Bool → RecordHead → ℕ
kept_size with_rtcp head = kept_of (wanted_of with_rtcp head.packet_size (body_size head)) (body_size head)

-- the record of this head begins at this byte, in front of these octets: it is all there, is nothing but a packet that is handed
-- out, and lies within the greatest length of the recording and its first four hours
pub record IsWholePacket (limit byte : ℕ) (octets : List ℕ) (head : RecordHead) : Type 0 where
  pub size : head.size ≡ size_of (take 8 octets)
  pub packet_size : head.packet_size ≡ packet_size_of (take 8 octets)
  pub time : head.time ≡ time_of (take 8 octets)
  pub some : head.packet_size ≢ 0
  pub all : head.packet_size + 8 ≡ head.size
  pub there : head.size ≤ length octets
  pub fits : head.packet_size ≤ MOST_PACKET_OCTETS
  pub within : byte + head.size ≤ limit
  pub early : head.time ≤ LAST_RECORD_MOMENT

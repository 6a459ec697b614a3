-- What the packets of another payload type may be (profile).
use Rattle.std.specs.Prelude.{ℕ, ◌*◌, ◌&&◌, Bool, true, false, List, [], ◌++◌, length, filter, Result, Ok, Err, nat_le, codes, decimal, if◌then◌else◌}
use Rattle.rtt_base.specs.declared.text_packets.PayloadTypes.{PayloadTypes}
use Rattle.wire_spec.specs.declared.faults.TextFault.{TextFault}
use Rattle.wire_spec.specs.Packets.{Packet, has_text}
use Rattle.wire_spec.specs.Dump.{Item}
use Rattle.command_spec.specs.Streams.{payload_of, text_at, is_dynamic, type_inside, may_be_red, may_be_text}

abbrev pub has_payload : Item → Bool
has_payload item = has_text (payload_of item)

-- those that have a payload
abbrev pub filled : List Item → List Item
filled came = filter has_payload came

abbrev pub is_ok : Result Packet TextFault → Bool
is_ok (Ok packet) = true
is_ok (Err fault) = false

-- it has a payload, and is a packet of text
abbrev pub is_accepted : ℕ → PayloadTypes → Item → Bool
is_accepted ssrc payload_types item = has_payload item && is_ok (text_at ssrc payload_types item)

abbrev pub accepted : ℕ → PayloadTypes → List Item → List Item
accepted ssrc payload_types came = filter (is_accepted ssrc payload_types) came

-- of those that have a payload at least half are packets of text
abbrev pub are_mostly_text : ℕ → PayloadTypes → List Item → Bool
are_mostly_text ssrc payload_types came = nat_le (length (filled came)) (2 * length (accepted ssrc payload_types came))

-- plain texts; the type of red is one that none of them has
abbrev pub may_be_plain : ℕ → ℕ → List Item → Bool
may_be_plain ssrc pt came = may_be_text ssrc pt came && are_mostly_text ssrc (record { t140 = pt; red = 0 }) came

abbrev pub guess : ℕ → ℕ → List Item → List ℕ
guess ssrc pt came =
    if may_be_red ssrc pt (type_inside came) came then codes " red of " ++ decimal (type_inside came)
    else (if may_be_plain ssrc pt came then codes " text" else [])

-- what they may be, where their type may be one of text
abbrev pub guess_line : ℕ → ℕ → List Item → List ℕ
guess_line ssrc pt came = if is_dynamic pt then guess ssrc pt came else []

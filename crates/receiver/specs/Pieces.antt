-- What is still to be heard of a packet (profile).
use Rattle.std.specs.Prelude.{ℕ, zero, suc, ◌-◌, ◌==◌, ◌&&◌, not, Bool, Option, List, [], ◌∷◌, ◌++◌, length, drop, if◌then◌else◌}
use Rattle.rtt_base.specs.declared.text_packets.TextPacket.{TextPacket}
use Rattle.stream_spec.specs.Hearing.{marker, text_list}
use Rattle.receiver.specs.Steps.{older_since}
use Rattle.receiver.specs.declared.receivers.LastPacket.{LastPacket}
use Rattle.receiver.specs.declared.pieces.TextCursor.{TextCursor}

-- those of so many blocks of the packet, the last ones: the redundant ones that are new, and the primary one
abbrev pub last_blocks : Option LastPacket → TextPacket → ℕ → List (List ℕ)
last_blocks seen p zero = []
last_blocks seen p (suc n) = older_since seen p.timestamp (drop (length p.older - n) p.older) ++ text_list p.primary

-- the texts that are still to be heard of this packet, in order
abbrev pub left_of : TextCursor → TextPacket → List (List ℕ)
left_of piece p = (if piece.marker then marker ∷ [] else []) ++ last_blocks piece.seen p piece.rest

-- nothing of whatever packet is still to be heard
abbrev pub is_heard : TextCursor → Bool
is_heard piece = not piece.marker && (piece.rest == 0)

-- What the parts of a receiver compute, from what is kept of a source (profile).
use Rattle.std.specs.Prelude.{ℕ, ◌+◌, ◌-◌, Bool, true, Option, None, Some, List, [], ◌∷◌, ◌++◌, length, ◌&&◌, nat_lt, if◌then◌else◌}
use Rattle.rtt_base.specs.declared.blocks.TextBlock.{TextBlock}
use Rattle.rtt_base.specs.declared.text_packets.TextPacket.{TextPacket}
use Rattle.rtt_base.specs.Timestamps.{is_after}
use Rattle.wire_spec.specs.Packets.{back}
use Rattle.stream_spec.specs.Hearing.{marker, text_list, oldest_offset}
use Rattle.receiver.specs.declared.receivers.Receiver.{Receiver}
use Rattle.receiver.specs.declared.receivers.LastPacket.{LastPacket}

-- how many numbers are missing where this one comes
abbrev pub missing_before : ℕ → Option ℕ → ℕ → ℕ
missing_before missing None number = missing
missing_before missing (Some latest) number = missing + (number - latest - 1)

abbrev pub missing_up_to : Receiver → ℕ → ℕ
missing_up_to r number = missing_before r.missing r.latest number

abbrev pub is_new_since : Option LastPacket → ℕ → Bool
is_new_since None timestamp = true
is_new_since (Some seen) timestamp = is_after timestamp seen.timestamp

abbrev pub missing_then : Option LastPacket → ℕ
missing_then None = 0
missing_then (Some seen) = seen.missing

abbrev pub is_marked_since : Option LastPacket → ℕ → ℕ → List TextBlock → Bool
is_marked_since seen missing timestamp older =
    nat_lt (length older) (missing - missing_then seen) && is_new_since seen (back timestamp (oldest_offset older))

-- the text of a block, where it is new
abbrev pub new_since : Option LastPacket → ℕ → TextBlock → List (List ℕ)
new_since seen timestamp b = if is_new_since seen (back timestamp b.offset) then text_list b.text else []

abbrev pub older_since : Option LastPacket → ℕ → List TextBlock → List (List ℕ)
older_since seen timestamp [] = []
older_since seen timestamp (b ∷ bs) = new_since seen timestamp b ++ older_since seen timestamp bs

abbrev pub texts_since : Option LastPacket → TextPacket → List (List ℕ)
texts_since seen p = older_since seen p.timestamp p.older ++ text_list p.primary

-- all that the packet gives
abbrev pub told_since : Option LastPacket → ℕ → TextPacket → List (List ℕ)
told_since seen missing p = (if is_marked_since seen missing p.timestamp p.older then marker ∷ [] else []) ++ texts_since seen p

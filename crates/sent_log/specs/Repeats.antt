-- What is kept of the packets that the next ones of a source repeat.
use Rattle.std.specs.Prelude.{◌≡◌, ◌<◌, ℕ, true, false, All, List, [], ◌∷◌, ◌++◌, min, drop, ◌-◌, if◌then◌else◌}
use Rattle.rtt_base.specs.Timestamps.{ahead}
use Rattle.rtt_base.specs.declared.limits.TheConstants.{MOST_OFFSET}
use Rattle.sent_log.specs.declared.repeats.PacketKey.{PacketKey}

-- nothing was sent yet
abbrev pub nothing : PacketKey
nothing = record { sent = false; timestamp = 0; number = 0 }

-- the last so many of the last three, oldest first
abbrev pub last_kept : ℕ → List PacketKey → List PacketKey
last_kept count kept = drop (3 - count) kept

-- the last three of a source of which nothing was sent
abbrev pub fresh : List PacketKey
fresh = nothing ∷ nothing ∷ nothing ∷ []

-- the last three, where one more was sent
abbrev pub with_one : PacketKey → List PacketKey → List PacketKey
with_one now kept = drop 1 kept ++ now ∷ []

-- how far it lies before a packet with this timestamp
abbrev pub offset_of : ℕ → PacketKey → ℕ
offset_of timestamp k = if k.sent then min MOST_OFFSET (ahead timestamp k.timestamp) else MOST_OFFSET

-- each that was sent has a number below this one
abbrev pub AreBelow : ℕ → List PacketKey → Type 0
AreBelow count kept = All (λ k. k.sent ≡ true → k.number < count) kept

-- the same source, of which nothing was sent
abbrev pub anew : List PacketKey → List PacketKey
anew kept = fresh

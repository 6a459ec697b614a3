-- What a window stands for: the last blocks that were sent of its source, with their timestamps (RFC 4103, section 4).
use Rattle.std.specs.Prelude.{◌≡◌, ℕ, zero, suc, ◌+◌, ◌%◌, ◌^◌, ◌<◌, ◌≤◌, true, false, Option, None, Some, List, [], ◌∷◌, take}
use Rattle.wire_spec.specs.Packets.{has_text}
use Rattle.stream_spec.specs.Lists.{In}
use Rattle.stream_spec.specs.Own.{Sent, nth}
use Rattle.packetizer.specs.declared.slots.KeptBlock.{KeptBlock}
use Rattle.rtt_base.specs.declared.limits.TheConstants.{MOST_OFFSET}

-- what is kept of an entry, if there is one; `base` is the timestamp of the media time 0
abbrev pub kept_of : ℕ → Option Sent → KeptBlock
kept_of base None = record { sent = false; timestamp = 0; text = [] }
kept_of base (Some e) = record { sent = true; timestamp = (base + e.media) % 2 ^ 32; text = e.text }

-- what is kept of the last g entries of these, which stand newest first: oldest first
abbrev pub kept_last : ℕ → ℕ → List Sent → List KeptBlock
kept_last zero base past = []
kept_last (suc g) base past = kept_of base (nth g past) ∷ kept_last g base past

-- the window has g generations, and these were sent of its source, newest first
pub record WindowStandsFor (g base : ℕ) (kept : List KeptBlock) (past : List Sent) : Type 0 where
  pub last : kept ≡ kept_last g base past

-- A block at this media time may be sent after these: it is later than each, and near to each text that it repeats.
pub record MayFollow (g media : ℕ) (past : List Sent) : Type 0 where
  pub later : (x : Sent) → In x (take g past) → (x.media < media) × (media < x.media + 2 ^ 31)
  pub near : (x : Sent) → In x (take g past) → has_text x.text ≡ true → media ≤ x.media + MOST_OFFSET

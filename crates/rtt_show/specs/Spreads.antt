-- The numbers of the packets of text of a stream.
use Rattle.std.specs.Prelude.{◌≡◌, ℕ, ◌+◌, ◌*◌, ◌≤◌, List, ◌∷◌, length}
use Rattle.stream_spec.specs.Numbering.{Numbered, number_after, first_number, greatest}
use Rattle.rtt_show.specs.declared.spreads.Spread.{Spread}

-- those of these packets, newest first
pub record IsSpread (s : Spread) (past : List Numbered) : Type 0 where
  pub packets : s.packets ≡ length past
  pub first : s.first ≡ first_number 0 past
  pub top : s.top ≡ greatest past

-- so many packets came at most, and no number is greater
pub record IsNarrow (n : ℕ) (s : Spread) : Type 0 where
  pub packets : s.packets ≤ n
  pub top : s.top ≤ 131072 + 32768 * n

-- a packet with this sequence number came besides, and this is its number
pub record SpreadsBy (old : Spread) (seq number : ℕ) (new : Spread) : Type 0 where
  pub is : (past : List Numbered) → IsSpread old past → number ≡ number_after past seq
  pub more : (past : List Numbered) (e : Numbered) → IsSpread old past → e.number ≡ number → IsSpread new (e ∷ past)

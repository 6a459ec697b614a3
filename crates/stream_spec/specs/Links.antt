-- What the inbound end of a link gives, one take after the other (profile). Moments are in milliseconds.
use Rattle.std.specs.Prelude.{ℕ, Bool, true, false, List, [], ◌∷◌, ◌||◌}

-- a datagram came, or one that is longer than a packet may be; or nothing did by then; or the link is closed for good
pub data Came : Type 0 where
  Datagram : List ℕ → Came
  Large : Came
  Quiet : Came
  Closed : Came

pub record Taken : Type 0 where
  pub at : ℕ
  pub came : Came

-- what the takes so far gave, newest first
abbrev pub Takes : Type 0
Takes = List Taken

-- the link is closed with it
abbrev pub is_closing : Came → Bool
is_closing (Datagram octets) = false
is_closing Large = false
is_closing Quiet = false
is_closing Closed = true

-- one of these closed the link
abbrev pub is_closed : Takes → Bool
is_closed [] = false
is_closed (t ∷ past) = is_closing t.came || is_closed past

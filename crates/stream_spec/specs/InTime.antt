-- What it means that a packet is used and that a number is given up, in words of what came (profile).
use Rattle.std.specs.Prelude.{◌≡◌, ℕ, ◌+◌, ◌<◌, ◌≤◌, true, List, [], ◌∷◌, ◌++◌, length}
use Rattle.stream_spec.specs.Lists.{In}
use Rattle.stream_spec.specs.Numbering.{Numbered, in_time}
use Rattle.rtt_base.specs.declared.limits.TheConstants.{MOST_HELD}

-- x stands among these, and was in time after those that came before it
pub record CameInTime (wait : ℕ) (past : List Numbered) (x : Numbered) : Type 0 where
  pub newer : List Numbered
  pub older : List Numbered
  pub stands : past ≡ newer ++ x ∷ older
  pub timely : in_time wait x older ≡ true

-- a packet with this number came
abbrev pub HasCome : List Numbered → ℕ → Type 0
HasCome past n = (x : Numbered) × In x past × (x.number ≡ n)

-- a greater number came `wait` before t, or earlier
pub record IsOverdue (wait : ℕ) (past : List Numbered) (t n : ℕ) : Type 0 where
  pub greater : Numbered
  pub came : In greater past
  pub above : n < greater.number
  pub waited : greater.time + wait ≤ t

-- no number stands twice
abbrev pub Different : List ℕ → Type 0
Different [] = Unit {0}
Different (m ∷ ms) = (In m ms → ⊥) × Different ms

-- more than MOST_HELD different numbers came that are greater than n
pub record IsOvertaken (past : List Numbered) (n : ℕ) : Type 0 where
  pub numbers : List ℕ
  pub many : MOST_HELD < length numbers
  pub different : Different numbers
  pub above : (m : ℕ) → In m numbers → n < m
  pub came : (m : ℕ) → In m numbers → HasCome past m

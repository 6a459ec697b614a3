-- What is settled and what is held of the arrivals so far (profile). `past` is newest first, `t` is the greatest
-- moment so far.
use Rattle.std.specs.Prelude.{◌≡◌, ℕ, ◌-◌, ◌<◌, ◌≤◌, ◌⊎◌, true, List, ◌++◌, length}
use Rattle.stream_spec.specs.Lists.{In}
use Rattle.stream_spec.specs.Numbering.{Numbered, RisingNumbers, used, first_number, has_number, distinct_from, is_given_up}
use Rattle.stream_spec.specs.Ready.{moments, latest_end}

-- `front`: below it each number has come or is given up. `out`: what is settled. `held`: the rest. Both rise.
pub record HoldsNumbers (wait : ℕ) (past : List Numbered) (t first front : ℕ) (out held : List Numbered) : Type 0 where
  pub used_is : used wait past ≡ out ++ held
  pub first_is : (n : ℕ) → first_number n past ≡ first
  pub begun : first ≤ front
  pub low : (u : Numbered) → In u out → u.number < front
  pub high : (u : Numbered) → In u held → front ≤ u.number
  pub rising : RisingNumbers held
  pub came : (u : Numbered) → In u past → u.time ≤ t
  pub all : (u : Numbered) → In u past → front ≤ u.number
      → (v : Numbered) × In v held × (v.number ≡ u.number) × (v.time ≤ u.time)
  pub count : distinct_from front past ≡ length held
  pub ended : (n : ℕ) → first ≤ n → n < front → (has_number past n ≡ true) ⊎ (is_given_up wait past t n ≡ true)

-- Each number from the first below the front has ended by t, the latest of them at `latest`.
pub record Timed (wait : ℕ) (past : List Numbered) (t first front latest : ℕ) : Type 0 where
  pub latest_is : latest ≡ latest_end wait past first (front - first)
  pub by_now : (n : ℕ) → first ≤ n → n < front → (m : ℕ) × In m (moments wait past n) × (m ≤ t)

-- Numbers within their ranges (profile).
use Rattle.std.specs.Prelude.{ℕ, ◌≤◌}

pub record IsBetween (least most n : ℕ) : Type 0 where
  pub low : least ≤ n
  pub high : n ≤ most

-- What a composer keeps.
use Rattle.std.specs.Prelude.{ℕ, Bool, Option, List}
use Rattle.unaware_view.specs.declared.runs.Run.{Run}
use Rattle.unaware_view.specs.declared.composers.Current.{Current}

pub record State : Type 0 where
  pub own : ℕ
  pub room : ℕ
  pub current : Option Current
  pub run : Run
  pub waits : List Bool
  pub since : List (Option ℕ)
  pub asked : ℕ
  pub relabel : Option ℕ

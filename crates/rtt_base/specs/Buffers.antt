-- What it means that octets are appended.
use Rattle.std.specs.Prelude.{◌≡◌, ℕ, ◌+◌, ◌≤◌, ◌↔◌, Option, List, ◌++◌, length, Result, IsOk, IfSome, OnOk, OnErr}

-- Octets are appended, or refused: exactly where they pass the greatest length, if there is one. After a refusal all is
-- as before.
pub record Appends {T E : Type 0} (greatest : Option ℕ) (before after octets : List ℕ) (result : Result T E) : Type 0 where
  pub room : IfSome greatest (λ most. IsOk result ↔ (length before + length octets ≤ most))
  pub ok : OnOk result (after ≡ before ++ octets)
  pub err : OnErr result (after ≡ before)

-- Octets that are written page by page.
use Rattle.std.specs.Prelude.{◌≡◌, ℕ, ◌++◌, List}

-- of these octets the sink took a front behind what it had before, and the page holds the rest
pub record HoldsRest (before took page octets : List ℕ) : Type 0 where
  pub front : List ℕ
  pub taken : took ≡ before ++ front
  pub rest : octets ≡ front ++ page

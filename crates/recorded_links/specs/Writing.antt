-- What a call that writes to a file leaves.
use Rattle.std.specs.Prelude.{◌≡◌, ◌≢◌, ◌⊎◌, ℕ, ◌++◌, Option, Some, IsSome, List, take}
use Rattle.rtt_io.specs.Counts.{Rose}
use Rattle.rtt_io.specs.Names.{Same}
use Rattle.recorded_links.specs.Names.{numbered}

-- a file took some octets of what was pending, and the rest is pending
pub record IsFurther (took pending more less : List ℕ) : Type 0 where
  pub went : List ℕ
  pub taken : more ≡ took ++ went
  pub rest : pending ≡ went ++ less

module _ {J : Type 0} where
  -- a fault of this name was counted
  abbrev pub IsCaused : (own objects : J → List ℕ → ℕ) → J → J → List ℕ → Type 0
  IsCaused own objects old new name = Rose (own old name) (own new name) ⊎ Rose (objects old name) (objects new name)

  -- no fault was
  abbrev pub IsCalm : (own objects : J → List ℕ → ℕ) → J → J → Type 0
  IsCalm own objects old new = Same own old new × Same objects old new

  -- where something was under the name, what the file took lies there now, and a front of these octets
  abbrev pub LeavesFront : (J → List ℕ → Option (List ℕ)) → J → J → (name took octets : List ℕ) → Type 0
  LeavesFront contents old new name took octets = IsSome (contents old name)
      → (n : ℕ) × (contents new name ≡ Some (took ++ take n octets))

  -- what lies under names other than these two stays
  abbrev pub SameButBoth : (name other : List ℕ) → (J → List ℕ → Option (List ℕ)) → J → J → Type 0
  SameButBoth name other contents old new = (n : List ℕ) → n ≢ name → n ≢ other → contents new n ≡ contents old n

  -- what lies under names that are no names of this recording's files stays
  abbrev pub TouchesOwn : (J → List ℕ → Option (List ℕ)) → J → J → (stem : List ℕ) → Type 0
  TouchesOwn contents old new stem = (n : List ℕ) → ((k : ℕ) → n ≢ numbered stem k) → contents new n ≡ contents old n

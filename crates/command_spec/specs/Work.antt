-- What a command is: it reads files, one after another, and comes to a refusal or to what it makes (profile).
use Rattle.std.specs.Prelude.{◌≡◌, ℕ, zero, suc, Bool, Option, Some, List, [], ◌∷◌, ◌++◌}
use Rattle.file_spec.specs.Conference.{Conference}
use Rattle.command_spec.specs.declared.faults.Refusal.{Refusal}

-- the octets under each name
abbrev pub Contents : Type 0
Contents = List ℕ → Option (List ℕ)

-- a file that is made: its name and its octets
pub record Made : Type 0 where
  pub name : List ℕ
  pub octets : List ℕ

-- the next file is read, and its octets say what comes then; or an input is refused; or this is printed, and these
-- files are made, in this order; or a live call of this conference is served over its links
pub data Steps : Type 0 where
  Reads : (name : List ℕ) → (List ℕ → Steps) → Steps
  Refuses : (input : ℕ) → (refusal : Refusal) → Steps
  Makes : (printed : List ℕ) → (files : List Made) → Steps
  Serves : (conference : Conference) → Steps

-- the same, and behind what is printed stands this
abbrev pub and_prints : List ℕ → Steps → Steps
and_prints more (Reads name next) = Reads name (λ octets. and_prints more (next octets))
and_prints more (Refuses input refusal) = Refuses input refusal
and_prints more (Makes printed files) = Makes (printed ++ more) files
and_prints more (Serves c) = Serves c

-- the steps, and whether it prints
pub record Work : Type 0 where
  pub prints : Bool
  pub steps : Steps

-- the file of this number that is read, where the octets of those before it lie there, as far as that is told
abbrev pub IsInput : (Told : Type 0) → Contents → Steps → ℕ → List ℕ → Type 0
IsInput Told held (Reads name next) zero file = file ≡ name
IsInput Told held (Reads name next) (suc n) file =
    (octets : List ℕ) × (Told → held name ≡ Some octets) × IsInput Told held (next octets) n file
IsInput Told held (Refuses input refusal) n file = ⊥
IsInput Told held (Makes printed files) n file = ⊥
IsInput Told held (Serves c) n file = ⊥

-- the file of this number among those that are made
abbrev pub IsNth : List Made → ℕ → List ℕ → Type 0
IsNth [] n file = ⊥
IsNth (made ∷ more) zero file = file ≡ made.name
IsNth (made ∷ more) (suc n) file = IsNth more n file

-- the file of this number that is made, where the octets of what is read lie there, as far as that is told
abbrev pub IsOutput : (Told : Type 0) → Contents → Steps → ℕ → List ℕ → Type 0
IsOutput Told held (Reads name next) n file =
    (octets : List ℕ) × (Told → held name ≡ Some octets) × IsOutput Told held (next octets) n file
IsOutput Told held (Refuses input refusal) n file = ⊥
IsOutput Told held (Makes printed files) n file = IsNth files n file
IsOutput Told held (Serves c) n file = ⊥

-- a live call is served of a conference of which this holds, where the octets of what is read lie there, as far as that is told
abbrev pub ServesSome : (Told : Type 0) → Contents → Steps → (Conference → Type 0) → Type 0
ServesSome Told held (Reads name next) P =
    (octets : List ℕ) × (Told → held name ≡ Some octets) × ServesSome Told held (next octets) P
ServesSome Told held (Refuses input refusal) P = ⊥
ServesSome Told held (Makes printed files) P = ⊥
ServesSome Told held (Serves c) P = P c

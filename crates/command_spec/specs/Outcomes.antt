-- What work comes to where nothing outside fails (profile).
use Rattle.std.specs.Prelude.{◌≡◌, ◌≢◌, ℕ, ◌+◌, None, Some, List, [], ◌∷◌}
use Rattle.file_spec.specs.Conference.{Conference}
use Rattle.command_spec.specs.declared.faults.Refusal.{Refusal}
use Rattle.command_spec.specs.Work.{Contents, Made, Steps, Reads, Refuses, Makes, Serves}

-- nothing lies under the name of an input, or what lies there is refused, or all is made, or a live call is served
pub data Outcome : Type 0 where
  Missing : (input : ℕ) → Outcome
  Refused : (input : ℕ) → (refusal : Refusal) → Outcome
  Done : (printed : List ℕ) → (files : List Made) → Outcome
  Served : (conference : Conference) → Outcome

-- the outcome, where so many files were read before
abbrev pub outcome_from : ℕ → Contents → Steps → Outcome
outcome_from n held (Reads name next) =
    elim (held name) [ None ↦ Missing n | Some octets ↦ outcome_from (n + 1) held (next octets) ]
outcome_from n held (Refuses input refusal) = Refused input refusal
outcome_from n held (Makes printed files) = Done printed files
outcome_from n held (Serves c) = Served c

abbrev pub outcome : Contents → Steps → Outcome
outcome held steps = outcome_from 0 held steps

-- All is made, and this holds of it. What a live call prints is decided by what its links give; it makes no file.
abbrev pub IsDone : Outcome → (List ℕ → List Made → Type 0) → Type 0
IsDone (Missing input) P = ⊥
IsDone (Refused input refusal) P = ⊥
IsDone (Done printed files) P = P printed files
IsDone (Served c) P = (printed : List ℕ) × P printed []

-- ---- what lies there then

-- under each name what lay there before
abbrev pub Same : Contents → Contents → Type 0
Same old new = (name : List ℕ) → new name ≡ old name

-- one file lies there, and all others as before
pub record Stores (file : Made) (old new : Contents) : Type 0 where
  pub stored : new file.name ≡ Some file.octets
  pub others : (name : List ℕ) → name ≢ file.name → new name ≡ old name

-- these files are made, in this order, and all others are as before
abbrev pub AllStored : List Made → Contents → Contents → Type 0
AllStored [] old new = Same old new
AllStored (file ∷ more) old new = (between : Contents) × Stores file old between × AllStored more between new

-- whatever lies in the files, this holds of what these steps make of a file
abbrev pub HoldsOfMade : (List ℕ → Steps) → (Contents → Contents → List ℕ → List ℕ → Type 0) → Type 0
HoldsOfMade steps P =
    (held after : Contents) (file printed : List ℕ) (files : List Made)
    → outcome held (steps file) ≡ Done printed files
    → AllStored files held after
    → P held after file printed

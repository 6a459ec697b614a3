-- What is read of a file, and what is written of one.
use Rattle.std.specs.Prelude.{◌≡◌, ◌⊎◌, ◌<◌, ℕ, Option, Some, List, ◌++◌, length, take}
use Rattle.command_spec.specs.Work.{Contents, Made}
use Rattle.command_spec.specs.Outcomes.{Same, Stores}

-- these octets are the whole, or more than `most` of it from its front
abbrev pub IsFrontOf : ℕ → List ℕ → List ℕ → Type 0
IsFrontOf most octets whole = (whole ≡ octets) ⊎ ((most < length octets) × (rest : List ℕ) × (whole ≡ octets ++ rest))

-- these octets were read of what lies there: the whole, or more than `most` of it from its front
abbrev pub IsReadOf : ℕ → Option (List ℕ) → List ℕ → Type 0
IsReadOf most held octets = (whole : List ℕ) × (held ≡ Some whole) × IsFrontOf most octets whole

-- the file of this name with these octets
abbrev pub made_file : List ℕ → List ℕ → Made
made_file name octets = record { name = name; octets = octets }

-- nothing is changed, where creating the file failed; or a front of the file is there, where its sink failed
abbrev pub IsPartlyStored : (Call Object : Type 0) → Made → Contents → Contents → Type 0
IsPartlyStored Call Object file old new =
    (Call × Same old new) ⊎ (Object × ((n : ℕ) × Stores (record file { octets = take n file.octets }) old new))

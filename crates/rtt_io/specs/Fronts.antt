-- What a write that fails leaves behind: some of the octets, from the front, or none.
use Rattle.std.specs.Prelude.{ℕ, ◌≡◌, List, ◌++◌, take, Option}
use Rattle.std.specs.Io.KnownBytes.{Appends}

-- a front of these octets was taken
abbrev pub TakesFront : List ℕ → List ℕ → List ℕ → Type 0
TakesFront old new octets = (n : ℕ) × (new ≡ old ++ take n octets)

-- the same where what a writer holds may be unknown
abbrev pub AppendsFront : Option (List ℕ) → Option (List ℕ) → List ℕ → Type 0
AppendsFront old new octets = (n : ℕ) × Appends old new (take n octets)

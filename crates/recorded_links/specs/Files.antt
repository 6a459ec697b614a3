-- What lies under the names of a recording's files.
use Rattle.std.specs.Prelude.{◌≡◌, ℕ, ◌+◌, Option, Some, List, [], ◌∷◌, map}
use Rattle.live_spec.specs.Recorded.{Parts, all_parts, part_written}
use Rattle.recorded_links.specs.Names.{numbered}

-- the octets of all files of a recording
abbrev pub files_written : ℕ → Parts → List (List ℕ)
files_written start ps = map (part_written start) (all_parts ps)

-- these octets lie under the names of the files from this number on
abbrev pub AreFrom : List ℕ → (List ℕ → Option (List ℕ)) → ℕ → List (List ℕ) → Type 0
AreFrom stem contents k [] = Unit {0}
AreFrom stem contents k (f ∷ files) = (contents (numbered stem k) ≡ Some f) × AreFrom stem contents (k + 1) files

-- and from the first one on
abbrev pub AreUnder : List ℕ → (List ℕ → Option (List ℕ)) → List (List ℕ) → Type 0
AreUnder stem contents files = AreFrom stem contents 1 files

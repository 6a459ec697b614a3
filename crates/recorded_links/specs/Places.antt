-- What a place in a recording tells.
use Rattle.std.specs.Prelude.{◌≡◌, ℕ, Bool, List, [], length}
use Rattle.live_spec.specs.Recorded.{Entry, Part, part_written, has_room, with_entry}
use Rattle.recorded_links.specs.declared.places.FilePosition.{FilePosition}

abbrev pub entry : ℕ → List ℕ → Entry
entry at octets = record { at = at; octets = octets }

-- it is the place behind this file
pub record IsPlaceOf (start : ℕ) (p : Part) (place : FilePosition) : Type 0 where
  pub begins : place.begins ≡ p.begins
  pub size : place.size ≡ length (part_written start p)

-- where a file begins
abbrev pub IsBegun : ℕ → FilePosition → Type 0
IsBegun begins place = (start : ℕ) → IsPlaceOf start (record { begins = begins; entries = [] }) place

abbrev pub TellsRoom : FilePosition → ℕ → List ℕ → Bool → Type 0
TellsRoom place at octets told = (start : ℕ) (p : Part) → IsPlaceOf start p place
    → told ≡ has_room start p (entry at octets)

-- the one is that behind one record more
abbrev pub IsAfter : FilePosition → List ℕ → FilePosition → Type 0
IsAfter old octets new = (start at : ℕ) (p : Part) → IsPlaceOf start p old
    → IsPlaceOf start (with_entry p (entry at octets)) new

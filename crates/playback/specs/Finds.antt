-- Where the records of a recording stand in its octets.
use Rattle.std.specs.Prelude.{◌≡◌, ℕ, ◌<◌, ◌≤◌, All, List, length, drop, slice_index, flat_map}
use Rattle.wire_spec.specs.Dump.{record_written}
use Rattle.playback.specs.Written.{AreRecords, moments_of}
use Rattle.playback.specs.declared.indexes.RecordIndex.{RecordIndex}

-- where the records of these octets stand
pub record Stand (places : List ℕ) (octets : List ℕ) (front records : List (ℕ × List ℕ)) : Type 0 where
  pub each : length places ≡ length front
  pub there : (k : ℕ) → k < length front → drop (slice_index places k) octets ≡ flat_map record_written (drop k records)

-- all are found: their moments, and where each begins
pub record Finds (found : RecordIndex) (octets : List ℕ) (records : List (ℕ × List ℕ)) : Type 0 where
  pub moments : found.moments.items ≡ moments_of records
  pub places : Stand found.places.items octets records records

-- whatever records these octets are, all are found
abbrev pub FindsAll : RecordIndex → List ℕ → Type 0
FindsAll found octets = (all : List (ℕ × List ℕ)) → AreRecords octets all → Finds found octets all

-- they are the octets of some records, all of which are found
abbrev pub AreFound : RecordIndex → List ℕ → Type 0
AreFound found octets = (all : List (ℕ × List ℕ)) × (AreRecords octets all) × (Finds found octets all)

-- none is found behind the end of the octets
abbrev pub LieWithin : RecordIndex → List ℕ → Type 0
LieWithin found octets = All (λ place. place ≤ length octets) found.places.items

-- The octets of a recording that lies in memory, as they are written (profile).
use Rattle.std.specs.Prelude.{◌≡◌, ℕ, ◌<◌, ◌≤◌, ◌^◌, ◌++◌, Option, MatchOption, List, length, flat_map}
use Rattle.wire_spec.specs.Dump.{record_written, dump_written}
use Rattle.std.specs.List.{AllByRecursion}

-- a packet's moment, in milliseconds, and its octets
pub record IsRecord (r : ℕ × List ℕ) : Type 0 where
  pub moment : r.0 < 2 ^ 32
  pub fits : length r.1 ≤ 65527

-- these octets are a written recording
abbrev pub IsDump : List ℕ → Type 0
IsDump octets = (records : List (ℕ × List ℕ)) × (octets ≡ dump_written records)

-- the rest is all records of the recording, without its line and its head
abbrev pub IsBehindOpening : List ℕ → List ℕ → Type 0
IsBehindOpening rest recording = (records : List (ℕ × List ℕ)) → recording ≡ dump_written records
    → rest ≡ flat_map record_written records

-- what stands first, and what follows it, is this record and these octets
pub record IsSplit (at : ℕ) (octets behind : List ℕ) (r : ℕ × List ℕ) (more : List ℕ) : Type 0 where
  pub moment : at ≡ r.0
  pub packet : octets ≡ r.1
  pub rest : behind ≡ more

-- whatever record stands first in the octets, and whatever follows it, there is an answer, and it is so of these
abbrev pub TellsFirst : {X : Type 0} → List ℕ → Option X → (X → ℕ × List ℕ → List ℕ → Type 0) → Type 0
TellsFirst octets answer Is = (r : ℕ × List ℕ) (more : List ℕ) → IsRecord r → octets ≡ record_written r ++ more
    → MatchOption answer ⊥ (λ x. Is x r more)

-- these octets are those of the records, one behind the other
pub record AreRecords (octets : List ℕ) (records : List (ℕ × List ℕ)) : Type 0 where
  pub is : octets ≡ flat_map record_written records
  pub each : AllByRecursion IsRecord records
  pub few : length records < 2 ^ 32

-- these octets are those of some records
abbrev pub HasRecords : List ℕ → Type 0
HasRecords octets = (records : List (ℕ × List ℕ)) × AreRecords octets records

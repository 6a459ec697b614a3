-- The octets of what was sent to a terminal, as they are written (profile).
use Rattle.std.specs.Prelude.{◌≡◌, ℕ, ◌<◌, ◌^◌, List, length, map}
use Rattle.std.specs.List.{AllByRecursion}
use Rattle.wire_spec.specs.Dump.{dump_written}
pub use Rattle.rtpdump_io.specs.InMemory.{AreRecords, HasRecords}
use Rattle.rtpdump_io.specs.InMemory.{IsRecord}
use Rattle.sent_log.specs.States.{Sending, IsLawful, records_of, recording_of}

-- the moment of each
abbrev pub moments_of : List (ℕ × List ℕ) → List ℕ
moments_of records = map (λ r. r.0) records

-- these octets are a whole recording of them
pub record IsWrittenOf (octets : List ℕ) (records : List (ℕ × List ℕ)) : Type 0 where
  pub is : octets ≡ dump_written records
  pub each : AllByRecursion IsRecord records
  pub few : length records < 2 ^ 32

-- these octets are the recording of some records
abbrev pub IsWritten : List ℕ → Type 0
IsWritten octets = (records : List (ℕ × List ℕ)) × IsWrittenOf octets records

-- What was sent to a terminal can be heard: each text could be sent after those before it, and its packets can be written.
pub record IsPlayable (x : Sending) : Type 0 where
  pub lawful : IsLawful x
  pub written : IsWrittenOf (recording_of x) (records_of x.settings x.sent)

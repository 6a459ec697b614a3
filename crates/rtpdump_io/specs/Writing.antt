-- What can be written of records (profile).
use Rattle.std.specs.Prelude.{ℕ, ◌≡◌, ◌<◌, ◌≤◌, ◌++◌, List, length}
use Rattle.rtt_base.specs.declared.records.Record.{Record}

-- the size of a record, its head included, has sixteen bits, and a packet of no octets is one of RTCP
pub record RecordHolds (r : Record) : Type 0 where
  pub some : 0 < length r.bytes
  pub fits : length r.bytes ≤ 65527

-- a record as its time and its packet's octets
abbrev pub timed : Record → ℕ × List ℕ
timed r = (r.at, r.bytes)

-- what was there before stands first
pub record Extends (old new : List ℕ) : Type 0 where
  pub more : List ℕ
  pub is : new ≡ old ++ more

-- What holds of records that lie in memory one behind the other, as they are written.
use Rattle.std.specs.Prelude.{ℕ, List, map}
use Rattle.wire_spec.specs.Dump.{Item, sent_item}
use Rattle.rtpdump_io.specs.InMemory.{AreRecords}

-- this holds of the records, as they are read
abbrev pub OfRecords : List ℕ → (List Item → Type 0) → Type 0
OfRecords octets P = (records : List (ℕ × List ℕ)) → AreRecords octets records → P (map sent_item records)

-- A recording whose packets are counted.
use Rattle.std.proofs.Common.{◌≡◌, ◌≤◌, ℕ, ◌+◌, List, [], ◌∷◌, ◌++◌, length, length-append, refl, arith}
use Rattle.wire_spec.specs.Dump.{Item, What, Whole, Rtcp, Cut, Large}
use Rattle.rtpdump_io.specs.declared.readers.DumpReader.{DumpReader}
use Rattle.rtpdump_io.proofs.Records.{ReadSome}
use Rattle.report_spec.specs.Checking.{packets_in, packets_of}

at_most_one : (what : What) → packets_of what ≤ 1
at_most_one (Whole octets) = omega arith
at_most_one Rtcp = omega arith
at_most_one Cut = omega arith
at_most_one Large = omega arith

pub one_more : (items : List Item) (item : Item) → packets_in (items ++ item ∷ []) ≡ packets_in items + packets_of item.what
one_more [] item = omega arith
one_more (first ∷ more) item = let e = one_more more item in omega arith

pub few_packets : (items : List Item) → packets_in items ≤ length items
few_packets [] = omega arith
few_packets (item ∷ more) = let e = few_packets more in let o = at_most_one item.what in omega arith

-- what holds of the reader and the count between two records
pub record Going {S : Type 0} (tells : Type 0) (left : S → List ℕ) (faults : S → ℕ) (name : S → List ℕ) (before now : DumpReader S) (packets : ℕ) : Type 0 where
  pub items : List Item
  pub read : ReadSome tells left faults name before now items
  pub packets_are : packets ≡ packets_in items
  pub few : packets ≤ 4194306

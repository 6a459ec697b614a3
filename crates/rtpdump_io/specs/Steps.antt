-- What one step of a reader finds, where its source does not fail: a record or the end, or a fault of the recording.
use Rattle.std.specs.Prelude.{ℕ, ◌≡◌, ◌≢◌, List, Result, OnOk, IfOk, IfErr}
use Rattle.wire_spec.specs.declared.faults.DumpKind.{DumpKind}
use Rattle.wire_spec.specs.declared.faults.DumpKind.TheVariants.{Read}
use Rattle.wire_spec.specs.Dump.{opening, dump_step}
use Rattle.rtpdump_io.specs.declared.items.DumpItem.{DumpItem}
use Rattle.rtpdump_io.specs.declared.items.DumpItem.TheVariants.{End}
use Rattle.rtpdump_io.specs.declared.readers.DumpReader.{DumpReader}
use Rattle.rtpdump_io.specs.Reading.{to_come, place_of, unread_by}
use Rattle.rtpdump_io.specs.Found.{opened_as, found_as, came_as, ready_as}

-- this holds where the source did not fail and the recording has no fault
abbrev pub OnFound : {T E : Type 0} → Result (Result T DumpKind) E → Type 0 → Type 0
OnFound result P = IfOk result (λ found. OnOk found P)

-- this holds where a record was found
abbrev pub OnRecord : {E : Type 0} → Result (Result DumpItem DumpKind) E → Type 0 → Type 0
OnRecord result P = IfOk result (λ found. IfOk found (λ item. item ≢ End → P))

-- a fault that was found is none of reading
abbrev pub IsOfRecording : {T E : Type 0} → Result (Result T DumpKind) E → Type 0
IsOfRecording result = IfOk result (λ found. IfErr found (λ kind. kind ≢ Read))

module _ {S : Type 0} where
  -- the opening is this
  abbrev pub Opens : (S → List ℕ) → DumpReader S → DumpReader S → Result (Unit {0}) DumpKind → Type 0
  Opens left old new found = opening (unread_by left old) ≡ opened_as found (place_of left new)

  -- what was to come is still to come, where the opening has no fault
  abbrev pub IsReady : (S → List ℕ) → DumpReader S → DumpReader S → Result (Unit {0}) DumpKind → Type 0
  IsReady left old new found = to_come left old ≡ ready_as found new.offset (to_come left new)

  -- one step in the recording finds this
  abbrev pub Finds : (S → List ℕ) → DumpReader S → DumpReader S → List ℕ → Result DumpItem DumpKind → Type 0
  Finds left old new out found =
      dump_step old.limit (place_of left old) ≡ found_as found out (place_of left new)

  -- what was to come is this, and behind it what is still to come
  abbrev pub Comes : (S → List ℕ) → DumpReader S → DumpReader S → List ℕ → Result DumpItem DumpKind → Type 0
  Comes left old new out found =
      to_come left old ≡ came_as found out new.offset (to_come left new)

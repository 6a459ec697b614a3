-- What a call of a reader tells, and what all calls that read a recording to its end come to (profile).
use Rattle.std.specs.Prelude.{◌≡◌, ◌≤◌, ◌<◌, ℕ, List, Option, None, Some, IfSome, Result, OnOk, IfOk, IfErr, true, false}
use Rattle.wire_spec.specs.Dump.{Item, Recording, with_item}
use Rattle.rtpdump_io.specs.declared.items.DumpItem.{DumpItem}
use Rattle.rtpdump_io.specs.declared.items.DumpItem.TheVariants.{Packet, Rtcp, Cut, Large, End}
use Rattle.rtpdump_io.specs.declared.items.DumpFault.{DumpFault}
use Rattle.rtpdump_io.specs.declared.items.RecordingFault.{RecordingFault}
use Rattle.rtpdump_io.specs.declared.readers.DumpReader.{DumpReader}
use Rattle.rtpdump_io.specs.Answers.{record_of, is_end}
use Rattle.rtpdump_io.specs.Faults.{FaultOf, HasCause}
use Rattle.rtpdump_io.specs.Reading.{Gives, is_last, nothing, to_come, most_answers, is_ended, source_of, SourceFailed, SourceCalm, IfOfSource, UnlessOfSource}
use Rattle.rtpdump_io.specs.Structures.{Starts, all_octets}

-- what a call tells that reads what stands next
pub record Reads {S : Type 0} (tells : Type 0) (left : S → List ℕ) (faults : S → ℕ) (name : S → List ℕ) (old new : DumpReader S) (out : List ℕ) (result : Result DumpItem DumpFault) : Type 0 where
  pub gives : tells → Gives result out (to_come left old) (to_come left new)
  pub read : IfOfSource result (λ _. SourceFailed faults old new)
  pub read_at : tells → IfOfSource result (λ byte. Starts left old byte)
  pub all : tells → OnOk result (all_octets left new ≡ all_octets left old)
  pub ended : is_ended new ≡ is_last result
  pub over : is_last result ≡ true → to_come left new ≡ nothing
  pub nearer : most_answers new < most_answers old
  pub never_falls : faults (source_of old) ≤ faults (source_of new)
  pub calm : UnlessOfSource result (SourceCalm faults old new)
  pub same_name : name (source_of new) ≡ name (source_of old)

-- an answer that is no end
abbrev pub unless_end : DumpItem → Option DumpItem
unless_end (Packet at) = Some (Packet at)
unless_end (Rtcp at) = Some (Rtcp at)
unless_end (Cut at) = Some (Cut at)
unless_end (Large at) = Some (Large at)
unless_end End = None

-- this record was the first of what was to come, or none was
abbrev pub Came : Option DumpItem → List ℕ → Recording → Recording → Type 0
Came (Some item) out old new = old ≡ with_item (record_of item out) new
Came None out old new = old ≡ nothing

-- what a call tells that reads the next record
pub record ReadsRecord {S : Type 0} (tells : Type 0) (left : S → List ℕ) (faults : S → ℕ) (name : S → List ℕ) (old new : DumpReader S) (out : List ℕ) (result : Result (Option DumpItem) RecordingFault) : Type 0 where
  pub came : tells → IfOk result (λ found. Came found out (to_come left old) (to_come left new))
  pub more : IfOk result (λ found. IfSome found (λ item. is_end item ≡ false))
  pub nearer : IfOk result (λ found. IfSome found (λ item. most_answers new < most_answers old))
  pub fault : tells → IfErr result (FaultOf (to_come left old))
  pub failed : IfErr result (HasCause faults old new)
  pub calm : OnOk result (SourceCalm faults old new)
  pub never_falls : faults (source_of old) ≤ faults (source_of new)
  pub same_name : name (source_of new) ≡ name (source_of old)

-- so of some records; those of this recording, which has no fault, where this tells it
pub record SomeCame (tells : Type 0) (recording : Recording) (Is : List Item → Type 0) : Type 0 where
  pub items : List Item
  pub so : Is items
  pub is : tells → recording ≡ record { items = items; fault = None }

-- a recording was read to its end and has no fault, or this is why not; the source is the one that it was
pub record ReadsToEnd {S T : Type 0} (tells : Type 0) (left : S → List ℕ) (faults : S → ℕ) (name : S → List ℕ) (old new : DumpReader S) (result : Result T RecordingFault) : Type 0 where
  pub whole : tells → OnOk result ((to_come left old).fault ≡ None)
  pub fault : tells → IfErr result (FaultOf (to_come left old))
  pub failed : IfErr result (HasCause faults old new)
  pub calm : OnOk result (SourceCalm faults old new)
  pub never_falls : faults (source_of old) ≤ faults (source_of new)
  pub same_name : name (source_of new) ≡ name (source_of old)

-- The statements of the laws.
use Rattle.std.specs.Prelude.{◌≡◌, ℕ, List, map}
use Rattle.std.specs.List.Sorted.{IsNonDecreasing}
use Rattle.file_spec.specs.declared.conference_lines.PlanLine.{PlanLine}
use Rattle.wire_spec.specs.Dump.{sent_item}
use Rattle.playback.specs.Unplanned.{IsUnplanned}
use Rattle.mixer_spec.specs.Arrives.{came}
use Rattle.playback.specs.Written.{moments_of}

-- where no line of a plan is of a terminal, and moments never fall, records come to it as they were written
abbrev pub UnplannedRecordsComeAsWritten : Type 0
UnplannedRecordsComeAsWritten =
    (plan : List PlanLine) (t : ℕ) (records : List (ℕ × List ℕ))
    → IsUnplanned plan t → IsNonDecreasing (moments_of records) → came plan t records ≡ map sent_item records

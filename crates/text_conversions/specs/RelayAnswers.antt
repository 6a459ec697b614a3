-- The causes of frames that are not sent. Want of memory alone is free.
use Rattle.std.specs.Prelude.{◌≡◌, ℕ, List, Option, Some, Result, Err}
use Rattle.file_spec.specs.declared.frames.FrameRefusal.{FrameRefusal}
use Rattle.text_conversions.specs.declared.relay_faults.RelayFault.{RelayFault}
use Rattle.text_conversions.specs.declared.relay_faults.RelayFault.TheVariants.{Refused, NoMemory}

-- the frames have this fault
abbrev pub IsFrameCause : RelayFault → Option FrameRefusal → Type 0
IsFrameCause (Refused fault) found = found ≡ Some fault
IsFrameCause NoMemory found = Unit {0}

-- they are not sent for this fault
abbrev pub IsRelayCause : RelayFault → Result (List ℕ) FrameRefusal → Type 0
IsRelayCause (Refused fault) relayed = relayed ≡ Err fault
IsRelayCause NoMemory relayed = Unit {0}

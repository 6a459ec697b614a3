-- What is gathered of a recording, and when it is refused.
use Rattle.std.specs.Prelude.{◌≡◌, ◌<◌, ◌^◌, false, Option, None, Some, List, length}
use Rattle.wire_spec.specs.Dump.{Item, Recording}
use Rattle.rtpdump_io.specs.declared.items.DumpFault.{DumpFault}
use Rattle.rtpdump_io.specs.declared.items.RecordingFault.{RecordingFault}
use Rattle.rtpdump_io.specs.declared.items.RecordingFault.TheVariants.{Dump, NoMemory}
use Rattle.rtpdump_io.specs.Reading.{is_of_source}
use Rattle.command_spec.specs.Showing.{if_no_recording}
use Rattle.rtt_show.specs.declared.findings.Findings.{Findings}
use Rattle.rtt_show.specs.Finds.{IsFound, IsSmall}
use Rattle.rtt_show.specs.Whole.{ends}

-- some records came, up to the end or to this fault; they are the recording's, where this tells it
pub record Gathered (tells : Type 0) (recording : Recording) (found : Findings) (end : Option DumpFault) : Type 0 where
  pub items : List Item
  pub is_found : IsFound found items
  pub small : IsSmall (length items) found
  pub few : length items < 2 ^ 32
  pub is : tells → recording ≡ record { items = items; fault = ends end }
  pub accepted : if_no_recording (ends end) ≡ None

-- there is no recording, where the fault is none of the source
abbrev pub RecordingIsRefused : Recording → RecordingFault → Type 0
RecordingIsRefused recording (Dump fault) = is_of_source fault.kind ≡ false
    → if_no_recording recording.fault ≡ Some (record { byte = fault.offset; kind = fault.kind })
RecordingIsRefused recording NoMemory = Unit {0}

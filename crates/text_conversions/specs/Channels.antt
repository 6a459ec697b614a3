-- What is written of a recording that is heard.
use Rattle.std.specs.Prelude.{◌≡◌, ℕ, ◌≤◌, ◌++◌, List, None, Result, Ok, Err, map}
use Rattle.wire_spec.specs.Dump.{Recording, dump, usual_limit}
use Rattle.rtpdump_io.specs.declared.items.RecordingFault.{RecordingFault}
use Rattle.rtpdump_io.specs.declared.items.RecordingFault.TheVariants as recordings
use Rattle.rtpdump_io.specs.Reading.{IsFaultOf}
use Rattle.rtt_io.specs.Counts.{Rose}
use Rattle.file_spec.specs.Frames.{frames_written}
use Rattle.command_spec.specs.declared.requests.ReadRequest.{ReadRequest}
use Rattle.command_spec.specs.Frames.{channel, chunk_frame}
use Rattle.command_spec.specs.Usual.{usual_payload_types}
use Rattle.wire_spec.specs.declared.faults.DumpKind.TheVariants.{Read}
use Rattle.recording_views.specs.Writing.{Texts}
use Rattle.text_conversions.specs.declared.relay_faults.ChannelFault.{ChannelFault}
use Rattle.text_conversions.specs.declared.relay_faults.ChannelFault.TheVariants.{Dump, Refused, NoMemory}

-- the stream of this SSRC, with the usual payload types
abbrev pub channel_request : ℕ → ReadRequest
channel_request ssrc = record { ssrc = ssrc; payload_types = usual_payload_types; source = ssrc }

-- their frames stand behind the first
abbrev pub AreFrames : List ℕ → List ℕ → Texts → Type 0
AreFrames first written texts = written ≡ first ++ frames_written (map chunk_frame texts)

-- so it is of what this recording is read from
abbrev pub ForRecording : Recording → (List ℕ → Type 0) → Type 0
ForRecording recording P = (octets : List ℕ) → recording ≡ dump usual_limit octets → P octets

-- these are the frames of what is heard in it
abbrev pub AreFramesOf : List ℕ → ℕ → List ℕ → Type 0
AreFramesOf frames ssrc octets = channel ssrc octets ≡ Ok frames

-- why it is not written that is not read to its end
abbrev pub fault_from : RecordingFault → ChannelFault
fault_from (recordings.Dump fault) = Dump fault
fault_from recordings.NoMemory = NoMemory

-- the recording has this fault, or it has none and its frames have
abbrev pub IsChannelCause : ChannelFault → ℕ → List ℕ → Type 0
IsChannelCause (Dump fault) ssrc octets = IsFaultOf (dump usual_limit octets) fault
IsChannelCause (Refused fault) ssrc octets = ((dump usual_limit octets).fault ≡ None) × (channel ssrc octets ≡ Err fault)
IsChannelCause NoMemory ssrc octets = Unit {0}

module _ {S : Type 0} where
  -- where the fault is one of reading, the source failed
  abbrev pub IsFailed : (S → ℕ) → S → S → ChannelFault → Type 0
  IsFailed faults old new (Dump fault) = fault.kind ≡ Read → Rose (faults old) (faults new)
  IsFailed faults old new (Refused fault) = Unit {0}
  IsFailed faults old new NoMemory = Unit {0}

  abbrev pub IsFailedBy : {A : Type 0} → (S → ℕ) → S → S → Result A ChannelFault → Type 0
  IsFailedBy faults old new (Ok done) = Unit {0}
  IsFailedBy faults old new (Err fault) = IsFailed faults old new fault

  -- the source behind a call
  pub record HasSource {A : Type 0} (faults : S → ℕ) (name : S → List ℕ) (old new : S) (result : Result A ChannelFault) : Type 0 where
    pub failed : IsFailedBy faults old new result
    pub never_falls : faults old ≤ faults new
    pub same_name : name new ≡ name old

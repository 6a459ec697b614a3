-- What each command does (profile).
use Rattle.std.specs.Prelude.{ℕ, true, false, Option, None, Some, List, [], ◌∷◌, Result, Ok, Err}
use Rattle.wire_spec.specs.Dump.{dump, usual_limit}
use Rattle.wire_spec.specs.Dump as dumps
use Rattle.file_spec.specs.declared.kinds.ConfKind.TheVariants.{Full}
use Rattle.file_spec.specs.Script.{ScriptLine}
use Rattle.file_spec.specs.Lines as lines
use Rattle.file_spec.specs.Script.{script}
use Rattle.rtt_words.specs.Words.{ReadWords, SendWords, Command, Read, ListRecords, Send, Mix, Attend, Cascade, Make, Live, Watch, Relay, Channel, Show, Times, Script, Check, Help, Version}
use Rattle.report_spec.specs.Looks.{look, steps_of}
use Rattle.rtt_words.specs.Help.{help_text}
use Rattle.command_spec.specs.declared.faults.Refusal.TheVariants.{AtByte, AtFrame, AtLine}
use Rattle.command_spec.specs.declared.requests.ReadRequest.{ReadRequest}
use Rattle.command_spec.specs.Attending.{attending}
use Rattle.command_spec.specs.Cascading.{cascading}
use Rattle.command_spec.specs.Listing.{list_view}
use Rattle.command_spec.specs.Making.{making}
use Rattle.command_spec.specs.Messages.{version_line}
use Rattle.command_spec.specs.Mixing.{mixing}
use Rattle.command_spec.specs.Reading.{read_view}
use Rattle.command_spec.specs.Showing.{show_refusal}
use Rattle.report_spec.specs.Showing.{show_view}
use Rattle.report_spec.specs.Times.{times_view}
use Rattle.command_spec.specs.Transcripts.{transcript_view}
use Rattle.command_spec.specs.Frames.{relay, channel}
use Rattle.file_spec.specs.declared.frames.FrameRefusal.{FrameRefusal}
use Rattle.command_spec.specs.Serving.{serving}
use Rattle.command_spec.specs.Scripts.{Sending, full_line, recording, usual_sending}
use Rattle.command_spec.specs.Work.{Made, Steps, Reads, Refuses, Makes, Work}

-- what is read of a recording
abbrev pub request_of : ReadWords → ReadRequest
request_of r = record { ssrc = r.ssrc; source = r.source; payload_types = r.payload_types }

-- what sends a script
abbrev pub sending_of : SendWords → Sending
sending_of s = usual_sending s.ssrc s.seq s.timestamp

-- the first input is a recording, which is refused with its fault, or this comes then
abbrev pub unless_broken : Option dumps.Fault → Steps → Steps
unless_broken None steps = steps
unless_broken (Some fault) steps = Refuses 0 (AtByte fault.byte fault.kind)

-- the first input is a script, which is refused at its full line, or this comes then
abbrev pub unless_full : Option ℕ → Steps → Steps
unless_full None steps = steps
unless_full (Some line) steps = Refuses 0 (AtLine line Full)

-- a view of a recording is printed, where none of these faults is found
abbrev pub prints_unless : (List ℕ → Option dumps.Fault) → List ℕ → (List ℕ → List ℕ) → Work
prints_unless found file view = record {
  prints = true;
  steps = Reads file (λ octets. unless_broken (found octets) (Makes (view octets) []));
}

-- why a recording is not read to its end
abbrev pub recording_fault : List ℕ → Option dumps.Fault
recording_fault octets = (dump usual_limit octets).fault

-- a recording that is read to its end is printed
abbrev pub prints_recording : List ℕ → (List ℕ → List ℕ) → Work
prints_recording file view = prints_unless recording_fault file view

-- the file of this name with the recording
abbrev pub recording_at : List ℕ → Sending → List ScriptLine → Made
recording_at out s lines = record { name = out; octets = recording s lines }

-- a script is sent
abbrev pub sends : SendWords → Result (List ScriptLine) lines.Refusal → Steps
sends s (Err refusal) = Refuses 0 (AtLine refusal.line refusal.kind)
sends s (Ok lines) =
    unless_full (full_line (sending_of s) lines) (Makes [] (recording_at s.out (sending_of s) lines ∷ []))

-- a file of this name is made of frames, or frames are refused
abbrev pub saves_frames : List ℕ → Result (List ℕ) FrameRefusal → Steps
saves_frames out (Err fault) = Refuses 0 (AtFrame fault.offset fault.kind)
saves_frames out (Ok octets) = Makes [] (record { name = out; octets = octets } ∷ [])

abbrev pub work : Command → Work
work (Read r) = prints_recording r.file (read_view (request_of r))
work (ListRecords l) = prints_recording l.file (λ octets. list_view l.payload_types (dump usual_limit octets).items)
work (Send s) = record { prints = false; steps = Reads s.file (λ octets. sends s (script octets)) }
work (Mix m) = record { prints = true; steps = mixing m.conference }
work (Attend m) = record { prints = true; steps = attending m.conference }
work (Cascade c) = record { prints = true; steps = cascading c.conference c.file c.ssrc }
work (Make m) = record { prints = true; steps = making m.number }
work (Live m) = record { prints = true; steps = serving m.conference }
work (Watch m) = record { prints = true; steps = serving m.conference }
work (Relay s) = record { prints = false; steps = Reads s.file (λ octets. saves_frames s.out (relay (sending_of s) octets)) }
work (Channel c) = record {
  prints = false;
  steps = Reads c.file (λ octets. unless_broken (recording_fault octets) (saves_frames c.out (channel c.ssrc octets)));
}
work (Show l) = prints_unless show_refusal l.file (show_view l.payload_types)
work (Times l) = prints_unless show_refusal l.file (times_view l.payload_types)
work (Script r) = prints_recording r.file (transcript_view (request_of r))
work (Check c) = record { prints = true; steps = steps_of (look c.file) }
work (Help t) = record { prints = true; steps = Makes (help_text t) [] }
work Version = record { prints = true; steps = Makes version_line [] }

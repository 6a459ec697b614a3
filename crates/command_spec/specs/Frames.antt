-- What `relay` makes of frames and `channel` of a recording (profile).
use Rattle.std.specs.Prelude.{◌<◌, All, IsUtf8, ℕ, ◌+◌, nat_lt, if◌then◌else◌, Option, None, Some, List, [], ◌∷◌, length, map, Result, Ok, Err}
use Rattle.wire_spec.specs.Dump.{arrivals}
use Rattle.stream_spec.specs.Ready.{Chunk, chunks}
use Rattle.file_spec.specs.Script.{ScriptLine}
use Rattle.file_spec.specs.declared.frames.Frame.{Frame}
use Rattle.file_spec.specs.declared.frames.FrameRefusal.{FrameRefusal}
use Rattle.file_spec.specs.declared.frame_kinds.FrameKind.TheVariants.{Full, ManyFrames}
use Rattle.file_spec.specs.declared.frame_limits.TheConstants.{FRAME_HEAD_OCTETS, END_OF_FRAME_MOMENTS, MOST_FRAMES_OCTETS}
use Rattle.file_spec.specs.Frames.{frames_written, read_frames}
use Rattle.command_spec.specs.Reading.{usual_wait}
use Rattle.command_spec.specs.Scripts.{Sending, InOrder, full_line, recording}
use Rattle.command_spec.specs.Usual.{usual_payload_types}

-- ---- `relay`

-- what a sender may be given: lines in order, before the end of the moments of frames, and their texts are UTF-8
pub record AreTyped (lines : List ScriptLine) : Type 0 where
  pub ordered : InOrder lines
  pub early : All (λ l. l.at < END_OF_FRAME_MOMENTS) lines
  pub texts : All (λ l. IsUtf8 l.text) lines

-- frames as lines of a script, each with the byte at which it begins as its number, the first one beginning at this byte
abbrev pub lines_from : ℕ → List Frame → List ScriptLine
lines_from byte [] = []
lines_from byte (f ∷ fs) =
    record { line = byte; at = f.at; text = f.text } ∷ lines_from (byte + (FRAME_HEAD_OCTETS + length f.text)) fs

abbrev pub lines_of : List Frame → List ScriptLine
lines_of fs = lines_from 0 fs

-- the byte at which the first frame begins that the sender does not take
abbrev pub full_frame : Sending → List Frame → Option ℕ
full_frame s fs = full_line s (lines_of fs)

-- the recording that `send` makes of the same lines
abbrev pub relayed : Sending → List Frame → List ℕ
relayed s fs = recording s (lines_of fs)

abbrev pub unless_full_frame : Option ℕ → List ℕ → Result (List ℕ) FrameRefusal
unless_full_frame None octets = Ok octets
unless_full_frame (Some byte) octets = Err (record { offset = byte; kind = Full })

abbrev pub relay_read : Sending → List Frame → Option FrameRefusal → Result (List ℕ) FrameRefusal
relay_read s fs (Some fault) = Err fault
relay_read s fs None = unless_full_frame (full_frame s fs) (relayed s fs)

-- the recording, or why these octets are not sent: all frames are read before the first one is sent
abbrev pub relay : Sending → List ℕ → Result (List ℕ) FrameRefusal
relay s octets = relay_read s (read_frames octets).frames (read_frames octets).fault

-- ---- `channel`

-- a chunk as a frame, at the moment at which it is ready
abbrev pub chunk_frame : Chunk → Frame
chunk_frame c = record { at = c.ready; text = c.text }

-- the chunks that are heard of a source in a recording
abbrev pub channel_chunks : ℕ → List ℕ → List Chunk
channel_chunks ssrc octets = chunks usual_wait 0 (arrivals octets ssrc usual_payload_types) ssrc

abbrev pub channel_frames : ℕ → List ℕ → List Frame
channel_frames ssrc octets = map chunk_frame (channel_chunks ssrc octets)

-- a frame for each chunk; a marker is a chunk of its own
abbrev pub channel_file : ℕ → List ℕ → List ℕ
channel_file ssrc octets = frames_written (channel_frames ssrc octets)

abbrev pub unless_many_frames : List ℕ → Result (List ℕ) FrameRefusal
unless_many_frames octets =
    if nat_lt MOST_FRAMES_OCTETS (length octets) then Err (record { offset = length octets; kind = ManyFrames }) else Ok octets

-- the frames, or why they are not written; the recording is one that is read to its end
abbrev pub channel : ℕ → List ℕ → Result (List ℕ) FrameRefusal
channel ssrc octets = unless_many_frames (channel_file ssrc octets)

-- Frames of typed text, one behind the other (profile): a reliable channel carries each text once and in order (RFC 8865,
-- section 4), so a frame is a time in milliseconds in 4 octets, the length of its text in 2, and the text.
use Rattle.std.specs.Prelude.{◌≡◌, ℕ, zero, suc, ◌+◌, ◌<◌, ◌≤◌, ◌==◌, ◌||◌, not, nat_lt, nat_le, if◌then◌else◌, List, [], ◌∷◌, ◌++◌, length, take, drop, All, IsUtf8, Option, None, Some}
use Rattle.std.specs.List.{flat_map}
use Rattle.std.specs.Str.{is_utf8}
use Rattle.std.specs.Int.{w16, w32, to_be_bytes, from_be_bytes}
use Rattle.rtt_base.specs.declared.limits.TheConstants.{MOST_TEXT_OCTETS}
use Rattle.file_spec.specs.declared.frames.Frame.{Frame}
use Rattle.file_spec.specs.declared.frames.FrameRefusal.{FrameRefusal}
use Rattle.file_spec.specs.declared.frame_kinds.FrameKind.{FrameKind}
use Rattle.file_spec.specs.declared.frame_kinds.FrameKind.TheVariants.{Time, Length, TooLarge, NotText, EndsInside}
use Rattle.file_spec.specs.declared.frame_limits.TheConstants.{FRAME_HEAD_OCTETS, END_OF_FRAME_MOMENTS, MOST_FRAMES_OCTETS}

-- ---- writing

abbrev pub frame_written : Frame → List ℕ
frame_written f = to_be_bytes w32 f.at ++ (to_be_bytes w16 (length f.text) ++ f.text)

abbrev pub frames_written : List Frame → List ℕ
frames_written fs = flat_map frame_written fs

-- a text of 1 to 1023 octets of UTF-8, at a moment below 2^24
pub record IsFrame (f : Frame) : Type 0 where
  pub early : f.at < END_OF_FRAME_MOMENTS
  pub some : 0 < length f.text
  pub few : length f.text ≤ MOST_TEXT_OCTETS
  pub text : IsUtf8 f.text

-- no frame is before one in front of it
abbrev pub InOrder : List Frame → Type 0
InOrder [] = Unit {0}
InOrder (f ∷ fs) = All (λ g. f.at ≤ g.at) fs × InOrder fs

-- what octets may have as frames: in order, and at most 1048576 octets together
pub record AreFrames (fs : List Frame) : Type 0 where
  pub each : All IsFrame fs
  pub ordered : InOrder fs
  pub size : length (frames_written fs) ≤ MOST_FRAMES_OCTETS

-- ---- reading

-- the byte at which a frame begins, and the time of the frame in front of it
pub record Place : Type 0 where
  pub byte : ℕ
  pub latest : ℕ

-- the first frame
abbrev pub start : Place
start = record { byte = 0; latest = 0 }

-- what the head of a frame says, and the text behind it
abbrev pub time_of : List ℕ → ℕ
time_of octets = from_be_bytes w32 octets

abbrev pub length_of : List ℕ → ℕ
length_of octets = from_be_bytes w16 (drop 4 octets)

abbrev pub frame_of : List ℕ → Frame
frame_of octets = record { at = time_of octets; text = take (length_of octets) (drop FRAME_HEAD_OCTETS octets) }

-- the tests of a head, in their order
abbrev pub head_fault : Place → ℕ → ℕ → Option FrameKind
head_fault p at n =
    if nat_lt at p.latest || nat_le END_OF_FRAME_MOMENTS at then Some Time
    else (if n == 0 || nat_lt MOST_TEXT_OCTETS n then Some Length
    else (if nat_lt MOST_FRAMES_OCTETS (p.byte + (FRAME_HEAD_OCTETS + n)) then Some TooLarge else None))

-- then the tests of the text, of which so many octets are to be there
abbrev pub text_fault : ℕ → List ℕ → Option FrameKind
text_fault n behind =
    if nat_lt (length behind) n then Some EndsInside
    else (if not (is_utf8 (take n behind)) then Some NotText else None)

abbrev pub or_text_fault : List ℕ → Option FrameKind → Option FrameKind
or_text_fault octets (Some kind) = Some kind
or_text_fault octets None = text_fault (length_of octets) (drop FRAME_HEAD_OCTETS octets)

-- the tests of a frame that begins there
abbrev pub frame_fault : Place → List ℕ → Option FrameKind
frame_fault p octets =
    if nat_lt (length octets) FRAME_HEAD_OCTETS then Some EndsInside
    else or_text_fault octets (head_fault p (time_of octets) (length_of octets))

-- the end, the next frame with its place behind it and the octets there, or the fault that stands in its place
pub data Step : Type 0 where
  End : Step
  Broken : (fault : FrameRefusal) → Step
  Next : (frame : Frame) (place : Place) (rest : List ℕ) → Step

abbrev pub place_behind : Place → Frame → Place
place_behind p f = record { byte = p.byte + (FRAME_HEAD_OCTETS + length f.text); latest = f.at }

abbrev pub step_or : Place → List ℕ → Option FrameKind → Step
step_or p octets (Some kind) = Broken (record { offset = p.byte; kind = kind })
step_or p octets None =
    Next (frame_of octets) (place_behind p (frame_of octets)) (drop (FRAME_HEAD_OCTETS + length_of octets) octets)

unfoldable pub frame_step : Place → List ℕ → Step
frame_step p octets = if length octets == 0 then End else step_or p octets (frame_fault p octets)

-- the frames, oldest first, and the fault that ends them, if one does
pub record Reading : Type 0 where
  pub frames : List Frame
  pub fault : Option FrameRefusal

abbrev pub with_frame : Frame → Reading → Reading
with_frame f r = record { frames = f ∷ r.frames; fault = r.fault }

-- one step and what comes of the rest
abbrev pub reading_by : (Place → List ℕ → Reading) → Step → Reading
reading_by more End = record { frames = []; fault = None }
reading_by more (Broken fault) = record { frames = []; fault = Some fault }
reading_by more (Next frame place rest) = with_frame frame (more place rest)

-- in at most so many steps
unfoldable pub reading_within : ℕ → Place → List ℕ → Reading
reading_within zero p octets = record { frames = []; fault = None }
reading_within (suc fuel) p octets = reading_by (reading_within fuel) (frame_step p octets)

-- what is still to come at a place: a frame has more than six octets, so as many steps as octets are enough
unfoldable pub reading_from : Place → List ℕ → Reading
reading_from p octets = reading_within (length octets) p octets

-- the frames of these octets, and why they are read no further
abbrev pub read_frames : List ℕ → Reading
read_frames octets = reading_from start octets

-- these octets are these frames
abbrev pub Frames : List ℕ → List Frame → Type 0
Frames octets fs = read_frames octets ≡ record { frames = fs; fault = None }

-- ---- what is known of octets that others may follow

-- a frame that is begun may still become whole
abbrev pub unless_ends_inside : FrameRefusal → Option FrameRefusal
unless_ends_inside fault = elim fault.kind [
  | Time ↦ Some fault
  | Length ↦ Some fault
  | TooLarge ↦ Some fault
  | NotText ↦ Some fault
  | EndsInside ↦ None
  | FrameKind.Full ↦ Some fault
  | FrameKind.ManyFrames ↦ Some fault
]

abbrev pub lasting : Option FrameRefusal → Option FrameRefusal
lasting None = None
lasting (Some fault) = unless_ends_inside fault

-- the fault that these octets have, whatever follows them
abbrev pub lasting_fault : List ℕ → Option FrameRefusal
lasting_fault octets = lasting (read_frames octets).fault

-- The frame in front of octets.
use Rattle.std.specs.Prelude.{◌≡◌, ◌≢◌, ℕ, ◌+◌, nat_lt, if◌then◌else◌, List, ◌++◌, length, Option, None, Some, Result, Ok, Err}
use Rattle.file_spec.specs.declared.frames.Frame.{Frame}
use Rattle.file_spec.specs.declared.frame_kinds.FrameKind.{FrameKind}
use Rattle.file_spec.specs.declared.frame_kinds.FrameKind.TheVariants.{EndsInside}
use Rattle.file_spec.specs.declared.frame_limits.TheConstants.{FRAME_HEAD_OCTETS}
use Rattle.file_spec.specs.Frames as frames
use Rattle.file_spec.specs.Frames.{frame_fault, frame_of, length_of}
use Rattle.text_conversions.specs.declared.fronts.FramePosition.{FramePosition}
use Rattle.text_conversions.specs.declared.fronts.FrameView.{FrameView}

abbrev pub place_of : FramePosition → frames.Place
place_of p = record { byte = p.byte; latest = p.latest }

abbrev pub view_of : FrameView → Frame
view_of v = record { at = v.at; text = v.text.now }

-- a whole frame, one that may still become whole, or the first test that it fails
abbrev pub IsFront : frames.Place → List ℕ → Result (Option FrameView) FrameKind → Type 0
IsFront p octets (Ok (Some view)) = (frame_fault p octets ≡ None) × (view_of view ≡ frame_of octets) × (length view.text.now ≡ length_of octets)
IsFront p octets (Ok None) = frame_fault p octets ≡ Some EndsInside
IsFront p octets (Err kind) = (frame_fault p octets ≡ Some kind) × (kind ≢ EndsInside)

-- a frame that begins there with these octets may still become whole; with no octets it is still to come
abbrev pub IsBegun : FramePosition → List ℕ → Type 0
IsBegun p held = frame_fault (place_of p) held ≡ Some EndsInside

-- how many octets of a frame tell what is to be known next of it: its head, and then all
abbrev pub needed : List ℕ → ℕ
needed held = if nat_lt (length held) FRAME_HEAD_OCTETS then FRAME_HEAD_OCTETS else FRAME_HEAD_OCTETS + length_of held

-- the first octets are those that were there
pub record Extends (old new : List ℕ) : Type 0 where
  pub more : List ℕ
  pub is : new ≡ old ++ more

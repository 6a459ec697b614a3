-- Frames that were read by hand.
use Rattle.std.proofs.Common.{◌≡◌, ℕ, None, Some, List, [], ◌∷◌, refl}
use Rattle.std.specs.Prelude.{take}
use Rattle.std.specs.Str.{chars, is_utf8}
use Rattle.std.specs.Char.{encode_utf8}
use Rattle.file_spec.specs.declared.frames.Frame.{Frame}
use Rattle.file_spec.specs.declared.frame_kinds.FrameKind.TheVariants.{Time, Length, TooLarge, NotText, EndsInside}
use Rattle.file_spec.specs.Frames.{Frames, frame_step, frames_written, read_frames, reading_from, reading_within, lasting_fault}

-- A at 0 and B at 300
abbrev pub relay_frames : List ℕ
relay_frames = 0 ∷ 0 ∷ 0 ∷ 0 ∷ 0 ∷ 1 ∷ 0x41 ∷ 0 ∷ 0 ∷ 1 ∷ 0x2C ∷ 0 ∷ 1 ∷ 0x42 ∷ []

abbrev pub letters : List Frame
letters = record { at = 0; text = 0x41 ∷ [] } ∷ record { at = 300; text = 0x42 ∷ [] } ∷ []

frames_are_read : Frames relay_frames letters
unfolding reading_from reading_within frame_step is_utf8 chars encode_utf8
frames_are_read = refl

frames_are_written : frames_written letters ≡ relay_frames
frames_are_written = refl

-- without its last octet: the second frame begins at byte 7
frames_cut : read_frames (take 13 relay_frames) ≡ record { frames = take 1 letters; fault = Some (record { offset = 7; kind = EndsInside }) }
unfolding reading_from reading_within frame_step is_utf8 chars encode_utf8
frames_cut = refl

-- no frame is empty
empty_text : read_frames (0 ∷ 0 ∷ 0 ∷ 0 ∷ 0 ∷ 0 ∷ []) ≡ record { frames = []; fault = Some (record { offset = 0; kind = Length }) }
unfolding reading_from reading_within frame_step
empty_text = refl

-- a cut may be mended, an empty text may not
cut_is_mended : lasting_fault (take 13 relay_frames) ≡ None
unfolding reading_from reading_within frame_step is_utf8 chars encode_utf8
cut_is_mended = refl

empty_text_lasts : lasting_fault (0 ∷ 0 ∷ 0 ∷ 0 ∷ 0 ∷ 0 ∷ []) ≡ Some (record { offset = 0; kind = Length })
unfolding reading_from reading_within frame_step
empty_text_lasts = refl

-- a time of 2^24, a time before the one in front, a text of 1024 octets, one that is no UTF-8, and an end past 1048576
late : read_frames (1 ∷ 0 ∷ 0 ∷ 0 ∷ 0 ∷ 1 ∷ []) ≡ record { frames = []; fault = Some (record { offset = 0; kind = Time }) }
unfolding reading_from reading_within frame_step
late = refl

falls : read_frames (0 ∷ 0 ∷ 0 ∷ 1 ∷ 0 ∷ 1 ∷ 0x41 ∷ 0 ∷ 0 ∷ 0 ∷ 0 ∷ 0 ∷ 0 ∷ []) ≡ record { frames = record { at = 1; text = 0x41 ∷ [] } ∷ []; fault = Some (record { offset = 7; kind = Time }) }
unfolding reading_from reading_within frame_step is_utf8 chars encode_utf8
falls = refl

long : read_frames (0 ∷ 0 ∷ 0 ∷ 0 ∷ 4 ∷ 0 ∷ []) ≡ record { frames = []; fault = Some (record { offset = 0; kind = Length }) }
unfolding reading_from reading_within frame_step
long = refl

no_text : read_frames (0 ∷ 0 ∷ 0 ∷ 0 ∷ 0 ∷ 1 ∷ 0xFF ∷ []) ≡ record { frames = []; fault = Some (record { offset = 0; kind = NotText }) }
unfolding reading_from reading_within frame_step is_utf8 chars encode_utf8
no_text = refl

large : reading_from (record { byte = 1048570; latest = 0 }) (0 ∷ 0 ∷ 0 ∷ 0 ∷ 0 ∷ 1 ∷ 0x41 ∷ []) ≡ record { frames = []; fault = Some (record { offset = 1048570; kind = TooLarge }) }
unfolding reading_from reading_within frame_step
large = refl

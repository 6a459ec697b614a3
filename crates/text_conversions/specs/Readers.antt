-- What a reader of frames stands for (profile).
use Rattle.std.specs.Prelude.{◌≡◌, ℕ, List, [], ◌++◌, take, Option, None, Some, Result, Ok, Err}
use Rattle.file_spec.specs.declared.frames.Frame.{Frame}
use Rattle.file_spec.specs.declared.frames.FrameRefusal.{FrameRefusal}
use Rattle.file_spec.specs.Frames as frames
use Rattle.file_spec.specs.Frames.{Reading, read_frames, reading_from, lasting, lasting_fault}
use Rattle.text_conversions.specs.Fronts.{place_of}
use Rattle.text_conversions.specs.declared.readers.FrameReader.{FrameReader}

-- these frames, and then what is read
abbrev pub after : List Frame → Reading → Reading
after fs r = record { frames = fs ++ r.frames; fault = r.fault }

-- whatever follows, octets at one place are read as these frames and then what is at another place
abbrev pub LeadsFrames : frames.Place → List ℕ → List ℕ → List Frame → frames.Place → List ℕ → Type 0
LeadsFrames p held given fs q left = (more : List ℕ)
    → reading_from p (held ++ (given ++ more)) ≡ after fs (reading_from q (left ++ more))

-- whatever follows, octets have this fault, and no frame in front of it
abbrev pub Fails : frames.Place → List ℕ → List ℕ → FrameRefusal → Type 0
Fails p held given fault = (more : List ℕ)
    → reading_from p (held ++ (given ++ more)) ≡ record { frames = []; fault = Some fault }

-- ---- a reader that was given these octets
-- the frames of octets, whatever follows them
abbrev pub given_by : List ℕ → List Frame
given_by octets = (read_frames octets).frames

-- with no fault, what follows is read behind what is held; a fault is that of the octets, whatever follows them
abbrev pub Goes : frames.Place → List ℕ → Option FrameRefusal → List ℕ → Type 0
Goes p held None octets = (more : List ℕ)
    → read_frames (octets ++ more) ≡ after (given_by octets) (reading_from p (held ++ more))
Goes p held (Some fault) octets = (lasting (Some fault) ≡ Some fault) × ((more : List ℕ) → read_frames (octets ++ more) ≡ record { frames = given_by octets; fault = Some fault })

abbrev pub Stands : FrameReader → List ℕ → Type 0
Stands r octets = Goes (place_of r.place) r.held r.fault octets

-- no fault was met
abbrev pub IsOpen : FrameReader → Type 0
IsOpen r = r.fault ≡ None

-- ---- one piece
-- Behind octets others were taken: these frames are those of all behind those before, and all have this fault, if one.
pub record IsFed (r : FrameReader) (before behind : List ℕ) (out : List Frame) (fault : Option FrameRefusal) : Type 0 where
  pub frames : given_by before ++ out ≡ given_by behind
  pub fault_is : lasting_fault behind ≡ fault
  pub stands : Stands r behind

-- Whatever octets it was given before.
abbrev pub Feeds : FrameReader → FrameReader → List ℕ → List Frame → Result ℕ FrameRefusal → Type 0
Feeds old new piece out (Ok taken) = (octets : List ℕ) → Stands old octets
    → IsFed new octets (octets ++ take taken piece) out None
Feeds old new piece out (Err fault) = (octets : List ℕ) → Stands old octets
    → IsFed new octets (octets ++ piece) out (Some fault)

-- the frames of one step, behind those that were there
pub record IsTaken (old new : FrameReader) (piece : List ℕ) (before out : List Frame) (taken : ℕ) : Type 0 where
  pub more : List Frame
  pub out_is : out ≡ before ++ more
  pub leads : LeadsFrames (place_of old.place) old.held (take taken piece) more (place_of new.place) new.held

pub record FrameIsRefused (old new : FrameReader) (piece : List ℕ) (before out : List Frame) (fault : FrameRefusal) : Type 0 where
  pub same : out ≡ before
  pub fails : Fails (place_of old.place) old.held piece fault
  pub lasts : lasting (Some fault) ≡ Some fault
  pub fault_is : new.fault ≡ Some fault

abbrev pub Takes : FrameReader → FrameReader → List ℕ → List Frame → List Frame → Result ℕ FrameRefusal → Type 0
Takes old new piece before out (Ok taken) = IsTaken old new piece before out taken
Takes old new piece before out (Err fault) = FrameIsRefused old new piece before out fault

-- the fault of an end
abbrev pub is_fault : Result (Unit {0}) FrameRefusal → Option FrameRefusal
is_fault (Ok done) = None
is_fault (Err fault) = Some fault

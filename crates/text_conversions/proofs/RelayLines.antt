-- Frames as lines that a sender may be given.
use Rattle.std.proofs.Common.{◌≡◌, ℕ, ◌+◌, ◌-◌, ◌≤◌, ◌<◌, zero, suc, Bool, true, false, eqb, List, [], ◌∷◌, ◌++◌, append_assoc, append-nil, length, take, drop, None, Some, refl, sym, ap, ◌∙◌, arith, length-drop}
use Rattle.std.specs.Prelude.{All, IsUtf8}
use Rattle.std.proofs.lemmas.List.{take_rest}
use Rattle.std.proofs.lemmas.List.Elements.{All-nil, All-cons, All-head, All-tail}
use Rattle.file_spec.specs.Script.{ScriptLine}
use Rattle.file_spec.specs.declared.frames.Frame.{Frame}
use Rattle.file_spec.specs.declared.frame_kinds.FrameKind.{FrameKind}
use Rattle.file_spec.specs.declared.frame_limits.TheConstants.{FRAME_HEAD_OCTETS, END_OF_FRAME_MOMENTS, MOST_FRAMES_OCTETS}
use Rattle.file_spec.specs.Frames as frames
use Rattle.file_spec.specs.Frames.{IsFrame, AreFrames, InOrder, Reading, read_frames, reading_from, frame_fault, frame_of, length_of, place_behind}
use Rattle.file_spec.proofs.Readings.{whole, passes, read_on, read_no_further, nothing_left}
use Rattle.file_spec.proofs.Sound.{read_are_frames}
use Rattle.text_conversions.specs.Fronts.{place_of, view_of}
use Rattle.text_conversions.specs.declared.fronts.FramePosition.{FramePosition}
use Rattle.text_conversions.specs.declared.fronts.FrameView.{FrameView}
use Rattle.command_spec.specs.Frames.{AreTyped, lines_from, lines_of}
use Rattle.std.proofs.lemmas.Bool.{eqb-true, eqb-false}

-- ---- they are in order, early and texts
later : (at byte : ℕ) (fs : List Frame) → All (λ f. at ≤ f.at) fs → All (λ l. at ≤ l.at) (lines_from byte fs)
later at byte [] a = All-nil (λ (l : ScriptLine). at ≤ l.at)
later at byte (f ∷ fs) a = All-cons (λ (l : ScriptLine). at ≤ l.at) _ _ (All-head (λ g. at ≤ g.at) f fs a) (later at (byte + (FRAME_HEAD_OCTETS + length f.text)) fs (All-tail (λ g. at ≤ g.at) f fs a))

typed_from : (byte : ℕ) (fs : List Frame) → All IsFrame fs → InOrder fs → AreTyped (lines_from byte fs)
typed_from byte [] a o = record { ordered = tt; early = All-nil (λ (l : ScriptLine). l.at < END_OF_FRAME_MOMENTS); texts = All-nil (λ (l : ScriptLine). IsUtf8 l.text) }
typed_from byte (f ∷ fs) a o =
    let is = All-head IsFrame f fs a in
    let rest = typed_from (byte + (FRAME_HEAD_OCTETS + length f.text)) fs (All-tail IsFrame f fs a) o.1 in
    record {
      ordered = (later f.at (byte + (FRAME_HEAD_OCTETS + length f.text)) fs o.0, rest.ordered);
      early = All-cons (λ (l : ScriptLine). l.at < END_OF_FRAME_MOMENTS) _ _ is.early rest.early;
      texts = All-cons (λ (l : ScriptLine). IsUtf8 l.text) _ _ is.text rest.texts;
    }

pub frames_typed : (octets : List ℕ) → AreTyped (lines_of (read_frames octets).frames)
frames_typed octets = let a = read_are_frames octets in typed_from 0 (read_frames octets).frames a.each a.ordered

-- ---- frame after frame
-- these lines were read, and what is read from here on are the others
pub record Reads (octets : List ℕ) (lines : List ScriptLine) (place : FramePosition) (rest : List ℕ) : Type 0 where
  pub lines_are : lines_of (read_frames octets).frames ≡ lines ++ lines_from place.byte (reading_from (place_of place) rest).frames
  pub fault_is : (read_frames octets).fault ≡ (reading_from (place_of place) rest).fault
  pub within : place.byte ≤ MOST_FRAMES_OCTETS

pub reads_first : (octets : List ℕ) → Reads octets [] (record { byte = 0; latest = 0 }) octets
reads_first octets = record { lines_are = refl; fault_is = refl; within = omega arith }

-- what a whole frame in front takes
pub record Takes (place : FramePosition) (rest : List ℕ) (view : FrameView) : Type 0 where
  pub there : FRAME_HEAD_OCTETS + length view.text.now ≤ length rest
  pub some : 0 < length rest
  pub within : place.byte + (FRAME_HEAD_OCTETS + length view.text.now) ≤ MOST_FRAMES_OCTETS

pub takes : (place : FramePosition) (rest : List ℕ) (view : FrameView) → frame_fault (place_of place) rest ≡ None → length view.text.now ≡ length_of rest → Takes place rest view
takes place rest view e n =
    let w = whole (place_of place) rest e in
    let t = passes (place_of place) (frames.time_of rest) (length_of rest) w.tests in
    let there = w.there in
    let small = t.small in
    let head = w.head in
    record { there = omega (arith, there, n); some = omega (arith, head); within = omega (arith, small, n) }

pub reads_more : (octets : List ℕ) (lines new : List ScriptLine) (place next : FramePosition) (rest behind : List ℕ) (view : FrameView) → Reads octets lines place rest
    → frame_fault (place_of place) rest ≡ None → view_of view ≡ frame_of rest → length view.text.now ≡ length_of rest
    → new ≡ lines ++ record { line = place.byte; at = view.at; text = view.text.now } ∷ []
    → place_of next ≡ place_behind (place_of place) (view_of view)
    → behind ≡ take (length rest - (FRAME_HEAD_OCTETS + length view.text.now)) (drop (FRAME_HEAD_OCTETS + length view.text.now) rest)
    → Reads octets new next behind
reads_more octets lines new place next rest behind view r e v n p q b =
    let t = takes place rest view e n in
    let within = t.within in
    let at = ap (λ (q : frames.Place). q.byte) q in
    let cut : behind ≡ drop (FRAME_HEAD_OCTETS + length_of rest) rest = b ∙ (take_rest rest (FRAME_HEAD_OCTETS + length view.text.now) ∙ ap (λ (k : ℕ). drop (FRAME_HEAD_OCTETS + k) rest) n) in
    let on : reading_from (place_of place) rest ≡ frames.with_frame (view_of view) (reading_from (place_of next) behind) =
    read_on (place_of place) rest t.some e
    ∙ ap (λ (f : Frame). frames.with_frame f (reading_from (place_behind (place_of place) f) (drop (FRAME_HEAD_OCTETS + length_of rest) rest))) (sym v)
    ∙ ap (λ (p : frames.Place). frames.with_frame (view_of view) (reading_from p (drop (FRAME_HEAD_OCTETS + length_of rest) rest))) (sym q)
    ∙ ap (λ (octets : List ℕ). frames.with_frame (view_of view) (reading_from (place_of next) octets)) (sym cut) in
    record {
      lines_are =
          r.lines_are
          ∙ ap (λ (reading : Reading). lines ++ lines_from place.byte reading.frames) on
          ∙ ap (λ (byte : ℕ). lines ++ record { line = place.byte; at = view.at; text = view.text.now } ∷ lines_from byte (reading_from (place_of next) behind).frames) (sym at)
          ∙ sym (append_assoc lines (record { line = place.byte; at = view.at; text = view.text.now } ∷ []) (lines_from next.byte (reading_from (place_of next) behind).frames))
          ∙ ap (λ (ls : List ScriptLine). ls ++ lines_from next.byte (reading_from (place_of next) behind).frames) (sym p);
      fault_is = r.fault_is ∙ ap (λ (reading : Reading). reading.fault) on;
      within = omega (arith, at, within);
    }

-- a fault
pub reads_fault : (octets : List ℕ) (lines : List ScriptLine) (place : FramePosition) (rest : List ℕ) (kind : FrameKind) → Reads octets lines place rest → 0 < length rest → frame_fault (place_of place) rest ≡ Some kind
    → (read_frames octets).fault ≡ Some (record { offset = place.byte; kind = kind })
reads_fault octets lines place rest kind r some e = r.fault_is ∙ ap (λ (reading : Reading). reading.fault) (read_no_further (place_of place) rest kind some e)

-- the end
pub reads_end : (octets : List ℕ) (lines : List ScriptLine) (place : FramePosition) (rest : List ℕ) → Reads octets lines place rest → length rest ≡ 0 → (lines ≡ lines_of (read_frames octets).frames) × ((read_frames octets).fault ≡ None)
reads_end octets lines place [] r z = (
  sym (r.lines_are ∙ ap (λ (reading : Reading). lines ++ lines_from place.byte reading.frames) (nothing_left (place_of place)) ∙ append-nil lines),
  r.fault_is ∙ ap (λ (reading : Reading). reading.fault) (nothing_left (place_of place)),
)
reads_end octets lines place (x ∷ xs) r z = absurd (omega (arith, z))

-- ---- tests of what is left
pub some_left : (rest : List ℕ) (b : Bool) → b ≡ eqb (length rest) 0 → b ≡ false → 0 < length rest
some_left rest b e f = let n = eqb-false (length rest) 0 (sym e ∙ f) in more_than_none (length rest) n
  where
    more_than_none : (k : ℕ) → (k ≡ 0 → ⊥) → 0 < k
    more_than_none zero h = absurd (h refl)
    more_than_none (suc k) h = omega arith

pub none_left : (rest : List ℕ) (b : Bool) → b ≡ eqb (length rest) 0 → b ≡ true → length rest ≡ 0
none_left rest b e t = eqb-true (length rest) 0 (sym e ∙ t)

pub smaller : (place : FramePosition) (rest : List ℕ) (view : FrameView) → frame_fault (place_of place) rest ≡ None → length view.text.now ≡ length_of rest
    → length (take (length rest - (FRAME_HEAD_OCTETS + length view.text.now)) (drop (FRAME_HEAD_OCTETS + length view.text.now) rest)) < length rest
smaller place rest view e n =
    let t = takes place rest view e n in
    let some = t.some in
    let size = ap (λ (octets : List ℕ). length octets) (take_rest rest (FRAME_HEAD_OCTETS + length view.text.now)) in
    let left = length-drop (FRAME_HEAD_OCTETS + length view.text.now) rest in
    omega (arith, some, size, left)

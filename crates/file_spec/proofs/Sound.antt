-- What is read are frames, and what is written is read back.
use Rattle.std.proofs.Common.{◌≡◌, ℕ, zero, suc, ◌+◌, ◌<◌, ◌≤◌, ◌/◌, ◌%◌, inl, inr, Bool, true, false, cond, not, eqb, ltb, ◌||◌, List, [], ◌∷◌, ◌++◌, length, take, drop, Option, None, Some, refl, sym, ap, subst, ◌∙◌, arith, length-drop, length-take, length-append}
use Rattle.std.specs.Prelude.{All}
use Rattle.std.specs.Str.{is_utf8}
use Rattle.std.proofs.lemmas.Bool.{le-ltb, lt-leb, ne_eqb, or_from, false≢true, cases_lt}
use Rattle.std.proofs.lemmas.List.{take_at, drop_at}
use Rattle.std.proofs.lemmas.List.Elements.{All-nil, All-cons, All-head, All-tail, All-weaker}
use Rattle.std.proofs.lemmas.Nat.{from_be_bytes-to_be_bytes_2, from_be_bytes-to_be_bytes_4}
use Rattle.std.proofs.lemmas.Str.{IsUtf8-from_is_utf8, is_utf8-from_IsUtf8}
use Rattle.rtt_base.specs.declared.limits.TheConstants.{MOST_TEXT_OCTETS}
use Rattle.file_spec.specs.declared.frames.Frame.{Frame}
use Rattle.file_spec.specs.declared.frame_kinds.FrameKind.{FrameKind}
use Rattle.file_spec.specs.declared.frame_kinds.FrameKind.TheVariants.{Time, Length, TooLarge, NotText}
use Rattle.file_spec.specs.declared.frame_limits.TheConstants.{FRAME_HEAD_OCTETS, END_OF_FRAME_MOMENTS, MOST_FRAMES_OCTETS}
use Rattle.file_spec.specs.Frames.{Place, Step, End, Broken, Next, start, frame_written, frames_written, IsFrame, InOrder, AreFrames, time_of, length_of, frame_of, head_fault, text_fault, or_text_fault, frame_fault, place_behind, step_or, frame_step, with_frame, reading_by, reading_within, reading_from, read_frames, Frames}
use Rattle.file_spec.proofs.Readings.{unrolled, nothing_left, some_step, no_step, Passes, whole, whole_text, with_head, passes}

-- frames that may stand from a place on
pub record FramesFrom (p : Place) (fs : List Frame) : Type 0 where
  pub rises : All (λ f. p.latest ≤ f.at) fs
  pub ordered : InOrder fs
  pub each : All IsFrame fs
  pub size : p.byte + length (frames_written fs) ≤ MOST_FRAMES_OCTETS

none : (p : Place) → p.byte ≤ MOST_FRAMES_OCTETS → FramesFrom p []
none p w = record { rises = All-nil (λ (f : Frame). p.latest ≤ f.at); ordered = tt; each = All-nil IsFrame; size = omega (arith, w) }

more : (p : Place) (f : Frame) (fs : List Frame) → p.latest ≤ f.at → IsFrame f → FramesFrom (place_behind p f) fs → FramesFrom p (f ∷ fs)
more p f fs rises is r = record {
  rises = All-cons (λ g. p.latest ≤ g.at) f fs rises (All-weaker (λ g. f.at ≤ g.at) (λ g. p.latest ≤ g.at) (λ g h. omega (arith, h, rises)) fs r.rises);
  ordered = (r.rises, r.ordered);
  each = All-cons IsFrame f fs is r.each;
  size = (let s = r.size in let l = length-append f.text (frames_written fs) in omega (arith, s, l));
}

-- ---- what is read
record IsNext (p : Place) (octets : List ℕ) (f : Frame) (q : Place) : Type 0 where
  passed : frame_fault p octets ≡ None
  frame : frame_of octets ≡ f
  place : place_behind p (frame_of octets) ≡ q

abbrev frame_or : Frame → Step → Frame
frame_or f End = f
frame_or f (Broken fault) = f
frame_or f (Next g place rest) = g

abbrev place_or : Place → Step → Place
place_or p End = p
place_or p (Broken fault) = p
place_or p (Next g place rest) = place

abbrev is_next : Step → Bool
is_next End = false
is_next (Broken fault) = false
is_next (Next frame place rest) = true

next_is : (p : Place) (octets : List ℕ) (f : Frame) (q : Place) (rest : List ℕ) → frame_step p octets ≡ Next f q rest → IsNext p octets f q
next_is p octets f q rest e = elim (cases_lt 0 (length octets)) [
  | inl some ↦ go (frame_fault p octets) refl (sym (some_step p octets some) ∙ e)
  | inr none ↦ absurd (false≢true (ap is_next (sym (no_step p octets (omega arith)) ∙ e)))
]
  where
    go : (o : Option FrameKind) → frame_fault p octets ≡ o → step_or p octets o ≡ Next f q rest → IsNext p octets f q
    go (Some kind) g h = absurd (false≢true (ap is_next h))
    go None g h = record { passed = g; frame = ap (frame_or f) h; place = ap (place_or q) h }

-- the frame of a step may stand there, and few octets are behind it
pub frame_is : (p : Place) (octets : List ℕ) → frame_fault p octets ≡ None → (p.latest ≤ time_of octets) × IsFrame (frame_of octets) × ((place_behind p (frame_of octets)).byte ≤ MOST_FRAMES_OCTETS)
frame_is p octets e =
    let w = whole p octets e in
    let t = passes p (time_of octets) (length_of octets) w.tests in
    let behind = length-drop FRAME_HEAD_OCTETS octets in
    let size = length-take (length_of octets) (drop FRAME_HEAD_OCTETS octets) in
    let there = w.there in
    let some = t.some in
    let few = t.few in
    let small = t.small in (
      t.rises,
      record {
        early = t.early;
        some = omega (arith, behind, size, there, some);
        few = omega (arith, behind, size, there, few);
        text = IsUtf8-from_is_utf8 (take (length_of octets) (drop FRAME_HEAD_OCTETS octets)) w.text;
      },
      omega (arith, behind, size, there, small),
    )

pub sound : (n : ℕ) (p : Place) (octets : List ℕ) → p.byte ≤ MOST_FRAMES_OCTETS → FramesFrom p (reading_within n p octets).frames
unfolding reading_within
sound zero p octets w = none p w
sound (suc n) p octets w = go (frame_step p octets) refl (λ q rest v. sound n q rest v)
  where
    go : (s : Step) → frame_step p octets ≡ s → ((q : Place) (rest : List ℕ) → q.byte ≤ MOST_FRAMES_OCTETS → FramesFrom q (reading_within n q rest).frames) → FramesFrom p (reading_by (reading_within n) s).frames
    go End e r = none p w
    go (Broken fault) e r = none p w
    go (Next f q rest) e r =
        let i = next_is p octets f q rest e in
        let is = frame_is p octets i.passed in
        let small = subst (λ (q : Place). q.byte ≤ MOST_FRAMES_OCTETS) i.place is.2 in
        let behind = subst (λ (q : Place). FramesFrom q (reading_within n q rest).frames → FramesFrom (place_behind p (frame_of octets)) (reading_within n q rest).frames) i.place (λ x. x) (r q rest small) in
        subst (λ (g : Frame). FramesFrom p (g ∷ (reading_within n q rest).frames)) i.frame (more p (frame_of octets) (reading_within n q rest).frames is.0 is.1 behind)

pub read_are_frames : (octets : List ℕ) → AreFrames (read_frames octets).frames
unfolding reading_from
read_are_frames octets = let s = sound (length octets) start octets (omega arith) in let few = s.size in record { each = s.each; ordered = s.ordered; size = omega (arith, few) }

-- ---- what is written
passes_all : (p : Place) (at n : ℕ) → Passes p at n → head_fault p at n ≡ None
passes_all p at n t =
    ap (λ b. cond b (Some Time) (cond (eqb n 0 || ltb MOST_TEXT_OCTETS n) (Some Length) (cond (ltb MOST_FRAMES_OCTETS (p.byte + (FRAME_HEAD_OCTETS + n))) (Some TooLarge) None)))
    (or_from _ _ (le-ltb at p.latest t.rises) (lt-leb END_OF_FRAME_MOMENTS at t.early))
    ∙ ap (λ b. cond b (Some Length) (cond (ltb MOST_FRAMES_OCTETS (p.byte + (FRAME_HEAD_OCTETS + n))) (Some TooLarge) None))
    (let some = t.some in or_from _ _ (ne_eqb n 0 (λ z. omega (arith, z, some))) (le-ltb MOST_TEXT_OCTETS n t.few))
    ∙ ap (λ b. cond b (Some TooLarge) None) (le-ltb MOST_FRAMES_OCTETS (p.byte + (FRAME_HEAD_OCTETS + n)) t.small)

six_dropped : (a b c d e f n : ℕ) (text more : List ℕ) → length text ≡ n → drop (FRAME_HEAD_OCTETS + n) (a ∷ b ∷ c ∷ d ∷ e ∷ f ∷ (text ++ more)) ≡ more
six_dropped a b c d e f n text more size =
    let k : FRAME_HEAD_OCTETS + n ≡ suc (suc (suc (suc (suc (suc n))))) = omega arith in
    rw k (drop_at text more n size)

abbrev frame_from : ℕ → ℕ → List ℕ → Frame
frame_from at n behind = record { at = at; text = take n behind }

frame_read : (p : Place) (f : Frame) (more : List ℕ) → IsFrame f → Passes p f.at (length f.text) → frame_step p (frame_written f ++ more) ≡ Next f (place_behind p f) more
frame_read p f more is t =
    let n : ℕ = length f.text in
    let xs : List ℕ = frame_written f ++ more in
    let few = is.few in
    let early = is.early in
    let time : time_of xs ≡ f.at = from_be_bytes-to_be_bytes_4 f.at (omega (arith, early)) in
    let size : length_of xs ≡ n = from_be_bytes-to_be_bytes_2 n (omega (arith, few)) in
    let text : take n (f.text ++ more) ≡ f.text = take_at f.text more n refl in
    let frame : frame_of xs ≡ f =
    ap (λ at. frame_from at (length_of xs) (f.text ++ more)) time
    ∙ ap (λ k. frame_from f.at k (f.text ++ more)) size
    ∙ ap (λ (octets : List ℕ). let g : Frame = record { at = f.at; text = octets } in g) text in
    let rest : drop (FRAME_HEAD_OCTETS + length_of xs) xs ≡ more =
    ap (λ k. drop (FRAME_HEAD_OCTETS + k) xs) size
    ∙ six_dropped (f.at / 16777216 % 256) (f.at / 65536 % 256) (f.at / 256 % 256) (f.at % 256) (n / 256 % 256) (n % 256) n f.text more refl in
    let long : FRAME_HEAD_OCTETS ≤ length xs = omega arith in
    let some : 0 < length xs = omega arith in
    let there : n ≤ length (f.text ++ more) = (let l = length-append f.text more in omega (arith, l)) in
    let passed : frame_fault p xs ≡ None =
    with_head p xs long
    ∙ ap (λ at. or_text_fault xs (head_fault p at (length_of xs))) time
    ∙ ap (λ k. or_text_fault xs (head_fault p f.at k)) size
    ∙ ap (or_text_fault xs) (passes_all p f.at n t)
    ∙ ap (λ k. text_fault k (f.text ++ more)) size
    ∙ whole_text n (f.text ++ more) there
    ∙ ap (λ (octets : List ℕ). cond (not (is_utf8 octets)) (Some NotText) None) text
    ∙ ap (λ b. cond (not b) (Some NotText) None) (is_utf8-from_IsUtf8 f.text is.text) in
    some_step p xs some
    ∙ ap (step_or p xs) passed
    ∙ ap (λ (g : Frame). Next g (place_behind p g) (drop (FRAME_HEAD_OCTETS + length_of xs) xs)) frame
    ∙ ap (λ (octets : List ℕ). Next f (place_behind p f) octets) rest

head_passes : (p : Place) (f : Frame) (fs : List Frame) → FramesFrom p (f ∷ fs) → Passes p f.at (length f.text)
head_passes p f fs r =
    let is = All-head IsFrame f fs r.each in
    let size = r.size in
    let l = length-append f.text (frames_written fs) in
    record { rises = All-head (λ (g : Frame). p.latest ≤ g.at) f fs r.rises; early = is.early; some = is.some; few = is.few; small = omega (arith, size, l) }

others_from : (p : Place) (f : Frame) (fs : List Frame) → FramesFrom p (f ∷ fs) → FramesFrom (place_behind p f) fs
others_from p f fs r =
    let size = r.size in
    let l = length-append f.text (frames_written fs) in
    record { rises = r.ordered.0; ordered = r.ordered.1; each = All-tail IsFrame f fs r.each; size = omega (arith, size, l) }

read_from : (p : Place) (fs : List Frame) → FramesFrom p fs → reading_from p (frames_written fs) ≡ record { frames = fs; fault = None }
read_from p [] r = nothing_left p
read_from p (f ∷ fs) r =
    unrolled p (frames_written (f ∷ fs))
    ∙ ap (reading_by reading_from) (frame_read p f (frames_written fs) (All-head IsFrame f fs r.each) (head_passes p f fs r))
    ∙ ap (with_frame f) (read_from (place_behind p f) fs (others_from p f fs r))

pub read_back : (fs : List Frame) → AreFrames fs → Frames (frames_written fs) fs
read_back fs a = read_from start fs (record { rises = All-weaker IsFrame (λ (f : Frame). 0 ≤ f.at) (λ f h. omega arith) fs a.each; ordered = a.ordered; each = a.each; size = (let s = a.size in omega (arith, s)) })

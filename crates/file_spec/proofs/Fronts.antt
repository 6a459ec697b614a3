-- What of octets is decided before the others came.
use Rattle.std.proofs.Common.{◌≡◌, ℕ, zero, suc, ◌+◌, ◌<◌, ◌≤◌, List, [], ◌∷◌, ◌++◌, length, take, drop, Option, None, Some, is_some, refl, sym, ap, ◌∙◌, arith, length-drop, length-take, length-append}
use Rattle.std.specs.Prelude.{◌≢◌}
use Rattle.std.proofs.lemmas.Bool.{false≢true}
use Rattle.std.proofs.lemmas.List.{take-append-le, drop-append-le}
use Rattle.file_spec.specs.declared.frames.Frame.{Frame}
use Rattle.file_spec.specs.declared.frames.FrameRefusal.{FrameRefusal}
use Rattle.file_spec.specs.declared.frame_kinds.FrameKind.{FrameKind}
use Rattle.file_spec.specs.declared.frame_kinds.FrameKind.TheVariants.{EndsInside}
use Rattle.file_spec.specs.declared.frame_limits.TheConstants.{FRAME_HEAD_OCTETS, MOST_FRAMES_OCTETS}
use Rattle.file_spec.specs.Frames.{Place, Reading, lasting, lasting_fault, time_of, length_of, frame_of, frame_fault, place_behind, with_frame, reading_from, read_frames, start}
use Rattle.file_spec.proofs.Readings.{nothing_left, SameHead, same_head, whole, passes, begun, steady, read_on, read_no_further}

abbrev frame_from : ℕ → ℕ → List ℕ → Frame
frame_from at n behind = record { at = at; text = take n behind }

frame_same : (xs ys : List ℕ) → SameHead xs ys → FRAME_HEAD_OCTETS + length_of xs ≤ length xs → frame_of (xs ++ ys) ≡ frame_of xs
frame_same xs ys s there =
    ap (λ t. frame_from t (length_of (xs ++ ys)) (drop FRAME_HEAD_OCTETS (xs ++ ys))) s.time
    ∙ ap (λ n. frame_from (time_of xs) n (drop FRAME_HEAD_OCTETS (xs ++ ys))) s.size
    ∙ ap (λ (zs : List ℕ). frame_from (time_of xs) (length_of xs) zs) s.behind
    ∙ ap (λ (zs : List ℕ). let f : Frame = record { at = time_of xs; text = zs } in f) (take-append-le (length_of xs) (drop FRAME_HEAD_OCTETS xs) ys (let l = length-drop FRAME_HEAD_OCTETS xs in omega (arith, there, l)))

-- a frame that is decided is read as it is without what follows, and so is all, where what is behind it is
same_by_step : (p : Place) (xs ys : List ℕ) → 0 < length xs → frame_fault p xs ≢ Some EndsInside
    → (frame_fault p xs ≡ None → reading_from (place_behind p (frame_of xs)) (drop (FRAME_HEAD_OCTETS + length_of xs) xs ++ ys) ≡ reading_from (place_behind p (frame_of xs)) (drop (FRAME_HEAD_OCTETS + length_of xs) xs))
    → reading_from p (xs ++ ys) ≡ reading_from p xs
same_by_step p xs ys some decides behind = go (frame_fault p xs) refl
  where
    all : 0 < length (xs ++ ys)
    all = let s = length-append xs ys in omega (arith, s, some)

    same : frame_fault p (xs ++ ys) ≡ frame_fault p xs
    same = steady p xs ys decides

    go : (o : Option FrameKind) → frame_fault p xs ≡ o → reading_from p (xs ++ ys) ≡ reading_from p xs
    go (Some kind) e = read_no_further p (xs ++ ys) kind all (same ∙ e) ∙ sym (read_no_further p xs kind some e)
    go None e =
        let h = whole p xs e in
        let s = same_head xs ys h.head in
        let there = h.there in
        read_on p (xs ++ ys) all (same ∙ e)
        ∙ ap (λ (f : Frame). with_frame f (reading_from (place_behind p f) (drop (FRAME_HEAD_OCTETS + length_of (xs ++ ys)) (xs ++ ys)))) (frame_same xs ys s there)
        ∙ ap (λ k. with_frame (frame_of xs) (reading_from (place_behind p (frame_of xs)) (drop (FRAME_HEAD_OCTETS + k) (xs ++ ys)))) s.size
        ∙ ap (λ zs. with_frame (frame_of xs) (reading_from (place_behind p (frame_of xs)) zs)) (drop-append-le (FRAME_HEAD_OCTETS + length_of xs) xs ys there)
        ∙ ap (with_frame (frame_of xs)) (behind e)
        ∙ sym (read_on p xs some e)

-- how long a frame is, and where it ends
record Behind (p : Place) (xs : List ℕ) : Type 0 where
  shorter : length (drop (FRAME_HEAD_OCTETS + length_of xs) xs) < length xs
  ends : length (drop (FRAME_HEAD_OCTETS + length_of xs) xs) + (FRAME_HEAD_OCTETS + length (frame_of xs).text) ≡ length xs
  small : p.byte + (FRAME_HEAD_OCTETS + length (frame_of xs).text) ≤ MOST_FRAMES_OCTETS

behind_of : (p : Place) (xs : List ℕ) → frame_fault p xs ≡ None → Behind p xs
behind_of p xs e =
    let h = whole p xs e in
    let small = (passes p (time_of xs) (length_of xs) h.tests).small in
    let there = h.there in
    let left = length-drop (FRAME_HEAD_OCTETS + length_of xs) xs in
    let a = length-take (length_of xs) (drop FRAME_HEAD_OCTETS xs) in
    let b = length-drop FRAME_HEAD_OCTETS xs in
    record { shorter = omega (arith, left, there); ends = omega (arith, left, there, a, b); small = omega (arith, small, a, b, there) }

-- ---- octets that are more than all frames may have
-- a frame that begins where frames may begin is decided
decided : (p : Place) (xs : List ℕ) → p.byte ≤ MOST_FRAMES_OCTETS → MOST_FRAMES_OCTETS + FRAME_HEAD_OCTETS ≤ p.byte + length xs → frame_fault p xs ≢ Some EndsInside
decided p xs w l e =
    let b = begun p xs (omega (arith, w, l)) e in
    let small = b.passes.small in
    let cut = b.cut in
    absurd (omega (arith, small, cut, l))

pub same_reading : (n : ℕ) (p : Place) (xs ys : List ℕ) → length xs ≤ n → p.byte ≤ MOST_FRAMES_OCTETS → MOST_FRAMES_OCTETS + FRAME_HEAD_OCTETS ≤ p.byte + length xs → reading_from p (xs ++ ys) ≡ reading_from p xs
same_reading zero p xs ys few w l = absurd (omega (arith, few, w, l))
same_reading (suc n) p xs ys few w l = same_by_step p xs ys (omega (arith, w, l)) (decided p xs w l) (λ e.
    let b = behind_of p xs e in
    let shorter = b.shorter in
    let ends = b.ends in
    let small = b.small in
    same_reading n (place_behind p (frame_of xs)) (drop (FRAME_HEAD_OCTETS + length_of xs) xs) ys (omega (arith, shorter, few)) (omega (arith, small)) (omega (arith, ends, l)))

pub long_front : (front rest : List ℕ) → MOST_FRAMES_OCTETS + FRAME_HEAD_OCTETS ≤ length front → read_frames (front ++ rest) ≡ read_frames front
long_front front rest l = same_reading (length front) start front rest (omega arith) (omega arith) (omega (arith, l))

-- ---- octets that have a fault whatever follows
no_fault : (fault : FrameRefusal) → lasting None ≡ Some fault → ⊥
no_fault fault e = false≢true (ap (λ (o : Option FrameRefusal). is_some o) e)

same_lasting : (n : ℕ) (p : Place) (xs ys : List ℕ) (fault : FrameRefusal) → length xs ≤ n → lasting (reading_from p xs).fault ≡ Some fault → reading_from p (xs ++ ys) ≡ reading_from p xs
same_lasting n p [] ys fault few e = absurd (no_fault fault (sym (ap (λ (r : Reading). lasting r.fault) (nothing_left p)) ∙ e))
same_lasting zero p (x ∷ xs) ys fault few e = absurd (omega (arith, few))
same_lasting (suc n) p (x ∷ xs) ys fault few e = same_by_step p (x ∷ xs) ys (omega arith)
    (λ q. absurd (no_fault fault (sym (ap (λ (r : Reading). lasting r.fault) (read_no_further p (x ∷ xs) EndsInside (omega arith) q)) ∙ e)))
    (λ q.
    let shorter = (behind_of p (x ∷ xs) q).shorter in
    same_lasting n (place_behind p (frame_of (x ∷ xs))) (drop (FRAME_HEAD_OCTETS + length_of (x ∷ xs)) (x ∷ xs)) ys fault (omega (arith, shorter, few)) (sym (ap (λ (r : Reading). lasting r.fault) (read_on p (x ∷ xs) (omega arith) q)) ∙ e))

pub fault_lasts : (octets more : List ℕ) (fault : FrameRefusal) → lasting_fault octets ≡ Some fault → read_frames (octets ++ more) ≡ read_frames octets
fault_lasts octets more fault e = same_lasting (length octets) start octets more fault (omega arith) e

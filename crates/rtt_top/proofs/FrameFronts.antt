-- Of frames that are too large a front is read, and what is told of the front holds of the whole.
use Rattle.std.proofs.Common.{◌≡◌, ℕ, zero, suc, ◌+◌, ◌<◌, ◌≤◌, true, List, length, take, drop, Option, None, Some, is_some, refl, ap, ◌∙◌, arith, length-drop}
use Rattle.std.proofs.lemmas.List.{length-take-le}
use Rattle.file_spec.specs.declared.frame_kinds.FrameKind.{FrameKind}
use Rattle.file_spec.specs.declared.frame_limits.TheConstants.{FRAME_HEAD_OCTETS, MOST_FRAMES_OCTETS}
use Rattle.file_spec.specs.Frames.{Place, time_of, length_of, frame_of, frame_fault, place_behind, read_frames, reading_from, start}
use Rattle.file_spec.proofs.Readings.{Whole, passes, read_no_further, read_on, whole}

-- ---- a frame that is whole, and octets behind it
text_length : (p : Place) (xs : List ℕ) → Whole p xs → length (take (length_of xs) (drop FRAME_HEAD_OCTETS xs)) ≡ length_of xs
text_length p xs w = length-take-le (length_of xs) (drop FRAME_HEAD_OCTETS xs) (omega (arith, w.there, length-drop FRAME_HEAD_OCTETS xs))

-- ---- where more octets are there than frames may have
-- they are not read to their end
broken_reading : (fuel : ℕ) (p : Place) (xs : List ℕ) → length xs ≤ fuel → p.byte ≤ MOST_FRAMES_OCTETS → MOST_FRAMES_OCTETS < p.byte + length xs
    → is_some (reading_from p xs).fault ≡ true
broken_reading zero p xs few small long = absurd (omega (arith, few, small, long))
broken_reading (suc n) p xs few small long = go (λ q rest less early more. broken_reading n q rest less early more) (frame_fault p xs) refl
  where
    some : 0 < length xs
    some = omega (arith, small, long)

    go : ((q : Place) (rest : List ℕ) → length rest ≤ n → q.byte ≤ MOST_FRAMES_OCTETS → MOST_FRAMES_OCTETS < q.byte + length rest → is_some (reading_from q rest).fault ≡ true)
        → (found : Option FrameKind) → frame_fault p xs ≡ found → is_some (reading_from p xs).fault ≡ true
    go again (Some kind) e = ap (λ r. is_some r.fault) (read_no_further p xs kind some e)
    go again None e =
        let w = whole p xs e in
        let fits = (passes p (time_of xs) (length_of xs) w.tests).small in
        let text = text_length p xs w in
        ap (λ r. is_some r.fault) (read_on p xs some e)
        ∙ again (place_behind p (frame_of xs)) (drop (FRAME_HEAD_OCTETS + length_of xs) xs)
        (omega (arith, few, some, length-drop (FRAME_HEAD_OCTETS + length_of xs) xs)) (omega (arith, fits, text))
        (omega (arith, long, text, w.there, length-drop (FRAME_HEAD_OCTETS + length_of xs) xs))

pub front_broken : (octets : List ℕ) → MOST_FRAMES_OCTETS < length octets → is_some (read_frames octets).fault ≡ true
front_broken octets long = broken_reading (length octets) start octets (omega arith) (omega arith) (omega (arith, long))

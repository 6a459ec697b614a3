-- What waits of texts that are UTF-8.
use Rattle.std.proofs.Common.{◌≡◌, ℕ, Bool, Some, List, [], ◌∷◌, ◌++◌, subst, sym}
use Rattle.std.specs.Prelude.{slice_get, IsUtf8}
use Rattle.std.proofs.lemmas.Str.{IsUtf8-append, IsUtf8-nil}
use Rattle.stream_spec.specs.Ready.{Chunk}
use Rattle.mixer_spec.specs.Chunks.{joined, front, behind}
use Rattle.mixer_spec.specs.Table.{Taken, chunks_taken}
use Rattle.mixer_spec.proofs.Kept.{front_behind}
use Rattle.mixer_places.specs.declared.parts.Part.{Part}
use Rattle.mixer_places.specs.Lanes.{Waiting}
use Rattle.mixer_places.specs.LaneInsides.{AreUtf8}
use Rattle.mixer_places.specs.SlotStanding.{SlotHolds}

left_utf8 : (xs ys : List Chunk) → AreUtf8 (xs ++ ys) → AreUtf8 xs
left_utf8 [] ys a = tt
left_utf8 (x ∷ xs) ys a = (a.0, left_utf8 xs ys a.1)

joined_utf8 : (cs : List Chunk) → AreUtf8 cs → IsUtf8 (joined cs)
joined_utf8 [] a = IsUtf8-nil
joined_utf8 (c ∷ cs) a = IsUtf8-append c.text (joined cs) a.0 (joined_utf8 cs a.1)

taken_left : (xs ys : List Taken) → AreUtf8 (chunks_taken (xs ++ ys)) → AreUtf8 (chunks_taken xs)
taken_left [] ys a = tt
taken_left (x ∷ xs) ys a = (a.0, taken_left xs ys a.1)

taken_right : (xs ys : List Taken) → AreUtf8 (chunks_taken (xs ++ ys)) → AreUtf8 (chunks_taken ys)
taken_right [] ys a = a
taken_right (x ∷ xs) ys a = taken_right xs ys a.1

-- one text more
pub more_utf8 : (xs : List Taken) (x : Taken) → AreUtf8 (chunks_taken xs) → IsUtf8 x.chunk.text → AreUtf8 (chunks_taken (xs ++ x ∷ []))
more_utf8 [] x a u = (u, tt)
more_utf8 (y ∷ xs) x a u = (a.0, more_utf8 xs x a.1 u)

-- what waits at a terminal was taken
waits_utf8 : (w : Waiting) (taken : List Taken) (listens : ℕ → Bool) (waits : ℕ → List Chunk) → SlotHolds w taken listens waits → AreUtf8 (chunks_taken taken)
    → (j : ℕ) (p : Part) → slice_get w.parts j ≡ Some p → AreUtf8 (waits j)
waits_utf8 w taken listens waits h u j p g =
    let r = h.parts j p g in
    let kept = taken_right h.gone h.kept (subst (λ (xs : List Taken). AreUtf8 (chunks_taken xs)) h.all u) in
    let rest = taken_right r.before (r.part ++ r.behind) (subst (λ (xs : List Taken). AreUtf8 (chunks_taken xs)) r.whole kept) in
    subst AreUtf8 r.waits (taken_left r.part r.behind rest)

-- what is taken of it is UTF-8
pub fetched_utf8 : (w : Waiting) (taken : List Taken) (listens : ℕ → Bool) (waits : ℕ → List Chunk) → SlotHolds w taken listens waits → AreUtf8 (chunks_taken taken)
    → (j : ℕ) (p : Part) → slice_get w.parts j ≡ Some p → (room : ℕ) → IsUtf8 (joined (front room (waits j)))
fetched_utf8 w taken listens waits h u j p g room =
    joined_utf8 (front room (waits j)) (left_utf8 (front room (waits j)) (behind room (waits j)) (subst AreUtf8 (sym (front_behind room (waits j))) (waits_utf8 w taken listens waits h u j p g)))

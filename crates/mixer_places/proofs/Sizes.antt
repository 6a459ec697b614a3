-- How many octets chunks have, one behind the other, and the places between them.
use Rattle.std.proofs.Common.{◌≡◌, ℕ, suc, ◌+◌, ◌-◌, ◌≤◌, Bool, true, false, cond, inl, inr, List, [], ◌∷◌, ◌++◌, length, length-append, map, take, drop, refl, ap, sym, ◌∙◌, arith}
use Rattle.std.specs.Prelude.{sum, nat_le, nat_lt}
use Rattle.std.proofs.lemmas.List.{map-append, length-map, take-append-le, take-map}
use Rattle.std.proofs.lemmas.Bool.{cases_lt, lt-ltb, le-ltb}
use Rattle.std.proofs.Math.Seq.{take-append_seam, drop-append_seam}
use Rattle.stream_spec.specs.Ready.{Chunk}
use Rattle.mixer_spec.specs.Chunks.{joined, octets, front, behind, has_chunk}
use Rattle.mixer_spec.specs.Table.{Taken, chunks_taken}
use Rattle.mixer_places.specs.declared.rings.RingPosition.{RingPosition}
use Rattle.mixer_places.specs.Rings.{Chunks, IsPlace, end_of, chunks_between, count_fitting}
use Rattle.mixer_places.specs.SlotStanding.{kept_of, place_of}
use Rattle.mixer_places.proofs.Fronts.{fits_more, fits_none}
use Rattle.mixer_spec.proofs.Shares.{chunks_append as taken_append}
pub use Rattle.mixer_spec.proofs.Plain.{joined_append}
use Rattle.mixer_spec.proofs.Plain.{octets_append}
use Rattle.stream_spec.proofs.Plain.{sum_cons}

abbrev pub lengths_of : List Taken → List ℕ
lengths_of xs = map (λ x. length x.chunk.text) xs

pub joined_size : (cs : List Chunk) → length (joined cs) ≡ octets cs
joined_size [] = refl
joined_size (c ∷ cs) = omega (arith, length-append c.text (joined cs), joined_size cs)

pub sum_lengths : (xs : List Taken) → sum (lengths_of xs) ≡ octets (chunks_taken xs)
sum_lengths [] = refl
sum_lengths (x ∷ xs) = omega (arith, sum_cons (length x.chunk.text) (lengths_of xs), sum_lengths xs)

pub octets_taken : (xs ys : List Taken) → octets (chunks_taken (xs ++ ys)) ≡ octets (chunks_taken xs) + octets (chunks_taken ys)
octets_taken xs ys = ap octets (taken_append xs ys) ∙ octets_append (chunks_taken xs) (chunks_taken ys)

pub joined_taken : (xs ys : List Taken) → joined (chunks_taken (xs ++ ys)) ≡ joined (chunks_taken xs) ++ joined (chunks_taken ys)
joined_taken xs ys = ap joined (taken_append xs ys) ∙ joined_append (chunks_taken xs) (chunks_taken ys)

pub same_place : (p q : RingPosition) → p.chunks ≡ q.chunks → p.octets ≡ q.octets → p ≡ q
same_place p q e f =
    let one : p ≡ record { chunks = q.chunks; octets = p.octets } = ap (λ (n : ℕ). let r : RingPosition = record { chunks = n; octets = p.octets } in r) e in
    one ∙ ap (λ (n : ℕ). let r : RingPosition = record { chunks = q.chunks; octets = n } in r) f

pub same_chunks : (c d : Chunks) → c.octets ≡ d.octets → c.lengths ≡ d.lengths → c ≡ d
same_chunks c d e f =
    let one : c ≡ record { octets = d.octets; lengths = c.lengths } = ap (λ (l : List ℕ). let r : Chunks = record { octets = l; lengths = c.lengths } in r) e in
    one ∙ ap (λ (l : List ℕ). let r : Chunks = record { octets = d.octets; lengths = l } in r) f

-- the place behind all of them
pub end_is : (xs : List Taken) → end_of (kept_of xs) ≡ place_of xs
end_is xs = same_place (end_of (kept_of xs)) (place_of xs) (length-map xs (λ (x : Taken). length x.chunk.text)) (joined_size (chunks_taken xs))

pub is_place : (xs ys : List Taken) → IsPlace (kept_of (xs ++ ys)) (place_of xs)
is_place xs ys =
    let n : length (lengths_of xs) ≡ length xs = length-map xs (λ (x : Taken). length x.chunk.text) in
    let whole : lengths_of (xs ++ ys) ≡ lengths_of xs ++ lengths_of ys = map-append (λ (x : Taken). length x.chunk.text) xs ys in
    let first : take (length xs) (lengths_of (xs ++ ys)) ≡ lengths_of xs =
    ap (λ (l : List ℕ). take (length xs) l) whole ∙ (ap (λ (m : ℕ). take m (lengths_of xs ++ lengths_of ys)) (sym n) ∙ take-append_seam (lengths_of xs) (lengths_of ys)) in
    record {
      chunks = omega (arith, length-map (xs ++ ys) (λ (x : Taken). length x.chunk.text), length-append xs ys);
      octets = sym (ap sum first ∙ sum_lengths xs);
    }

-- the lengths of a part
pub lengths_between : (xs ys zs : List Taken) (n : ℕ) → n ≤ length ys → chunks_between (kept_of (xs ++ (ys ++ zs))) (length xs) (length xs + n) ≡ lengths_of (take n ys)
lengths_between xs ys zs n l =
    let f : Taken → ℕ = λ (x : Taken). length x.chunk.text in
    let m : length (map f xs) ≡ length xs = length-map xs f in
    let whole : lengths_of (xs ++ (ys ++ zs)) ≡ lengths_of xs ++ lengths_of (ys ++ zs) = map-append f xs (ys ++ zs) in
    let rest : drop (length xs) (lengths_of (xs ++ (ys ++ zs))) ≡ lengths_of (ys ++ zs) =
    ap (λ (l : List ℕ). drop (length xs) l) whole ∙ (ap (λ (k : ℕ). drop k (lengths_of xs ++ lengths_of (ys ++ zs))) (sym m) ∙ drop-append_seam (lengths_of xs) (lengths_of (ys ++ zs))) in
    let k : (length xs + n) - length xs ≡ n = omega arith in
    ap (λ (j : ℕ). take j (drop (length xs) (lengths_of (xs ++ (ys ++ zs))))) k
    ∙ (ap (λ (l : List ℕ). take n l) rest
    ∙ (take-map f n (ys ++ zs) ∙ ap (λ (l : List Taken). lengths_of l) (take-append-le n ys zs l)))

-- the octets of a part
pub octets_between : (xs ys zs : List Taken) → take (octets (chunks_taken ys)) (drop (octets (chunks_taken xs)) (joined (chunks_taken (xs ++ (ys ++ zs))))) ≡ joined (chunks_taken ys)
octets_between xs ys zs =
    let a = joined (chunks_taken xs) in
    let b = joined (chunks_taken ys) in
    let d = joined (chunks_taken zs) in
    let whole : joined (chunks_taken (xs ++ (ys ++ zs))) ≡ a ++ (b ++ d) = joined_taken xs (ys ++ zs) ∙ ap (λ (l : List ℕ). a ++ l) (joined_taken ys zs) in
    ap (λ (l : List ℕ). take (octets (chunks_taken ys)) (drop (octets (chunks_taken xs)) l)) whole
    ∙ (ap (λ (n : ℕ). take (octets (chunks_taken ys)) (drop n (a ++ (b ++ d)))) (sym (joined_size (chunks_taken xs)))
    ∙ (ap (λ (l : List ℕ). take (octets (chunks_taken ys)) l) (drop-append_seam a (b ++ d))
    ∙ (ap (λ (n : ℕ). take n (b ++ d)) (sym (joined_size (chunks_taken ys))) ∙ take-append_seam b d)))

-- how many of these chunks fit
pub few_fit : (room : ℕ) (ns : List ℕ) → count_fitting room ns ≤ length ns
few_fit room [] = omega arith
few_fit room (n ∷ ns) = elim (cases_lt room n) [
  | inl less ↦ omega (arith, fits_none room n ns less)
  | inr more ↦ omega (arith, fits_more room n ns more, few_fit (room - n) ns)
]

pub front_is : (room : ℕ) (xs : List Taken) → front room (chunks_taken xs) ≡ chunks_taken (take (count_fitting room (lengths_of xs)) xs)
front_is room [] = refl
front_is room (x ∷ xs) = go (nat_le (length x.chunk.text) room) (front_is (room - length x.chunk.text) xs)
  where
    go : (b : Bool) → front (room - length x.chunk.text) (chunks_taken xs) ≡ chunks_taken (take (count_fitting (room - length x.chunk.text) (lengths_of xs)) xs)
        → cond b (x.chunk ∷ front (room - length x.chunk.text) (chunks_taken xs)) [] ≡ chunks_taken (take (cond b (suc (count_fitting (room - length x.chunk.text) (lengths_of xs))) 0) (x ∷ xs))
    go true e = ap (λ cs. x.chunk ∷ cs) e
    go false e = refl

pub behind_is : (room : ℕ) (xs : List Taken) → behind room (chunks_taken xs) ≡ chunks_taken (drop (count_fitting room (lengths_of xs)) xs)
behind_is room [] = refl
behind_is room (x ∷ xs) = go (nat_le (length x.chunk.text) room) (behind_is (room - length x.chunk.text) xs)
  where
    go : (b : Bool) → behind (room - length x.chunk.text) (chunks_taken xs) ≡ chunks_taken (drop (count_fitting (room - length x.chunk.text) (lengths_of xs)) xs)
        → cond b (behind (room - length x.chunk.text) (chunks_taken xs)) (x.chunk ∷ chunks_taken xs) ≡ chunks_taken (drop (cond b (suc (count_fitting (room - length x.chunk.text) (lengths_of xs))) 0) (x ∷ xs))
    go true e = e
    go false e = refl

pub has_chunk_is : (xs : List Taken) (n : ℕ) → nat_lt n (n + length xs) ≡ has_chunk (chunks_taken xs)
has_chunk_is [] n = le-ltb n (n + 0) (omega arith)
has_chunk_is (x ∷ xs) n = lt-ltb n (n + suc (length xs)) (omega arith)

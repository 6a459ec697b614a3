-- The chunks before the oldest one that waits are given up.
use Rattle.std.proofs.Common.{◌≡◌, ℕ, zero, suc, ◌+◌, ◌-◌, ◌<◌, ◌≤◌, ◌⊎◌, inl, inr, Bool, true, false, Option, Some, None, List, [], ◌∷◌, ◌++◌, length, length-append, map, take, drop, append-nil, append_assoc, refl, ap, subst, sym, ◌∙◌, arith}
use Rattle.std.specs.Prelude.{if◌then◌else◌, slice_get}
use Rattle.std.proofs.lemmas.Bool.{cases_lt}
use Rattle.std.proofs.lemmas.List.{length-take, length-drop, drop_all, drop-map, take-append-drop}
use Rattle.stream_spec.specs.Ready.{Chunk}
use Rattle.mixer_spec.specs.Chunks.{joined, octets}
use Rattle.mixer_spec.specs.Table.{Taken, chunks_taken}
use Rattle.mixer_spec.specs.Laws.{AllGiven}
use Rattle.mixer_places.specs.declared.rings.RingPosition.{RingPosition}
use Rattle.mixer_places.specs.declared.parts.Part.{Part}
use Rattle.mixer_places.specs.Rings.{Chunks, IsPlace, end_of, given_up, pushed}
use Rattle.mixer_places.specs.Lanes.{Waiting, IsOldest, part_end, place_after, end_after, part_after, without}
use Rattle.mixer_places.specs.SlotStanding.{kept_of, place_of, IsPart, SlotHolds}
use Rattle.mixer_places.proofs.Lists.{drop-append, take-append, get_map}
use Rattle.mixer_places.proofs.Sizes.{lengths_of, same_place, same_chunks, octets_taken, joined_taken, joined_size, end_is, is_place}
use Rattle.mixer_places.proofs.Holding.{part_end_is}
use Rattle.mixer_places.proofs.Adding.{added}
use Rattle.std.proofs.Math.Seq.{drop-append_seam, take-append_seam}

-- ---- places
octets_halves : (n : ℕ) (xs : List Taken) → octets (chunks_taken (take n xs)) + octets (chunks_taken (drop n xs)) ≡ octets (chunks_taken xs)
octets_halves n xs = sym (octets_taken (take n xs) (drop n xs)) ∙ ap (λ (ys : List Taken). octets (chunks_taken ys)) (take-append-drop n xs)

pub place_drop : (n : ℕ) (xs ys : List Taken) → place_after (place_of (take n (xs ++ ys))) (place_of xs) ≡ place_of (drop n xs)
place_drop n xs ys =
    same_place (place_after (place_of (take n (xs ++ ys))) (place_of xs)) (place_of (drop n xs))
    (omega (arith, length-take n (xs ++ ys), length-append xs ys, length-drop n xs))
    (elim (cases_lt (length xs) n) [
      | inl past ↦
          let none : drop n xs ≡ [] = drop_all n xs (omega arith) in
          omega (arith, part, octets_halves n xs, ap (λ (zs : List Taken). octets (chunks_taken zs)) none)
      | inr within ↦
          let zero_more : n - length xs ≡ 0 = omega arith in
          omega (arith, part, octets_halves n xs, ap (λ (k : ℕ). octets (chunks_taken (take k ys))) zero_more)
    ])
  where
    part : octets (chunks_taken (take n (xs ++ ys))) ≡ octets (chunks_taken (take n xs)) + octets (chunks_taken (take (n - length xs) ys))
    part = ap (λ (zs : List Taken). octets (chunks_taken zs)) (take-append n xs ys) ∙ octets_taken (take n xs) (take (n - length xs) ys)

-- ---- parts
drop_part : (m : ℕ) (part behind : List Taken) → (part ≡ []) ⊎ (m ≡ 0) → drop m (part ++ behind) ≡ part ++ drop m behind
drop_part m part behind (inl e) = ap (λ (xs : List Taken). drop m (xs ++ behind)) e ∙ ap (λ (xs : List Taken). xs ++ drop m behind) (sym e)
drop_part m part behind (inr e) = ap (λ (k : ℕ). drop k (part ++ behind)) e ∙ ap (λ (k : ℕ). part ++ drop k behind) (sym e)

given_drop : (b : Bool) (j n : ℕ) (xs : List Taken) → AllGiven b j xs → AllGiven b j (drop n xs)
given_drop b j zero xs h = h
given_drop b j (suc n) [] h = h
given_drop b j (suc n) (x ∷ xs) h = given_drop b j n xs h.1

-- the part is empty, or all before the n-th is before it
IsEarly : ℕ → List Taken → List Taken → Type 0
IsEarly n before part = (part ≡ []) ⊎ (n ≤ length before)

less : (n m : ℕ) (part : List Taken) → (part ≡ []) ⊎ (n ≤ m) → (part ≡ []) ⊎ (n - m ≡ 0)
less n m part (inl e) = inl e
less n m part (inr l) = inr (omega arith)

part_rebased : (j : ℕ) (l : Bool) (ws : List Chunk) (kept : List Taken) (p : Part) (h : IsPart j l ws kept p) (n : ℕ) → (h.part ≡ []) ⊎ (n ≤ length h.before)
    → IsPart j l ws (drop n kept) (part_after (place_of (take n kept)) p)
part_rebased j l ws kept p h n early =
    let m = n - length h.before in
    let e = less n (length h.before) h.part early in
    let whole_end : kept ≡ (h.before ++ h.part) ++ h.behind = h.whole ∙ sym (append_assoc h.before h.part h.behind) in
    let until : drop n (h.before ++ h.part) ≡ drop n h.before ++ h.part =
    drop-append n h.before h.part ∙ ap (λ (xs : List Taken). drop n h.before ++ xs) (ap (λ (xs : List Taken). drop m xs) (sym (append-nil h.part)) ∙ (drop_part m h.part [] e ∙ (ap (λ (xs : List Taken). h.part ++ xs) (none m) ∙ append-nil h.part))) in
    record {
      before = drop n h.before;
      part = h.part;
      behind = drop m h.behind;
      whole = ap (λ (xs : List Taken). drop n xs) h.whole ∙ (drop-append n h.before (h.part ++ h.behind) ∙ ap (λ (xs : List Taken). drop n h.before ++ xs) (drop_part m h.part h.behind e));
      waits = h.waits;
      all_given = h.all_given;
      none_behind = given_drop false j m h.behind h.none_behind;
      from = ap (λ (x : RingPosition). place_after (place_of (take n kept)) x) h.from
          ∙ (ap (λ (xs : List Taken). place_after (place_of (take n xs)) (place_of h.before)) h.whole ∙ place_drop n h.before (h.part ++ h.behind));
      to = ap (λ (o : Option RingPosition). end_after (place_of (take n kept)) o) h.to ∙ ends l (place_of (take n kept)) (place_of (h.before ++ h.part)) (place_of (drop n h.before ++ h.part)) (ap (λ (xs : List Taken). place_after (place_of (take n xs)) (place_of (h.before ++ h.part))) whole_end ∙ (place_drop n (h.before ++ h.part) h.behind ∙ ap place_of until));
      goes_on = λ t. ap (λ (xs : List Taken). drop m xs) (h.goes_on t) ∙ none m;
    }
  where
    none : (m : ℕ) → ◌≡◌ {A = List Taken} (drop m []) []
    none zero = refl
    none (suc m) = refl

    ends : (b : Bool) (front x y : RingPosition) → place_after front x ≡ y → end_after front (if b then None else Some x) ≡ (if b then None else Some y)
    ends true front x y e = refl
    ends false front x y e = ap Some e

-- ---- the oldest
-- the place is the one behind the first so many
pub record IsCut (kept : List Taken) (p : RingPosition) : Type 0 where
  pub within : p.chunks ≤ length kept
  pub place : p ≡ place_of (take p.chunks kept)

cut_at : (xs ys : List Taken) (p : RingPosition) → p ≡ place_of xs → IsCut (xs ++ ys) p
cut_at xs ys p e =
    let n : p.chunks ≡ length xs = ap (λ (x : RingPosition). x.chunks) e in
    record {
      within = omega (arith, n, length-append xs ys);
      place = e ∙ ap place_of (sym (ap (λ (k : ℕ). take k (xs ++ ys)) n ∙ take-append_seam xs ys));
    }

pub oldest_cuts : (w : Waiting) (taken : List Taken) (listens : ℕ → Bool) (waits : ℕ → List Chunk) (h : SlotHolds w taken listens waits) (p : RingPosition) → IsOldest (end_of w.chunks) w.parts p → IsCut h.kept p
oldest_cuts w taken listens waits h p o = elim o.first [
  | inl e ↦ subst (λ (xs : List Taken). IsCut xs p) (append-nil h.kept) (cut_at h.kept [] p (e ∙ (ap end_of h.chunks ∙ end_is h.kept)))
  | inr r ↦ let q = h.parts r.0 r.1 r.2 in subst (λ (xs : List Taken). IsCut xs p) (sym q.whole) (cut_at q.before (q.part ++ q.behind) p (r.4 ∙ q.from))
]

-- all that waits stands behind it
pub early : (w : Waiting) (taken : List Taken) (listens : ℕ → Bool) (waits : ℕ → List Chunk) (h : SlotHolds w taken listens waits) (p : RingPosition) → IsOldest (end_of w.chunks) w.parts p → (j : ℕ) (r : Part) (g : slice_get w.parts j ≡ Some r)
    → ((h.parts j r g).part ≡ []) ⊎ (p.chunks ≤ length (h.parts j r g).before)
early w taken listens waits h p o j r g =
    let q = h.parts j r g in
    let from : r.from.chunks ≡ length q.before = ap (λ (x : RingPosition). x.chunks) q.from in
    let end : (part_end (end_of w.chunks) r).chunks ≡ length (q.before ++ q.part) = ap (λ (c : Chunks). (part_end (end_of c) r).chunks) h.chunks ∙ ap (λ (x : RingPosition). x.chunks) (part_end_is j (listens j) (waits j) h.kept r q) in
    go q.part (λ l. let least = o.least j r g (omega (arith, from, end, l, length-append q.before q.part)) in omega (arith, least, from))
  where
    go : {P : Type 0} (part : List Taken) → (0 < length part → P) → (part ≡ []) ⊎ P
    go [] f = inl refl
    go (x ∷ xs) f = inr (f (omega arith))

pub oldest_place : (w : Waiting) (taken : List Taken) (listens : ℕ → Bool) (waits : ℕ → List Chunk) → SlotHolds w taken listens waits → (p : RingPosition) → IsOldest (end_of w.chunks) w.parts p → IsPlace w.chunks p
oldest_place w taken listens waits h p o =
    let c = oldest_cuts w taken listens waits h p o in
    subst (λ (x : Chunks). IsPlace x p) (sym h.chunks)
    (subst (λ (xs : List Taken). IsPlace (kept_of xs) p) (take-append-drop p.chunks h.kept)
    (subst (λ (x : RingPosition). IsPlace (kept_of (take p.chunks h.kept ++ drop p.chunks h.kept)) x) (sym c.place) (is_place (take p.chunks h.kept) (drop p.chunks h.kept))))

kept_behind : (xs ys : List Taken) → given_up (place_of xs) (kept_of (xs ++ ys)) ≡ kept_of ys
kept_behind xs ys =
    same_chunks (given_up (place_of xs) (kept_of (xs ++ ys))) (kept_of ys)
    (ap (λ (l : List ℕ). drop (octets (chunks_taken xs)) l) (joined_taken xs ys) ∙ (ap (λ (n : ℕ). drop n (joined (chunks_taken xs) ++ joined (chunks_taken ys))) (sym (joined_size (chunks_taken xs))) ∙ drop-append_seam (joined (chunks_taken xs)) (joined (chunks_taken ys))))
    (drop-map (λ (x : Taken). length x.chunk.text) (length xs) (xs ++ ys) ∙ ap lengths_of (drop-append_seam xs ys))

pub gave_up : (w : Waiting) (taken : List Taken) (listens : ℕ → Bool) (waits : ℕ → List Chunk) → SlotHolds w taken listens waits → (p : RingPosition) → IsOldest (end_of w.chunks) w.parts p → SlotHolds (without p w) taken listens waits
gave_up w taken listens waits h p o =
    let c = oldest_cuts w taken listens waits h p o in
    let n = p.chunks in
    let halves : take n h.kept ++ drop n h.kept ≡ h.kept = take-append-drop n h.kept in
    record {
      gone = h.gone ++ take n h.kept;
      kept = drop n h.kept;
      all = h.all ∙ (ap (λ (xs : List Taken). h.gone ++ xs) (sym halves) ∙ sym (append_assoc h.gone (take n h.kept) (drop n h.kept)));
      chunks = ap (given_up p) h.chunks ∙ (ap (λ (x : RingPosition). given_up x (kept_of h.kept)) c.place
          ∙ (ap (λ (xs : List Taken). given_up (place_of (take n h.kept)) (kept_of xs)) (sym halves) ∙ kept_behind (take n h.kept) (drop n h.kept)));
      parts = λ j r g.
          let m = get_map (part_after p) w.parts j r g in
          let q = h.parts j m.0 m.1 in
          let new = part_rebased j (listens j) (waits j) h.kept m.0 q n (early w taken listens waits h p o j m.0 m.1) in
          subst (λ (x : Part). IsPart j (listens j) (waits j) (drop n h.kept) x) (ap (λ (x : RingPosition). part_after x m.0) (sym c.place) ∙ sym m.2) new;
    }

-- the oldest are given up, and a chunk comes behind the others
pub added_where_full : (w : Waiting) (taken : List Taken) (listens : ℕ → Bool) (waits : ℕ → List Chunk) → SlotHolds w taken listens waits → (p : RingPosition) → IsOldest (end_of w.chunks) w.parts p → (c : Chunk) (text : List ℕ) → c.text ≡ text
    → (chunks : Chunks) (parts : List Part) → chunks ≡ pushed text (given_up p w.chunks) → parts ≡ map (part_after p) w.parts
    → SlotHolds (record { chunks = chunks; parts = parts }) (taken ++ record { chunk = c; given = listens } ∷ []) listens (λ j. if listens j then waits j ++ c ∷ [] else waits j)
added_where_full w taken listens waits h p o c text e chunks parts f g =
    subst (λ (x : Chunks). SlotHolds (record { chunks = x; parts = parts }) (taken ++ record { chunk = c; given = listens } ∷ []) listens (λ j. if listens j then waits j ++ c ∷ [] else waits j)) (sym f)
    (subst (λ (xs : List Part). SlotHolds (record { chunks = pushed text (given_up p w.chunks); parts = xs }) (taken ++ record { chunk = c; given = listens } ∷ []) listens (λ j. if listens j then waits j ++ c ∷ [] else waits j)) (sym g)
    (added (without p w) taken listens waits (gave_up w taken listens waits h p o) c text e))

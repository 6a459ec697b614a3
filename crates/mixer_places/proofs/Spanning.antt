-- The span of a source, where its lane holds what the table says.
use Rattle.std.proofs.Common.{◌≡◌, ℕ, suc, ◌+◌, ◌-◌, ◌<◌, ◌≤◌, ◌⊎◌, inl, inr, Bool, true, false, Some, List, [], ◌∷◌, ◌++◌, length, length-append, take, drop, append_assoc, refl, ap, sym, ◌∙◌, arith}
use Rattle.std.specs.Prelude.{slice_get, nat_le, nat_lt, ◌&&◌, if◌then◌else◌}
use Rattle.std.proofs.lemmas.Bool.{le-leb, lt-leb}
use Rattle.std.proofs.lemmas.List.{length-drop, length-map, take-append-drop, drop_all}
use Rattle.stream_spec.specs.Ready.{Chunk}
use Rattle.mixer_spec.specs.Rounds.{any_below}
use Rattle.mixer_spec.specs.Setups.{Setup}
use Rattle.mixer_spec.specs.Chunks.{octets}
use Rattle.mixer_spec.specs.Table.{Taken, Table, chunks_taken, shared, count_given, still_waits, span_of, span_with, is_fit, is_given}
use Rattle.mixer_spec.specs.Laws.{AllGiven}
use Rattle.mixer_places.specs.declared.rings.RingPosition.{RingPosition}
use Rattle.mixer_places.specs.declared.parts.Part.{Part}
use Rattle.mixer_places.specs.Rings.{Chunks, end_of}
use Rattle.mixer_places.specs.Lanes.{Waiting, Waits, IsOldest, part_end}
use Rattle.mixer_places.specs.SlotStanding.{SourceStands}
use Rattle.mixer_places.proofs.Lists.{drop-append}
use Rattle.mixer_places.proofs.Sizes.{octets_taken, joined_size, end_is}
use Rattle.mixer_places.proofs.Holding.{part_end_is}
use Rattle.mixer_places.proofs.Rebasing.{oldest_cuts, early}
use Rattle.std.proofs.Math.Seq.{drop-append_seam}
use Rattle.std.proofs.lemmas.Option.{slice_get_within}
use Rattle.mixer_spec.specs.declared.limits.TheConstants.{MOST_SPAN_CHUNKS, MOST_SPAN_OCTETS}
use Rattle.mixer_spec.proofs.Plain.{octets_append}
use Rattle.mixer_spec.proofs.Growth.{any_at as any_yes}
use Rattle.mixer_spec.proofs.Finish.{none_below as any_no}
use Rattle.stream_spec.proofs.Plain.{get_at as get_within}

count_more : (j : ℕ) (xs ys : List Taken) → count_given j ys ≤ count_given j (xs ++ ys)
count_more j [] ys = omega arith
count_more j (x ∷ xs) ys = omega (arith, count_more j xs ys, length-append (if x.given j then x.chunk ∷ [] else []) (shared j (xs ++ ys)))

count_all : (j : ℕ) (xs ys : List Taken) → AllGiven true j xs → AllGiven false j ys → count_given j (xs ++ ys) ≡ length xs
count_all j [] [] a b = refl
count_all j [] (y ∷ ys) a b = ap (λ (g : Bool). length ((if g then y.chunk ∷ [] else []) ++ shared j ys)) b.0 ∙ count_all j [] ys tt b.1
count_all j (x ∷ xs) ys a b = ap (λ (g : Bool). length ((if g then x.chunk ∷ [] else []) ++ shared j (xs ++ ys))) a.0 ∙ ap suc (count_all j xs ys a.1 b)

-- what stands before these is not in the span, where how much waits at each terminal is found in these
skips : (s : Setup) (i : ℕ) (table : Table) (xs ys : List Taken) → ((j : ℕ) → j < s.legs → length ((table.terminals j).waits i) ≤ count_given j ys) → span_of s i table (xs ++ ys) ≡ span_of s i table ys
skips s i table [] ys h = refl
skips s i table (x ∷ xs) ys h =
    ap (λ (b : Bool). if b then x ∷ (xs ++ ys) else span_of s i table (xs ++ ys)) (any_no (still_waits i table x (xs ++ ys)) s.legs none) ∙ skips s i table xs ys h
  where
    none : (j : ℕ) → j < s.legs → still_waits i table x (xs ++ ys) j ≡ false
    none j l = by (x.given j)
      where
        by : (b : Bool) → (b && nat_le (length ((if b then x.chunk ∷ [] else []) ++ shared j (xs ++ ys))) (length ((table.terminals j).waits i))) ≡ false
        by false = refl
        by true = lt-leb (suc (count_given j (xs ++ ys))) (length ((table.terminals j).waits i)) (omega (arith, h j l, count_more j xs ys))

-- the oldest chunk still waits
waits_first : (s : Setup) (i : ℕ) (table : Table) (x : Taken) (xs : List Taken) (j : ℕ) → j < s.legs → x.given j ≡ true → count_given j (x ∷ xs) ≤ length ((table.terminals j).waits i) → span_of s i table (x ∷ xs) ≡ x ∷ xs
waits_first s i table x xs j l g c =
    ap (λ (b : Bool). if b then x ∷ xs else span_of s i table xs) (any_yes (still_waits i table x xs) s.legs j l
    (ap (λ b. b && nat_le (count_given j (x ∷ xs)) (length ((table.terminals j).waits i))) g ∙ le-leb (count_given j (x ∷ xs)) (length ((table.terminals j).waits i)) c))

-- behind the first n there is the part and what is behind it, or the part is empty
part_behind : (n : ℕ) (before part behind : List Taken) → (part ≡ []) ⊎ (n ≤ length before) → (front : List Taken) × ((part ≡ []) ⊎ (drop n (before ++ (part ++ behind)) ≡ front ++ (part ++ behind)))
part_behind n before part behind (inl e) = ([], inl e)
part_behind n before part behind (inr l) = (drop n before, inr (drop-append n before (part ++ behind) ∙ ap (λ (xs : List Taken). drop n before ++ xs) (let z : n - length before ≡ 0 = omega arith in ap (λ (k : ℕ). drop k (part ++ behind)) z)))

oldest_waits : (s : Setup) (i : ℕ) (table : Table) (j : ℕ) (part behind : List Taken) → j < s.legs → 0 < length part → AllGiven true j part → AllGiven false j behind → length ((table.terminals j).waits i) ≡ length part
    → span_of s i table (part ++ behind) ≡ part ++ behind
oldest_waits s i table j [] behind l n a b e = absurd (omega arith)
oldest_waits s i table j (x ∷ xs) behind l n a b e = waits_first s i table x (xs ++ behind) j l a.0 (omega (arith, e, count_all j (x ∷ xs) behind a b))

size_is : (s : Setup) (i : ℕ) (w : Waiting) (table : Table) (h : SourceStands s i w table) (j : ℕ) (r : Part) (g : slice_get w.parts j ≡ Some r) → length ((table.terminals j).waits i) ≡ length (h.holds.parts j r g).part
size_is s i w table h j r g = let q = h.holds.parts j r g in ap (λ (cs : List Chunk). length cs) (sym q.waits) ∙ length-map q.part (λ (x : Taken). x.chunk)

behind_oldest : (s : Setup) (i : ℕ) (w : Waiting) (table : Table) (h : SourceStands s i w table) (n : ℕ) (j : ℕ) (r : Part) (g : slice_get w.parts j ≡ Some r)
    → ((h.holds.parts j r g).part ≡ []) ⊎ (n ≤ length (h.holds.parts j r g).before) → length ((table.terminals j).waits i) ≤ count_given j (drop n h.holds.kept)
behind_oldest s i w table h n j r g e =
    let q = h.holds.parts j r g in
    let size = size_is s i w table h j r g in
    let f = part_behind n q.before q.part q.behind e in
    elim f.1 [
      | inl none ↦ omega (arith, size, ap (λ (xs : List Taken). length xs) none)
      | inr e ↦
          let at : drop n h.holds.kept ≡ f.0 ++ (q.part ++ q.behind) = ap (λ (xs : List Taken). drop n xs) q.whole ∙ e in
          omega (arith, size, ap (λ (xs : List Taken). count_given j xs) at, count_more j f.0 (q.part ++ q.behind), count_all j q.part q.behind q.all_given q.none_behind)
    ]

-- nothing that was given up, and nothing before the oldest, is in the span
span_behind : (s : Setup) (i : ℕ) (w : Waiting) (table : Table) (h : SourceStands s i w table) (n : ℕ)
    → ((j : ℕ) (r : Part) (g : slice_get w.parts j ≡ Some r) → ((h.holds.parts j r g).part ≡ []) ⊎ (n ≤ length (h.holds.parts j r g).before)) → span_of s i table (table.taken i) ≡ span_of s i table (drop n h.holds.kept)
span_behind s i w table h n e =
    let k = h.holds in
    ap (λ (xs : List Taken). span_of s i table xs) (k.all ∙ (ap (λ (xs : List Taken). k.gone ++ xs) (sym (take-append-drop n k.kept)) ∙ sym (append_assoc k.gone (take n k.kept) (drop n k.kept))))
    ∙ skips s i table (k.gone ++ take n k.kept) (drop n k.kept) (λ j l. let r = get_within w.parts j (omega (arith, l, h.terminals)) in behind_oldest s i w table h n j r.0 r.1 (e j r.0 r.1))

span_first : (s : Setup) (i : ℕ) (w : Waiting) (table : Table) (h : SourceStands s i w table) (n : ℕ) (j : ℕ) (r : Part) (g : slice_get w.parts j ≡ Some r) → Waits (end_of w.chunks) r → n ≡ r.from.chunks
    → span_of s i table (drop n h.holds.kept) ≡ drop n h.holds.kept
span_first s i w table h n j r g u e =
    let k = h.holds in
    let q = k.parts j r g in
    let from : r.from.chunks ≡ length q.before = ap (λ (x : RingPosition). x.chunks) q.from in
    let end : (part_end (end_of w.chunks) r).chunks ≡ length (q.before ++ q.part) =
    ap (λ (c : Chunks). (part_end (end_of c) r).chunks) k.chunks ∙ ap (λ (x : RingPosition). x.chunks) (part_end_is j (is_given table.seats i j) ((table.terminals j).waits i) k.kept r q) in
    let some : 0 < length q.part = omega (arith, u, from, end, length-append q.before q.part) in
    let at : drop n k.kept ≡ q.part ++ q.behind = ap (λ (xs : List Taken). drop n xs) q.whole ∙ (ap (λ (m : ℕ). drop m (q.before ++ (q.part ++ q.behind))) (e ∙ from) ∙ drop-append_seam q.before (q.part ++ q.behind)) in
    let l : j < s.legs = omega (arith, slice_get_within w.parts j r g, h.terminals) in
    ap (λ (xs : List Taken). span_of s i table xs) at ∙ (oldest_waits s i table j q.part q.behind l some q.all_given q.none_behind (size_is s i w table h j r g) ∙ sym at)

span_end : (s : Setup) (i : ℕ) (table : Table) (n : ℕ) (xs : List Taken) → length xs ≤ n → span_of s i table (drop n xs) ≡ drop n xs
span_end s i table n xs l = let none : drop n xs ≡ [] = drop_all n xs l in ap (λ (ys : List Taken). span_of s i table ys) none ∙ sym none

pub span_is : (s : Setup) (i : ℕ) (w : Waiting) (table : Table) (h : SourceStands s i w table) (p : RingPosition) → IsOldest (end_of w.chunks) w.parts p → span_of s i table (table.taken i) ≡ drop p.chunks h.holds.kept
span_is s i w table h p o =
    span_behind s i w table h p.chunks (early w (table.taken i) (is_given table.seats i) (λ j. (table.terminals j).waits i) h.holds p o)
    ∙ elim o.first [
      | inl e ↦ span_end s i table p.chunks h.holds.kept (let n : p.chunks ≡ length h.holds.kept = ap (λ (x : RingPosition). x.chunks) (e ∙ (ap end_of h.holds.chunks ∙ end_is h.holds.kept)) in omega arith)
      | inr r ↦ span_first s i w table h p.chunks r.0 r.1 r.2 r.3 (ap (λ (x : RingPosition). x.chunks) r.4)
    ]

-- ---- room
with_octets : (xs : List Taken) (c : Chunk) → octets (chunks_taken xs ++ c ∷ []) ≡ octets (chunks_taken xs) + length c.text
with_octets xs c = omega (arith, octets_append (chunks_taken xs) (c ∷ []))

with_length : (xs : List Taken) (c : Chunk) → length (chunks_taken xs ++ c ∷ []) ≡ suc (length xs)
with_length xs c = omega (arith, length-append (chunks_taken xs) (c ∷ []), length-map xs (λ (x : Taken). x.chunk))

lt_is : (m n : ℕ) → nat_lt m n ≡ nat_le (suc m) n
lt_is m n = refl

same_test : (a b m n : ℕ) → a ≡ b → suc m ≡ n → (nat_le a MOST_SPAN_OCTETS && nat_lt m MOST_SPAN_CHUNKS) ≡ (nat_le b MOST_SPAN_OCTETS && nat_le n MOST_SPAN_CHUNKS)
same_test a b m n e f = ap (λ (k : ℕ). nat_le k MOST_SPAN_OCTETS && nat_lt m MOST_SPAN_CHUNKS) e ∙ (ap (λ (t : Bool). nat_le b MOST_SPAN_OCTETS && t) (lt_is m MOST_SPAN_CHUNKS) ∙ ap (λ (k : ℕ). nat_le b MOST_SPAN_OCTETS && nat_le k MOST_SPAN_CHUNKS) f)

pub room_is : (s : Setup) (i : ℕ) (w : Waiting) (table : Table) → SourceStands s i w table → (p : RingPosition) → IsOldest (end_of w.chunks) w.parts p → (c : Chunk) (n : ℕ) → length c.text ≡ n
    → (nat_le (length w.chunks.octets - p.octets + n) MOST_SPAN_OCTETS && nat_lt (length w.chunks.lengths - p.chunks) MOST_SPAN_CHUNKS) ≡ is_fit (span_with s i c table)
room_is s i w table h p o c n e =
    let k = h.holds in
    let cut = oldest_cuts w (table.taken i) (is_given table.seats i) (λ j. (table.terminals j).waits i) k p o in
    let a = take p.chunks k.kept in
    let b = drop p.chunks k.kept in
    let size : length w.chunks.octets ≡ octets (chunks_taken a) + octets (chunks_taken b) =
    ap (λ (x : Chunks). length x.octets) k.chunks ∙ (joined_size (chunks_taken k.kept) ∙ (ap (λ (xs : List Taken). octets (chunks_taken xs)) (sym (take-append-drop p.chunks k.kept)) ∙ octets_taken a b)) in
    let count : length w.chunks.lengths ≡ length k.kept = ap (λ (x : Chunks). length x.lengths) k.chunks ∙ length-map k.kept (λ (x : Taken). length x.chunk.text) in
    let gone : p.octets ≡ octets (chunks_taken a) = ap (λ (x : RingPosition). x.octets) cut.place in
    same_test (length w.chunks.octets - p.octets + n) (octets (chunks_taken b ++ c ∷ [])) (length w.chunks.lengths - p.chunks) (length (chunks_taken b ++ c ∷ []))
    (omega (arith, size, gone, e, with_octets b c))
    (omega (arith, count, with_length b c, length-drop p.chunks k.kept))
    ∙ ap (λ (xs : List Taken). is_fit (chunks_taken xs ++ c ∷ [])) (sym (span_is s i w table h p o))

span_small : (s : Setup) (i : ℕ) (table : Table) (xs : List Taken) → (octets (chunks_taken (span_of s i table xs)) ≤ octets (chunks_taken xs)) × (length (span_of s i table xs) ≤ length xs)
span_small s i table [] = (omega arith, omega arith)
span_small s i table (x ∷ xs) = go (any_below (still_waits i table x xs) s.legs) (span_small s i table xs)
  where
    go : (b : Bool) → (octets (chunks_taken (span_of s i table xs)) ≤ octets (chunks_taken xs)) × (length (span_of s i table xs) ≤ length xs)
        → (octets (chunks_taken (if b then x ∷ xs else span_of s i table xs)) ≤ octets (chunks_taken (x ∷ xs))) × (length (if b then x ∷ xs else span_of s i table xs) ≤ length (x ∷ xs))
    go true h = (omega arith, omega arith)
    go false h = (omega arith, omega arith)

both : (a b : ℕ) → a ≤ MOST_SPAN_OCTETS → b ≤ MOST_SPAN_CHUNKS → (nat_le a MOST_SPAN_OCTETS && nat_le b MOST_SPAN_CHUNKS) ≡ true
both a b l m = ap (λ (t : Bool). t && nat_le b MOST_SPAN_CHUNKS) (le-leb a MOST_SPAN_OCTETS l) ∙ le-leb b MOST_SPAN_CHUNKS m

-- where all that is kept fits with the chunk, the span does
pub room_enough : (s : Setup) (i : ℕ) (w : Waiting) (table : Table) → SourceStands s i w table → (c : Chunk) → length w.chunks.octets + length c.text ≤ MOST_SPAN_OCTETS → length w.chunks.lengths < MOST_SPAN_CHUNKS → is_fit (span_with s i c table) ≡ true
room_enough s i w table h c l m =
    let k = h.holds in
    let span = span_of s i table (table.taken i) in
    let is : span_of s i table (table.taken i) ≡ span_of s i table k.kept = span_behind s i w table h 0 (λ j r g. inr (omega arith)) in
    let small = span_small s i table k.kept in
    let size : length w.chunks.octets ≡ octets (chunks_taken k.kept) = ap (λ (x : Chunks). length x.octets) k.chunks ∙ joined_size (chunks_taken k.kept) in
    let count : length w.chunks.lengths ≡ length k.kept = ap (λ (x : Chunks). length x.lengths) k.chunks ∙ length-map k.kept (λ (x : Taken). length x.chunk.text) in
    ap (λ (xs : List Taken). is_fit (chunks_taken xs ++ c ∷ [])) is
    ∙ both (octets (chunks_taken (span_of s i table k.kept) ++ c ∷ [])) (length (chunks_taken (span_of s i table k.kept) ++ c ∷ []))
    (omega (arith, small.0, size, l, with_octets (span_of s i table k.kept) c))
    (omega (arith, small.1, count, m, with_length (span_of s i table k.kept) c))

-- A terminal takes what fits.
use Rattle.std.proofs.Common.{◌≡◌, ℕ, ◌+◌, ◌-◌, ◌≤◌, Bool, true, Option, Some, None, List, [], ◌∷◌, ◌++◌, length, length-append, take, drop, set, append_assoc, refl, ap, subst, sym, ◌∙◌, arith}
use Rattle.std.specs.Prelude.{slice_get, sum, if◌then◌else◌}
use Rattle.std.proofs.lemmas.List.{take-append-drop, length-take-le, length-map, take_all}
use Rattle.stream_spec.specs.Ready.{Chunk}
use Rattle.mixer_spec.specs.Rounds.{set_at}
use Rattle.mixer_spec.proofs.Lists.{set_same, set_other}
use Rattle.mixer_spec.specs.Chunks.{joined, octets, front, behind}
use Rattle.mixer_spec.specs.Table.{Taken, chunks_taken}
use Rattle.mixer_spec.specs.Laws.{AllGiven}
use Rattle.mixer_places.specs.declared.rings.RingPosition.{RingPosition}
use Rattle.mixer_places.specs.declared.parts.Part.{Part}
use Rattle.mixer_places.specs.Rings.{Chunks, end_of, chunks_between, count_fitting}
use Rattle.mixer_places.specs.Lanes.{Waiting, part_end}
use Rattle.mixer_places.specs.SlotStanding.{kept_of, place_of, IsPart, SlotHolds}
use Rattle.mixer_places.proofs.Sizes.{lengths_of, same_place, octets_taken, lengths_between, octets_between, few_fit, front_is, behind_is, sum_lengths}
use Rattle.mixer_places.proofs.Holding.{part_end_is, part_same, holds_set}

-- the place to which a terminal takes what fits
pub record IsFront (c : Chunks) (p : Part) (room : ℕ) (place : RingPosition) : Type 0 where
  pub chunks : place.chunks ≡ p.from.chunks + count_fitting room (chunks_between c p.from.chunks (part_end (end_of c) p).chunks)
  pub octets : place.octets ≡ p.from.octets + sum (chunks_between c p.from.chunks place.chunks)

pub front_read : (c : Chunks) (p : Part) (room : ℕ) (end place : RingPosition) → end ≡ part_end (end_of c) p → place.chunks ≡ p.from.chunks + count_fitting room (chunks_between c p.from.chunks end.chunks)
    → place.octets ≡ p.from.octets + sum (chunks_between c p.from.chunks place.chunks) → IsFront c p room place
front_read c p room end place is chunks octets = record { chunks = chunks ∙ ap (λ (e : RingPosition). p.from.chunks + count_fitting room (chunks_between c p.from.chunks e.chunks)) is; octets = octets }

-- the given of each
pub given_parts : (b : Bool) (j : ℕ) (xs ys : List Taken) → AllGiven b j (xs ++ ys) → AllGiven b j xs × AllGiven b j ys
given_parts b j [] ys h = (tt, h)
given_parts b j (x ∷ xs) ys h = let r = given_parts b j xs ys h.1 in ((h.0, r.0), r.1)

pub record Fetches (j : ℕ) (l : Bool) (ws : List Chunk) (kept : List Taken) (p : Part) (room : ℕ) (place : RingPosition) : Type 0 where
  pub text : take (place.octets - p.from.octets) (drop p.from.octets (kept_of kept).octets) ≡ joined (front room ws)
  pub part : IsPart j l (behind room ws) kept (record { from = place; to = p.to })
  pub within : place.octets ≤ (part_end (end_of (kept_of kept)) p).octets

pub fetches : (j : ℕ) (l : Bool) (ws : List Chunk) (kept : List Taken) (p : Part) (room : ℕ) (place : RingPosition) → IsPart j l ws kept p → IsFront (kept_of kept) p room place → Fetches j l ws kept p room place
fetches j l ws kept p room place h f =
    let n = count_fitting room (lengths_of h.part) in
    let few : n ≤ length h.part = omega (arith, few_fit room (lengths_of h.part), length-map h.part (λ (x : Taken). length x.chunk.text)) in
    let a = take n h.part in
    let b = drop n h.part in
    let parts : a ++ b ≡ h.part = take-append-drop n h.part in
    let split : kept ≡ h.before ++ (a ++ (b ++ h.behind)) = h.whole ∙ ap (λ (xs : List Taken). h.before ++ xs) (ap (λ (xs : List Taken). xs ++ h.behind) (sym parts) ∙ append_assoc a b h.behind) in
    let from_is : p.from ≡ place_of h.before = h.from in
    let end : part_end (end_of (kept_of kept)) p ≡ place_of (h.before ++ h.part) = part_end_is j l ws kept p h in
    let between : chunks_between (kept_of kept) p.from.chunks (part_end (end_of (kept_of kept)) p).chunks ≡ lengths_of h.part =
    ap (λ (x : RingPosition). chunks_between (kept_of kept) x.chunks (part_end (end_of (kept_of kept)) p).chunks) from_is
    ∙ (ap (λ (x : RingPosition). chunks_between (kept_of kept) (length h.before) x.chunks) end
    ∙ (ap (λ (m : ℕ). chunks_between (kept_of kept) (length h.before) m) (length-append h.before h.part)
    ∙ (ap (λ (xs : List Taken). chunks_between (kept_of xs) (length h.before) (length h.before + length h.part)) h.whole
    ∙ (lengths_between h.before h.part h.behind (length h.part) (omega arith) ∙ ap lengths_of (take_all (length h.part) h.part (omega arith)))))) in
    let count : place.chunks ≡ length h.before + n =
    f.chunks ∙ (ap (λ (x : RingPosition). x.chunks + count_fitting room (chunks_between (kept_of kept) p.from.chunks (part_end (end_of (kept_of kept)) p).chunks)) from_is ∙ ap (λ (ns : List ℕ). length h.before + count_fitting room ns) between) in
    let front_lengths : chunks_between (kept_of kept) p.from.chunks place.chunks ≡ lengths_of a =
    ap (λ (x : RingPosition). chunks_between (kept_of kept) x.chunks place.chunks) from_is
    ∙ (ap (λ (m : ℕ). chunks_between (kept_of kept) (length h.before) m) count
    ∙ (ap (λ (xs : List Taken). chunks_between (kept_of xs) (length h.before) (length h.before + n)) h.whole ∙ lengths_between h.before h.part h.behind n few)) in
    let front_octets : place.octets ≡ octets (chunks_taken h.before) + octets (chunks_taken a) =
    f.octets ∙ (ap (λ (x : RingPosition). x.octets + sum (chunks_between (kept_of kept) p.from.chunks place.chunks)) from_is
    ∙ ap (λ (m : ℕ). octets (chunks_taken h.before) + m) (ap sum front_lengths ∙ sum_lengths a)) in
    let place_is : place ≡ place_of (h.before ++ a) =
    same_place place (place_of (h.before ++ a)) (omega (arith, count, length-append h.before a, length-take-le n h.part few)) (front_octets ∙ sym (octets_taken h.before a)) in
    let shift : place.octets - p.from.octets ≡ octets (chunks_taken a) = omega (arith, front_octets, ap (λ (x : RingPosition). x.octets) from_is) in
    let given = given_parts true j a b (subst (λ (xs : List Taken). AllGiven true j xs) (sym parts) h.all_given) in
    let again : (h.before ++ a) ++ b ≡ h.before ++ h.part = append_assoc h.before a b ∙ ap (λ (xs : List Taken). h.before ++ xs) parts in
    record {
      text = ap (λ (m : ℕ). take m (drop p.from.octets (joined (chunks_taken kept)))) shift
          ∙ (ap (λ (x : RingPosition). take (octets (chunks_taken a)) (drop x.octets (joined (chunks_taken kept)))) from_is
          ∙ (ap (λ (xs : List Taken). take (octets (chunks_taken a)) (drop (octets (chunks_taken h.before)) (joined (chunks_taken xs)))) split
          ∙ (octets_between h.before a (b ++ h.behind) ∙ ap joined (sym (front_is room h.part) ∙ ap (front room) h.waits))));
      part = record {
        before = h.before ++ a;
        part = b;
        behind = h.behind;
        whole = split ∙ sym (append_assoc h.before a (b ++ h.behind));
        waits = sym (behind_is room h.part) ∙ ap (behind room) h.waits;
        all_given = given.1;
        none_behind = h.none_behind;
        from = place_is;
        to = h.to ∙ ends l (h.before ++ h.part) ((h.before ++ a) ++ b) (sym again);
        goes_on = h.goes_on;
      };
      within = omega (arith, front_octets, ap (λ (x : RingPosition). x.octets) end, octets_taken h.before h.part, octets_taken a b, ap (λ (xs : List Taken). octets (chunks_taken xs)) parts);
    }
  where
    ends : (m : Bool) (xs ys : List Taken) → xs ≡ ys → (if m then None else Some (place_of xs)) ≡ (if m then None else Some (place_of ys))
    ends m xs ys e = ap (λ (zs : List Taken). if m then None else Some (place_of zs)) e

pub taken_front : (w : Waiting) (taken : List Taken) (listens : ℕ → Bool) (waits : ℕ → List Chunk) → SlotHolds w taken listens waits → (j : ℕ) (p : Part) → slice_get w.parts j ≡ Some p → (room : ℕ) (place : RingPosition) → IsFront w.chunks p room place
    → SlotHolds (record { chunks = w.chunks; parts = set w.parts j (record { from = place; to = p.to }) }) taken listens (set_at waits j (behind room (waits j)))
taken_front w taken listens waits h j p g room place f =
    let q = fetches j (listens j) (waits j) h.kept p room place (h.parts j p g) (subst (λ (c : Chunks). IsFront c p room place) h.chunks f) in
    holds_set w taken listens listens waits (set_at waits j (behind room (waits j))) h j (record { from = place; to = p.to })
    (part_same j (listens j) (listens j) (behind room (waits j)) (set_at waits j (behind room (waits j)) j) h.kept (record { from = place; to = p.to }) refl (set_same waits j (behind room (waits j)) j refl) q.part)
    (λ k n. (refl, set_other waits j (behind room (waits j)) k n))

pub text_front : (w : Waiting) (taken : List Taken) (listens : ℕ → Bool) (waits : ℕ → List Chunk) → SlotHolds w taken listens waits → (j : ℕ) (p : Part) → slice_get w.parts j ≡ Some p → (room : ℕ) (place : RingPosition) → IsFront w.chunks p room place
    → take (place.octets - p.from.octets) (drop p.from.octets w.chunks.octets) ≡ joined (front room (waits j))
text_front w taken listens waits h j p g room place f =
    let q = fetches j (listens j) (waits j) h.kept p room place (h.parts j p g) (subst (λ (c : Chunks). IsFront c p room place) h.chunks f) in
    ap (λ (c : Chunks). take (place.octets - p.from.octets) (drop p.from.octets c.octets)) h.chunks ∙ q.text

pub front_within : (w : Waiting) (taken : List Taken) (listens : ℕ → Bool) (waits : ℕ → List Chunk) → SlotHolds w taken listens waits → (j : ℕ) (p : Part) → slice_get w.parts j ≡ Some p → (room : ℕ) (place : RingPosition) → IsFront w.chunks p room place
    → place.octets ≤ (part_end (end_of w.chunks) p).octets
front_within w taken listens waits h j p g room place f =
    let q = fetches j (listens j) (waits j) h.kept p room place (h.parts j p g) (subst (λ (c : Chunks). IsFront c p room place) h.chunks f) in
    omega (arith, q.within, ap (λ (c : Chunks). (part_end (end_of c) p).octets) h.chunks)

same_some : {X : Type 0} (x y : X) (o : Option X) → o ≡ Some x → o ≡ Some y → x ≡ y
same_some x y o e f = cc (e, f)

pub took_front : (w : Waiting) (taken : List Taken) (listens : ℕ → Bool) (waits : ℕ → List Chunk) → SlotHolds w taken listens waits → (j : ℕ) (p q : Part) → slice_get w.parts j ≡ Some p → slice_get w.parts j ≡ Some q → (room : ℕ) (place : RingPosition) → IsFront w.chunks p room place
    → SlotHolds (record { chunks = w.chunks; parts = set w.parts j (record { from = place; to = q.to }) }) taken listens (set_at waits j (behind room (waits j)))
took_front w taken listens waits h j p q g k room place f =
    subst (λ (x : Part). SlotHolds (record { chunks = w.chunks; parts = set w.parts j (record { from = place; to = x.to }) }) taken listens (set_at waits j (behind room (waits j))))
    (same_some p q (slice_get w.parts j) g k) (taken_front w taken listens waits h j p g room place f)

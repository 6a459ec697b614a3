-- What each call changes of what a lane holds.
use Rattle.std.proofs.Common.{◌≡◌, ℕ, ◌+◌, ◌-◌, ◌≤◌, Bool, true, false, inl, inr, Option, Some, List, [], ◌++◌, length, length-append, set, append-nil, append_assoc, refl, ap, subst, sym, ◌∙◌, arith, ◌<◌, get_or}
use Rattle.std.specs.Prelude.{slice_get, if◌then◌else◌, unwrap_or, nat_lt}
use Rattle.std.proofs.lemmas.Bool.{cases_eq, true≢false}
use Rattle.stream_spec.specs.Ready.{Chunk}
use Rattle.mixer_spec.specs.Rounds.{set_at}
use Rattle.mixer_spec.proofs.Lists.{set_same, set_other, get_set_other}
use Rattle.mixer_spec.specs.Chunks.{joined, octets, has_chunk}
use Rattle.mixer_spec.specs.Table.{Taken, chunks_taken}
use Rattle.mixer_places.specs.declared.rings.RingPosition.{RingPosition}
use Rattle.mixer_places.specs.declared.parts.Part.{Part}
use Rattle.mixer_places.specs.declared.lanes.SourceQueue.TheInside.{Inside}
use Rattle.mixer_places.specs.Rings.{Chunks, IsPlace, end_of}
use Rattle.mixer_places.specs.Lanes.{Waiting, part_end, part_heard}
use Rattle.mixer_places.specs.LaneInsides.{IsLane, waiting_in}
use Rattle.mixer_places.specs.SlotStanding.{kept_of, place_of, IsPart, SlotHolds}
use Rattle.mixer_places.proofs.Lists.{get_set_same}
use Rattle.mixer_places.proofs.Sizes.{joined_size, end_is, is_place, octets_taken, has_chunk_is}
use Rattle.stream_spec.proofs.Plain.{get_read}

-- ---- parts
pub part_same : (j : ℕ) (l m : Bool) (ws vs : List Chunk) (kept : List Taken) (p : Part) → m ≡ l → vs ≡ ws → IsPart j l ws kept p → IsPart j m vs kept p
part_same j l m ws vs kept p e f h =
    subst (λ (b : Bool). IsPart j b vs kept p) (sym e) (subst (λ (cs : List Chunk). IsPart j l cs kept p) (sym f) h)

-- where a part ends
pub part_end_is : (j : ℕ) (l : Bool) (ws : List Chunk) (kept : List Taken) (p : Part) (h : IsPart j l ws kept p) → part_end (end_of (kept_of kept)) p ≡ place_of (h.before ++ h.part)
part_end_is j true ws kept p h =
    let none : h.behind ≡ [] = h.goes_on refl in
    let all : kept ≡ h.before ++ h.part = h.whole ∙ ap (λ (ys : List Taken). h.before ++ ys) (ap (λ (ys : List Taken). h.part ++ ys) none ∙ append-nil h.part) in
    ap (λ (o : Option RingPosition). unwrap_or o (end_of (kept_of kept))) h.to ∙ (end_is kept ∙ ap place_of all)
part_end_is j false ws kept p h = ap (λ (o : Option RingPosition). unwrap_or o (end_of (kept_of kept))) h.to

-- the facts on places that the code rests on
pub record Bounds (chunks : Chunks) (p : Part) : Type 0 where
  pub from : IsPlace chunks p.from
  pub end : IsPlace chunks (part_end (end_of chunks) p)
  pub in_order : p.from.chunks ≤ (part_end (end_of chunks) p).chunks
  pub octets_in_order : p.from.octets ≤ (part_end (end_of chunks) p).octets
  pub within : (part_end (end_of chunks) p).octets ≤ length chunks.octets

pub bounds : (w : Waiting) (taken : List Taken) (listens : ℕ → Bool) (waits : ℕ → List Chunk) → SlotHolds w taken listens waits → (j : ℕ) (p : Part) → slice_get w.parts j ≡ Some p → Bounds w.chunks p
bounds w taken listens waits h j p g =
    let q = h.parts j p g in
    let k = kept_of h.kept in
    let e : part_end (end_of k) p ≡ place_of (q.before ++ q.part) = part_end_is j (listens j) (waits j) h.kept p q in
    let whole : (q.before ++ q.part) ++ q.behind ≡ h.kept = append_assoc q.before q.part q.behind ∙ sym q.whole in
    let size : length (joined (chunks_taken h.kept)) ≡ octets (chunks_taken (q.before ++ q.part)) + octets (chunks_taken q.behind) =
    joined_size (chunks_taken h.kept) ∙ (ap (λ (xs : List Taken). octets (chunks_taken xs)) (sym whole) ∙ octets_taken (q.before ++ q.part) q.behind) in
    subst (λ (c : Chunks). Bounds c p) (sym h.chunks) (record {
      from = subst (λ (xs : List Taken). IsPlace (kept_of xs) p.from) (sym q.whole) (subst (λ (x : RingPosition). IsPlace (kept_of (q.before ++ (q.part ++ q.behind))) x) (sym q.from) (is_place q.before (q.part ++ q.behind)));
      end = subst (λ (x : RingPosition). IsPlace k x) (sym e) (subst (λ (xs : List Taken). IsPlace (kept_of xs) (place_of (q.before ++ q.part))) whole (is_place (q.before ++ q.part) q.behind));
      in_order = omega (arith, ap (λ (x : RingPosition). x.chunks) q.from, ap (λ (x : RingPosition). x.chunks) e, length-append q.before q.part);
      octets_in_order = omega (arith, ap (λ (x : RingPosition). x.octets) q.from, ap (λ (x : RingPosition). x.octets) e, octets_taken q.before q.part);
      within = omega (arith, ap (λ (x : RingPosition). x.octets) e, size);
    })

-- ---- what waits
end_place : (w : Waiting) (taken : List Taken) (listens : ℕ → Bool) (waits : ℕ → List Chunk) (h : SlotHolds w taken listens waits) (j : ℕ) (p : Part) (g : slice_get w.parts j ≡ Some p)
    → part_end (end_of w.chunks) p ≡ place_of ((h.parts j p g).before ++ (h.parts j p g).part)
end_place w taken listens waits h j p g =
    ap (λ (c : Chunks). part_end (end_of c) p) h.chunks ∙ part_end_is j (listens j) (waits j) h.kept p (h.parts j p g)

pub waiting_is : (w : Waiting) (taken : List Taken) (listens : ℕ → Bool) (waits : ℕ → List Chunk) → SlotHolds w taken listens waits → (j : ℕ) (p : Part) → slice_get w.parts j ≡ Some p
    → (part_end (end_of w.chunks) p).octets - p.from.octets ≡ octets (waits j)
waiting_is w taken listens waits h j p g =
    let q = h.parts j p g in
    omega (arith, ap (λ (x : RingPosition). x.octets) (end_place w taken listens waits h j p g), ap (λ (x : RingPosition). x.octets) q.from, octets_taken q.before q.part, ap octets q.waits)

pub has_waiting_is : (w : Waiting) (taken : List Taken) (listens : ℕ → Bool) (waits : ℕ → List Chunk) → SlotHolds w taken listens waits → (j : ℕ) (p : Part) → slice_get w.parts j ≡ Some p
    → nat_lt p.from.chunks (part_end (end_of w.chunks) p).chunks ≡ has_chunk (waits j)
has_waiting_is w taken listens waits h j p g =
    let q = h.parts j p g in
    ap (λ (x : RingPosition). nat_lt p.from.chunks x.chunks) (end_place w taken listens waits h j p g)
    ∙ (ap (λ (x : RingPosition). nat_lt x.chunks (length (q.before ++ q.part))) q.from
    ∙ (ap (λ (n : ℕ). nat_lt (length q.before) n) (length-append q.before q.part)
    ∙ (has_chunk_is q.part (length q.before) ∙ ap has_chunk q.waits)))

-- ---- one part changes
pub holds_set : (w : Waiting) (taken : List Taken) (listens ms : ℕ → Bool) (waits vs : ℕ → List Chunk) (h : SlotHolds w taken listens waits) (j : ℕ) (q : Part)
    → IsPart j (ms j) (vs j) h.kept q → ((k : ℕ) → (k ≡ j → ⊥) → (ms k ≡ listens k) × (vs k ≡ waits k))
    → SlotHolds (record { chunks = w.chunks; parts = set w.parts j q }) taken ms vs
holds_set w taken listens ms waits vs h j q new same = record {
  gone = h.gone;
  kept = h.kept;
  all = h.all;
  chunks = h.chunks;
  parts = λ k p g. elim (cases_eq k j) [
    | inl e ↦
        let at : slice_get (set w.parts j q) j ≡ Some p = ap (λ (i : ℕ). slice_get (set w.parts j q) i) (sym e) ∙ g in
        subst (λ (i : ℕ). IsPart i (ms i) (vs i) h.kept p) (sym e) (subst (λ (x : Part). IsPart j (ms j) (vs j) h.kept x) (sym (get_set_same w.parts j q p at)) new)
    | inr n ↦ part_same k (listens k) (ms k) (waits k) (vs k) h.kept p (same k n).0 (same k n).1 (h.parts k p (sym (get_set_other w.parts j k q n) ∙ g))
  ];
}

part_listens : (j : ℕ) (l : Bool) (ws : List Chunk) (kept : List Taken) (p : Part) → IsPart j l ws kept p → (on : Bool) → IsPart j on (if on then [] else ws) kept (part_heard on (end_of (kept_of kept)) p)
part_listens j l ws kept p h true = record {
  before = kept;
  part = [];
  behind = [];
  whole = sym (append-nil kept);
  waits = refl;
  all_given = tt;
  none_behind = tt;
  from = end_is kept;
  to = refl;
  goes_on = λ e. refl;
}
part_listens j l ws kept p h false = record {
  before = h.before;
  part = h.part;
  behind = h.behind;
  whole = h.whole;
  waits = h.waits;
  all_given = h.all_given;
  none_behind = h.none_behind;
  from = h.from;
  to = ap Some (part_end_is j l ws kept p h);
  goes_on = λ e. absurd (true≢false (sym e));
}

pub listened : (w : Waiting) (taken : List Taken) (listens : ℕ → Bool) (waits : ℕ → List Chunk) → SlotHolds w taken listens waits → (j : ℕ) (p : Part) → slice_get w.parts j ≡ Some p → (on : Bool)
    → SlotHolds (record { chunks = w.chunks; parts = set w.parts j (part_heard on (end_of w.chunks) p) }) taken (set_at listens j on) (if on then set_at waits j [] else waits)
listened w taken listens waits h j p g on =
    holds_set w taken listens (set_at listens j on) waits (if on then set_at waits j [] else waits) h j (part_heard on (end_of w.chunks) p)
    (part_same j on (set_at listens j on j) (if on then [] else waits j) ((if on then set_at waits j [] else waits) j) h.kept (part_heard on (end_of w.chunks) p)
    (set_same listens j on j refl) (own on)
    (subst (λ (c : Chunks). IsPart j on (if on then [] else waits j) h.kept (part_heard on (end_of c) p)) (sym h.chunks) (part_listens j (listens j) (waits j) h.kept p (h.parts j p g) on)))
    (λ k n. (set_other listens j on k n, other on k n))
  where
    own : (b : Bool) → (if b then set_at waits j [] else waits) j ≡ (if b then [] else waits j)
    own true = set_same waits j [] j refl
    own false = refl

    other : (b : Bool) (k : ℕ) → (k ≡ j → ⊥) → (if b then set_at waits j [] else waits) k ≡ waits k
    other true k n = set_other waits j [] k n
    other false k n = refl

-- ---- a part that is read
-- the part of a terminal, which a call reads where its lane is open
pub part_at : (inside now : Waiting) (j : ℕ) (p : Part) → inside ≡ now → j < length now.parts → p ≡ get_or inside.parts j p → slice_get inside.parts j ≡ Some p
part_at inside now j p same l is = get_read inside.parts j p (omega (arith, l, ap (λ (x : Waiting). length x.parts) same)) is

pub bounds_in : (i : Inside) (now : Waiting) (j : ℕ) (p : Part) → IsLane i → waiting_in i ≡ now → j < length now.parts → p ≡ get_or i.parts.items j p → Bounds (waiting_in i).chunks p
bounds_in i now j p k same l is = bounds (waiting_in i) k.taken k.listens k.waits k.holds j p (part_at (waiting_in i) now j p same l is)

-- where it ends, by the end of all
pub end_read : (all whole end : RingPosition) (p : Part) → end ≡ part_end all p → all ≡ whole → end ≡ part_end whole p
end_read all whole end p e same = e ∙ ap (λ (x : RingPosition). part_end x p) same

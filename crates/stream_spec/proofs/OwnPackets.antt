-- The packet of an entry of an own history is one of its packets, and names that entry.
use Rattle.std.proofs.Common.{◌≡◌, ℕ, zero, suc, ◌+◌, ◌-◌, ◌^◌, ◌%◌, ◌<◌, ◌≤◌, Bool, true, false, cond, inl, inr, Option, Some, None, List, [], ◌∷◌, ◌++◌, length, length-append, refl, ap, subst, sym, ◌∙◌, arith}
use Rattle.std.specs.Prelude.{◌==◌, ◌&&◌, nat_le, nat_lt, filter, map}
use Rattle.std.specs.List.{AllZip}
use Rattle.std.proofs.lemmas.Bool.{cases_lt, cases_eq, cases_order, true≢false, and_parts, eq-eqb, eqb-true, ne_eqb, le-leb, lt-leb, lt-ltb, le-ltb, and_from, and_left, and_right}
use Rattle.std.proofs.lemmas.List.{length-map}
use Rattle.wire_spec.specs.Packets.{has_text}
use Rattle.stream_spec.specs.Lists.{In}
use Rattle.stream_spec.specs.History.{History, Entry, Placed, entry_count, placed_at, placed_after, placed, low, window, nones, slots, Repeats, IsPacket, Lawful, named, entry_of, IsNear, Come}
use Rattle.stream_spec.specs.Own.{Own, block_of, own_packet, come_from, NearEach}
use Rattle.stream_spec.proofs.Places.{place_rises, same_place_after}
use Rattle.stream_spec.proofs.Blocks.{in_window}
use Rattle.stream_spec.proofs.Gaps.{nothing_sent as nothing_before}
use Rattle.stream_spec.proofs.Grows.{index_under as index_in}

abbrev is_within : ℕ → ℕ → ℕ → Placed → Bool
is_within s lo hi y = (y.source == s) && (nat_le lo y.index && nat_lt y.index hi)

own_more : (s : ℕ) (e : Entry) (before : List Entry) → e.source ≡ s → entry_count s (e ∷ before) ≡ suc (entry_count s before)
own_more s e before q = rw (eq-eqb e.source s q) (omega arith)

other_more : (s : ℕ) (e : Entry) (before : List Entry) → (e.source ≡ s → ⊥) → entry_count s (e ∷ before) ≡ entry_count s before
other_more s e before q = rw (ne_eqb e.source s q) (omega arith)

-- what the filter does with the first entry
skips : (s lo hi : ℕ) (e : Entry) (before es : List Entry) → is_within s lo hi (placed_at before e) ≡ false
    → filter (is_within s lo hi) (placed_after before (e ∷ es)) ≡ filter (is_within s lo hi) (placed_after (e ∷ before) es)
skips s lo hi e before es f = ap (λ b. cond b (placed_at before e ∷ filter (is_within s lo hi) (placed_after (e ∷ before) es)) (filter (is_within s lo hi) (placed_after (e ∷ before) es))) f

keeps : (s lo hi : ℕ) (e : Entry) (before es : List Entry) → is_within s lo hi (placed_at before e) ≡ true
    → filter (is_within s lo hi) (placed_after before (e ∷ es)) ≡ placed_at before e ∷ filter (is_within s lo hi) (placed_after (e ∷ before) es)
keeps s lo hi e before es f = ap (λ b. cond b (placed_at before e ∷ filter (is_within s lo hi) (placed_after (e ∷ before) es)) (filter (is_within s lo hi) (placed_after (e ∷ before) es))) f

-- the place of an entry against the two bounds
within_other : (s lo hi : ℕ) (e : Entry) (before : List Entry) → (e.source ≡ s → ⊥) → is_within s lo hi (placed_at before e) ≡ false
within_other s lo hi e before q = and_left (e.source == s) (nat_le lo (entry_count e.source before) && nat_lt (entry_count e.source before) hi) (ne_eqb e.source s q)

within_under : (s lo hi : ℕ) (e : Entry) (before : List Entry) → e.source ≡ s → entry_count s before < lo → is_within s lo hi (placed_at before e) ≡ false
within_under s lo hi e before q l =
    let m : entry_count e.source before ≡ entry_count s before = ap (λ (n : ℕ). entry_count n before) q in
    and_right (e.source == s) (nat_le lo (entry_count e.source before) && nat_lt (entry_count e.source before) hi)
    (and_left (nat_le lo (entry_count e.source before)) (nat_lt (entry_count e.source before) hi) (lt-leb lo (entry_count e.source before) (omega arith)))

within_over : (s lo hi : ℕ) (e : Entry) (before : List Entry) → e.source ≡ s → hi ≤ entry_count s before → is_within s lo hi (placed_at before e) ≡ false
within_over s lo hi e before q l =
    let m : entry_count e.source before ≡ entry_count s before = ap (λ (n : ℕ). entry_count n before) q in
    and_right (e.source == s) (nat_le lo (entry_count e.source before) && nat_lt (entry_count e.source before) hi)
    (and_right (nat_le lo (entry_count e.source before)) (nat_lt (entry_count e.source before) hi) (le-ltb (entry_count e.source before) hi (omega arith)))

within_in : (s lo hi : ℕ) (e : Entry) (before : List Entry) → e.source ≡ s → lo ≤ entry_count s before → entry_count s before < hi → is_within s lo hi (placed_at before e) ≡ true
within_in s lo hi e before q a b =
    let m : entry_count e.source before ≡ entry_count s before = ap (λ (n : ℕ). entry_count n before) q in
    and_from (e.source == s) (nat_le lo (entry_count e.source before) && nat_lt (entry_count e.source before) hi) (eq-eqb e.source s q)
    (and_from (nat_le lo (entry_count e.source before)) (nat_lt (entry_count e.source before) hi) (le-leb lo (entry_count e.source before) (omega arith)) (lt-ltb (entry_count e.source before) hi (omega arith)))

-- none from hi on
count_over : (s lo hi : ℕ) (before es : List Entry) → hi ≤ entry_count s before → length (filter (is_within s lo hi) (placed_after before es)) ≡ 0
count_over s lo hi before [] l = refl
count_over s lo hi before (e ∷ es) l = elim (cases_eq e.source s) [
  | inl q ↦ ap length (skips s lo hi e before es (within_over s lo hi e before q l)) ∙ count_over s lo hi (e ∷ before) es (omega (arith, own_more s e before q))
  | inr q ↦ ap length (skips s lo hi e before es (within_other s lo hi e before q)) ∙ count_over s lo hi (e ∷ before) es (omega (arith, other_more s e before q))
]

count_in : (s lo hi : ℕ) (before es : List Entry) → lo ≤ entry_count s before → entry_count s before ≤ hi → hi ≤ entry_count s before + entry_count s es → length (filter (is_within s lo hi) (placed_after before es)) + entry_count s before ≡ hi
count_in s lo hi before [] a b c = omega arith
count_in s lo hi before (e ∷ es) a b c = elim (cases_eq e.source s) [
  | inr q ↦ let r = count_in s lo hi (e ∷ before) es (omega (arith, other_more s e before q)) (omega (arith, other_more s e before q)) (omega (arith, other_more s e before q, other_more s e es q)) in
      omega (arith, ap length (skips s lo hi e before es (within_other s lo hi e before q)), r, other_more s e before q)
  | inl q ↦ elim (cases_lt (entry_count s before) hi) [
    | inl lt ↦ let r = count_in s lo hi (e ∷ before) es (omega (arith, own_more s e before q)) (omega (arith, own_more s e before q)) (omega (arith, own_more s e before q, own_more s e es q)) in
        omega (arith, ap length (keeps s lo hi e before es (within_in s lo hi e before q a lt)), r, own_more s e before q)
    | inr ge ↦ let r = count_over s lo hi before (e ∷ es) ge in omega (arith, r)
  ]
]

count_below_lo : (s lo hi : ℕ) (before es : List Entry) → entry_count s before ≤ lo → lo ≤ hi → hi ≤ entry_count s before + entry_count s es → length (filter (is_within s lo hi) (placed_after before es)) + lo ≡ hi
count_below_lo s lo hi before [] a b c = omega arith
count_below_lo s lo hi before (e ∷ es) a b c = elim (cases_lt (entry_count s before) lo) [
  | inr ge ↦ let r = count_in s lo hi before (e ∷ es) ge (omega arith) c in omega (arith, r)
  | inl lt ↦ elim (cases_eq e.source s) [
    | inl q ↦ let r = count_below_lo s lo hi (e ∷ before) es (omega (arith, own_more s e before q)) b (omega (arith, own_more s e before q, own_more s e es q)) in
        omega (arith, ap length (skips s lo hi e before es (within_under s lo hi e before q lt)), r)
    | inr q ↦ let r = count_below_lo s lo hi (e ∷ before) es (omega (arith, other_more s e before q)) b (omega (arith, other_more s e before q, other_more s e es q)) in
        omega (arith, ap length (skips s lo hi e before es (within_other s lo hi e before q)), r)
  ]
]

length_nones : (n : ℕ) → length (nones n) ≡ n
length_nones zero = refl
length_nones (suc n) = ap suc (length_nones n)

window_length : (h : History) (x : Placed) → In x (placed h) → length (window h x) + low x ≡ x.index
window_length h x i = let l = index_in [] h.entries x i in count_below_lo x.source (low x) x.index [] h.entries (omega (arith, nothing_before x.source)) (omega arith) (omega (arith, l, nothing_before x.source))

pairs_are : (x : Placed) (ys : List (Option Placed)) → ((y : Placed) → In (Some y) ys → y.media ≤ x.media) → AllZip (Repeats x) (map (block_of x) ys) ys
pairs_are x [] f = tt
pairs_are x (None ∷ ys) f = (refl, pairs_are x ys (λ y i. f y (inr i)))
pairs_are x (Some y ∷ ys) f = (repeats (has_text y.text) refl, pairs_are x ys (λ z i. f z (inr i)))
  where
    l : y.media ≤ x.media
    l = f y (inl refl)

    repeats : (b : Bool) → has_text y.text ≡ b → Repeats x (block_of x (Some y)) (Some y)
    repeats true e = (refl, rw e (omega (arith, l)), λ t. rw e (omega (arith, l)))
    repeats false e = (refl, rw e (omega (arith, l)), λ t. absurd (true≢false (sym t ∙ e)))

some_in : (n : ℕ) (ys : List Placed) (y : Placed) → In (Some y) (nones n ++ map Some ys) → In y ys
some_in zero [] y i = i
some_in zero (z ∷ ys) y (inl e) = inl (cc e)
some_in zero (z ∷ ys) y (inr i) = inr (some_in zero ys y i)
some_in (suc n) ys y (inl e) = absurd (cc e)
some_in (suc n) ys y (inr i) = some_in n ys y i

pub own_is_packet : (g : ℕ) (h : History) (x : Placed) → Lawful h → Own g h → In x (placed h) → IsPacket h x (own_packet h x)
own_is_packet g h x law own i = record {
  seq = refl;
  timestamp = refl;
  ssrc = refl;
  source = refl;
  primary = refl;
  count = length-map (slots h x) (block_of x) ∙ slots_length;
  older = pairs_are x (slots h x) (λ y j.
      let r = in_window h x y (some_in (x.generations - x.index) (window h x) y j) in
      let lt = law.rises y x r.0 i r.1 (place_rises h y x r.0 i r.1 r.3) in omega arith);
  oldest = sym (own.reach x i);
}
  where
    slots_length : length (slots h x) ≡ x.generations
    slots_length = omega (arith, length-append (nones (x.generations - x.index)) (map Some (window h x)), length_nones (x.generations - x.index), length-map (window h x) Some, window_length h x i)

-- ---- the entry that a packet names is its own
same_media : (base a b : ℕ) → a < b + 2 ^ 31 → b < a + 2 ^ 31 → (base + a) % 2 ^ 32 ≡ (base + b) % 2 ^ 32 → a ≡ b
same_media base a b l u e = omega arith

one_named : (h : History) (x y : Placed) → Lawful h → In x (placed h) → In y (placed h) → y.source ≡ x.source → (h.base + y.media) % 2 ^ 32 ≡ (h.base + x.media) % 2 ^ 32 → y ≡ x
one_named h x y law i m s e =
    let same = same_media h.base y.media x.media (law.spans y x m i) (law.spans x y i m) e in
    elim (cases_order y.place x.place) [
      | inl p ↦ same_place_after [] h.entries y x m i p
      | inr (inl lt) ↦ let r = law.rises y x m i s lt in absurd (omega arith)
      | inr (inr gt) ↦ let r = law.rises x y i m (sym s) gt in absurd (omega arith)
    ]

named_in : (h : History) (x : Placed) (ys : List Placed) → ((y : Placed) → In y ys → y.source ≡ x.source → (h.base + y.media) % 2 ^ 32 ≡ (h.base + x.media) % 2 ^ 32 → y ≡ x) → In x ys
    → named h.base (own_packet h x) ys ≡ x
named_in h x [] f i = absurd i
named_in h x (y ∷ ys) f i = go ((y.source == x.source) && (((h.base + y.media) % 2 ^ 32) == ((h.base + x.media) % 2 ^ 32))) refl i (named_in h x ys (λ z j. f z (inr j)))
  where
    go : (b : Bool) → ((y.source == x.source) && (((h.base + y.media) % 2 ^ 32) == ((h.base + x.media) % 2 ^ 32))) ≡ b → In x (y ∷ ys) → (In x ys → named h.base (own_packet h x) ys ≡ x)
        → cond b y (named h.base (own_packet h x) ys) ≡ x
    go true e j g = let r = and_parts (y.source == x.source) (((h.base + y.media) % 2 ^ 32) == ((h.base + x.media) % 2 ^ 32)) e in
        f y (inl refl) (eqb-true y.source x.source r.0) (eqb-true ((h.base + y.media) % 2 ^ 32) ((h.base + x.media) % 2 ^ 32) r.1)
    go false e (inl q) g =
        absurd (true≢false (sym (and_from (y.source == x.source) (((h.base + y.media) % 2 ^ 32) == ((h.base + x.media) % 2 ^ 32))
        (eq-eqb y.source x.source (sym (ap (λ (z : Placed). z.source) q))) (eq-eqb ((h.base + y.media) % 2 ^ 32) ((h.base + x.media) % 2 ^ 32) (sym (ap (λ (z : Placed). (h.base + z.media) % 2 ^ 32) q)))) ∙ e))
    go false e (inr j) g = g j

pub names_own : (h : History) (x : Placed) → Lawful h → In x (placed h) → entry_of h (own_packet h x) ≡ x
names_own h x law i = named_in h x (placed h) (λ y m s e. one_named h x y law i m s e) i

-- ---- packets of own entries come from the history
pub own_come : (g : ℕ) (h : History) → Lawful h → Own g h → (xs : List (ℕ × Placed)) → NearEach h xs → Come h (come_from h xs)
own_come g h law own [] n = tt
own_come g h law own (a ∷ before) n =
    let same = names_own h a.1 law n.0 in (
      subst (λ (y : Placed). In y (placed h)) (sym same) n.0,
      subst (λ (y : Placed). IsPacket h y (own_packet h a.1)) (sym same) (own_is_packet g h a.1 law own n.0),
      subst (λ (y : Placed). IsNear h y.place (come_from h before)) (sym same) n.1.0,
      own_come g h law own before n.1.1,
    )

-- A lawful history without keep-alives is lawful, and what comes of it comes of it so.
use Rattle.std.proofs.Common.{◌≡◌, ℕ, zero, suc, ◌+◌, ◌*◌, ◌-◌, ◌%◌, ◌^◌, ◌≤◌, ◌<◌, Bool, true, false, cond, inl, inr, Option, Some, None, List, [], ◌∷◌, ◌++◌, length, refl, ap, subst, sym, ◌∙◌, arith, length-append}
use Rattle.std.proofs.lemmas.List.{length-map, map-append}
use Rattle.std.specs.Prelude.{◌==◌, ◌&&◌, nat_lt, nat_le, max, map, filter, replicate, not, if◌then◌else◌, IsUtf8}
use Rattle.std.specs.List.{AllZip, concat, list_any}
use Rattle.std.proofs.lemmas.Bool.{true≢false}
use Rattle.std.proofs.lemmas.Str.{IsUtf8-nil}
use Rattle.rtt_base.specs.declared.blocks.TextBlock.{TextBlock}
use Rattle.rtt_base.specs.declared.limits.TheConstants.{MOST_PACKET_OCTETS, MOST_TEXT_OCTETS}
use Rattle.wire_spec.specs.Packets.{Packet, Arrival, has_text, AreTextBlocks, AreTextArrivals}
use Rattle.stream_spec.specs.Lists.{In}
use Rattle.stream_spec.proofs.Lists.{put_map}
use Rattle.stream_spec.specs.Hearing.{oldest_offset}
use Rattle.stream_spec.specs.Numbering.{Numbered, Falling, number_it, number_after, nearest, numbered, greatest, first_number, distinct_from, in_time, by_number, used}
use Rattle.stream_spec.specs.History.{History, Entry, Placed, entry_count, placed_at, placed_after, placed, before, low, window, nones, slots, Repeats, IsPacket, ReachFits, texts_of, octets, Lawful, named, entry_of, top_place, IsNear, Come, by_place, places}
use Rattle.stream_spec.specs.Still.{is_blank, still_text, still_block, still_packet, still_arrival, still, still_numbered, still_entry, still_history, still_placed}

-- ---- lists
map_in : {X Y : Type 0} (f : X → Y) (x : X) (xs : List X) → In x xs → In (f x) (map f xs)
map_in f x [] i = absurd i
map_in f x (y ∷ xs) (inl e) = inl (ap f e)
map_in f x (y ∷ xs) (inr i) = inr (map_in f x xs i)

pub in_map : {X Y : Type 0} (f : X → Y) (y : Y) (xs : List X) → In y (map f xs) → (x : X) × In x xs × (y ≡ f x)
in_map f y [] i = absurd i
in_map f y (x ∷ xs) (inl e) = (x, inl refl, e)
in_map f y (x ∷ xs) (inr i) = let r = in_map f y xs i in (r.0, inr r.1, r.2)

pub filter_map : {X Y : Type 0} (f : X → Y) (p : Y → Bool) (xs : List X) → filter p (map f xs) ≡ map f (filter (λ x. p (f x)) xs)
filter_map f p [] = refl
filter_map f p (x ∷ xs) = go (p (f x)) (filter_map f p xs)
  where
    go : (b : Bool) → filter p (map f xs) ≡ map f (filter (λ x. p (f x)) xs)
        → cond b (f x ∷ filter p (map f xs)) (filter p (map f xs)) ≡ map f (cond b (x ∷ filter (λ x. p (f x)) xs) (filter (λ x. p (f x)) xs))
    go true e = ap (λ ys. f x ∷ ys) e
    go false e = e

-- ---- texts
pub still_short : (text : List ℕ) → length (still_text text) ≤ length text
still_short text = go (is_blank text)
  where
    go : (b : Bool) → length (cond b [] text) ≤ length text
    go true = omega arith
    go false = omega arith

pub still_utf8 : (text : List ℕ) → IsUtf8 text → IsUtf8 (still_text text)
still_utf8 text u = go (is_blank text)
  where
    go : (b : Bool) → IsUtf8 (cond b [] text)
    go true = IsUtf8-nil
    go false = u

pub still_same : (text : List ℕ) → has_text (still_text text) ≡ true → still_text text ≡ text
still_same text = go (is_blank text)
  where
    go : (b : Bool) → has_text (cond b [] text) ≡ true → cond b [] text ≡ text
    go true e = absurd (true≢false (sym e))
    go false e = refl

still_has : (text : List ℕ) → has_text (still_text text) ≡ true → has_text text ≡ true
still_has text e = sym (ap has_text (still_same text e)) ∙ e

-- ---- entries
count_still : (s : ℕ) (es : List Entry) → entry_count s (map still_entry es) ≡ entry_count s es
count_still s [] = refl
count_still s (e ∷ es) = ap (λ n. (if e.source == s then 1 else 0) + n) (count_still s es)

placed_at_still : (es : List Entry) (e : Entry) → placed_at (map still_entry es) (still_entry e) ≡ still_placed (placed_at es e)
placed_at_still es e =
    let l = length-map es still_entry in
    let c = count_still e.source es in
    λ i. record { place = l i; index = c i; source = e.source; media = e.media; text = still_text e.text; generations = e.generations; reach = e.reach }

placed_still_after : (before es : List Entry) → placed_after (map still_entry before) (map still_entry es) ≡ map still_placed (placed_after before es)
placed_still_after before [] = refl
placed_still_after before (e ∷ es) =
    let here = placed_at_still before e in
    let rest = placed_still_after (e ∷ before) es in
    λ i. here i ∷ rest i

pub placed_still : (h : History) → placed (still_history h) ≡ map still_placed (placed h)
placed_still h = placed_still_after [] h.entries

in_still : (h : History) (x : Placed) → In x (placed (still_history h)) → (y : Placed) × In y (placed h) × (x ≡ still_placed y)
in_still h x i = in_map still_placed x (placed h) (subst (In x) (placed_still h) i)

still_in : (h : History) (x : Placed) → In x (placed h) → In (still_placed x) (placed (still_history h))
still_in h x i = subst (In (still_placed x)) (sym (placed_still h)) (map_in still_placed x (placed h) i)

before_still : (h : History) (n : ℕ) (x : Placed) → before (still_history h) n (still_placed x) ≡ map still_placed (before h n x)
before_still h n x =
    ap (λ ys. filter (λ y. (y.source == x.source) && (nat_le (x.index - n) y.index && nat_lt y.index x.index)) ys) (placed_still h)
    ∙ filter_map still_placed (λ y. (y.source == x.source) && (nat_le (x.index - n) y.index && nat_lt y.index x.index)) (placed h)

-- ---- lawful
one : (h : History) (P : Placed → Type 0) → ((x : Placed) → In x (placed h) → P (still_placed x)) → (x : Placed) → In x (placed (still_history h)) → P x
one h P f x i = let r = in_still h x i in subst P (sym r.2) (f r.0 r.1)

two : (h : History) (P : Placed → Placed → Type 0) → ((x y : Placed) → In x (placed h) → In y (placed h) → P (still_placed x) (still_placed y)) → (x y : Placed) → In x (placed (still_history h)) → In y (placed (still_history h)) → P x y
two h P f x y i j = let r = in_still h x i in let q = in_still h y j in
    subst (λ z. P z y) (sym r.2) (subst (P (still_placed r.0)) (sym q.2) (f r.0 q.0 r.1 q.1))

texts_short : (xs : List Placed) → length (concat (texts_of (map still_placed xs))) ≤ length (concat (texts_of xs))
texts_short [] = omega arith
texts_short (x ∷ xs) = omega (arith, length-append (still_text x.text) (concat (texts_of (map still_placed xs))), length-append x.text (concat (texts_of xs)), still_short x.text, texts_short xs)

octets_still : (h : History) (x : Placed) → octets (still_history h) (still_placed x) ≤ octets h x
octets_still h x =
    let w : length (concat (texts_of (window (still_history h) (still_placed x)))) ≡ length (concat (texts_of (map still_placed (window h x)))) = ap (λ ys. length (concat (texts_of ys))) (before_still h x.generations x) in
    let a = length-append (concat (texts_of (window (still_history h) (still_placed x)))) (still_text x.text) in
    let b = length-append (concat (texts_of (window h x))) x.text in
    let s = texts_short (window h x) in
    let t = still_short x.text in
    sum (if x.source == h.ssrc then 12 else 16) (4 * x.generations + 1) _ _ (omega (arith, w, a, b, s, t))
  where
    sum : (a b m n : ℕ) → m ≤ n → a + b + m ≤ a + b + n
    sum a b m n l = omega (arith, l)

pub lawful_still : (h : History) → Lawful h → Lawful (still_history h)
lawful_still h law = record {
  orders = two h (λ x y. x.place ≤ y.place → x.media ≤ y.media) law.orders;
  spans = two h (λ x y. x.media < y.media + 2 ^ 31) law.spans;
  rises = two h (λ x y. x.source ≡ y.source → x.place < y.place → x.media < y.media) law.rises;
  low_rises = two h (λ x y. x.source ≡ y.source → x.place < y.place → low x ≤ low y) law.low_rises;
  near = two h (λ x y. x.source ≡ y.source → x.index < y.index → low y ≤ x.index → has_text x.text ≡ true → y.media ≤ x.media + 16383)
      (λ x y i j s l w t. law.near x y i j s l w (still_has x.text t));
  generations = one h (λ x. x.generations ≤ 8) law.generations;
  reach = one h (λ x. x.reach < 2 ^ 14) law.reach;
  reach_fits = one h (ReachFits (still_history h)) fits;
  text = one h (λ x. IsUtf8 x.text) (λ x i. still_utf8 x.text (law.text x i));
  repeated = two h (λ x y. x.source ≡ y.source → x.index < y.index → low y ≤ x.index → length x.text ≤ MOST_TEXT_OCTETS)
      (λ x y i j s l w. let r = law.repeated x y i j s l w in omega (arith, still_short x.text));
  sized = one h (λ x. octets (still_history h) x ≤ MOST_PACKET_OCTETS) (λ x i. omega (arith, octets_still h x, law.sized x i));
}
  where
    fits : (x : Placed) → In x (placed h) → ReachFits (still_history h) (still_placed x)
    fits x i l = elim (law.reach_fits x i l) [
      | inl q ↦ inl q
      | inr q ↦ inr (still_placed q.0, subst (In (still_placed q.0)) (sym (before_still h x.generations x)) (map_in still_placed q.0 (window h x) q.1), q.2)
    ]

-- ---- packets
abbrev still_slot : Option Placed → Option Placed
still_slot None = None
still_slot (Some x) = Some (still_placed x)

nones_still : (n : ℕ) → map still_slot (nones n) ≡ nones n
nones_still zero = refl
nones_still (suc n) = ap (λ xs. None ∷ xs) (nones_still n)

somes_still : (xs : List Placed) → map Some (map still_placed xs) ≡ map still_slot (map Some xs)
somes_still [] = refl
somes_still (x ∷ xs) = ap (λ ys. Some (still_placed x) ∷ ys) (somes_still xs)

slots_still : (h : History) (x : Placed) → slots (still_history h) (still_placed x) ≡ map still_slot (slots h x)
slots_still h x =
    let w = before_still h x.generations x in
    let s = somes_still (window h x) in
    let n = nones_still (x.generations - x.index) in
    ap (λ ys. nones (x.generations - x.index) ++ map Some ys) w ∙ ((λ i. sym n i ++ s i) ∙ sym (map-append still_slot (nones (x.generations - x.index)) (map Some (window h x))))

repeats_still : (x : Placed) (bs : List TextBlock) (ys : List (Option Placed)) → AllZip (Repeats x) bs ys → AllZip (Repeats (still_placed x)) (map still_block bs) (map still_slot ys)
repeats_still x [] [] r = tt
repeats_still x [] (y ∷ ys) r = r
repeats_still x (b ∷ bs) [] r = r
repeats_still x (b ∷ bs) (None ∷ ys) r = (ap still_text r.0, repeats_still x bs ys r.1)
repeats_still x (b ∷ bs) (Some y ∷ ys) r = ((ap still_text r.0.0, r.0.1, λ t. r.0.2 (still_has y.text t)), repeats_still x bs ys r.1)

pub oldest_still : (bs : List TextBlock) → oldest_offset (map still_block bs) ≡ oldest_offset bs
oldest_still [] = refl
oldest_still (b ∷ bs) = refl

packet_still : (h : History) (x : Placed) (p : Packet) → IsPacket h x p → IsPacket (still_history h) (still_placed x) (still_packet p)
packet_still h x p is = record {
  seq = is.seq;
  timestamp = is.timestamp;
  ssrc = is.ssrc;
  source = is.source;
  primary = ap still_text is.primary;
  count = length-map p.older still_block ∙ is.count;
  older = subst (AllZip (Repeats (still_placed x)) (map still_block p.older)) (sym (slots_still h x)) (repeats_still x p.older (slots h x) is.older);
  oldest = oldest_still p.older ∙ is.oldest;
}

-- ---- what comes
named_still : (base : ℕ) (p : Packet) (xs : List Placed) → named base (still_packet p) (map still_placed xs) ≡ still_placed (named base p xs)
named_still base p [] = refl
named_still base p (x ∷ xs) = go ((x.source == p.source) && (((base + x.media) % 2 ^ 32) == p.timestamp)) (named_still base p xs)
  where
    go : (b : Bool) → named base (still_packet p) (map still_placed xs) ≡ still_placed (named base p xs)
        → cond b (still_placed x) (named base (still_packet p) (map still_placed xs)) ≡ still_placed (cond b x (named base p xs))
    go true e = refl
    go false e = e

entry_still : (h : History) (p : Packet) → entry_of (still_history h) (still_packet p) ≡ still_placed (entry_of h p)
entry_still h p = ap (named h.base (still_packet p)) (placed_still h) ∙ named_still h.base p (placed h)

top_still : (h : History) (past : List Arrival) → top_place (still_history h) (still past) ≡ top_place h past
top_still h [] = refl
top_still h (a ∷ past) =
    let e = ap (λ (x : Placed). x.place) (entry_still h a.packet) in
    let t = top_still h past in
    λ i. max (t i) (e i)

near_still : (h : History) (k : ℕ) (past : List Arrival) → IsNear h k past → IsNear (still_history h) k (still past)
near_still h k [] n = tt
near_still h k (a ∷ past) n = subst (λ t. (k ≤ t + 32767) × (t ≤ k + 32767)) (sym (top_still h (a ∷ past))) n

pub come_still : (h : History) (past : List Arrival) → Come h past → Come (still_history h) (still past)
come_still h [] c = tt
come_still h (a ∷ past) c =
    let e = sym (entry_still h a.packet) in (
      subst (λ x. In x (placed (still_history h))) e (still_in h (entry_of h a.packet) c.0),
      subst (λ x. IsPacket (still_history h) x (still_packet a.packet)) e (packet_still h (entry_of h a.packet) a.packet c.1),
      subst (λ (x : Placed). IsNear (still_history h) x.place (still past)) e (near_still h (entry_of h a.packet).place past c.2),
      come_still h past c.3,
    )

-- ---- numbers
greatest_still : (us : List Numbered) → greatest (map still_numbered us) ≡ greatest us
greatest_still [] = refl
greatest_still (u ∷ us) = ap (λ n. max n u.number) (greatest_still us)

after_still : (us : List Numbered) (seq : ℕ) → number_after (map still_numbered us) seq ≡ number_after us seq
after_still [] seq = refl
after_still (u ∷ us) seq = ap (λ n. nearest n seq) (greatest_still (u ∷ us))

pub numbered_still : (past : List Arrival) → numbered (still past) ≡ map still_numbered (numbered past)
numbered_still [] = refl
numbered_still (a ∷ past) =
    let r = numbered_still past in
    let n = ap (λ us. number_after us a.packet.seq) r ∙ after_still (numbered past) a.packet.seq in
    λ i. record { time = a.time; number = n i; packet = still_packet a.packet } ∷ r i

pub first_still : (n : ℕ) (us : List Numbered) → first_number n (map still_numbered us) ≡ first_number n us
first_still n [] = refl
first_still n (u ∷ us) = first_still u.number us

pub any_still : (p : Numbered → Bool) (us : List Numbered) → list_any p (map still_numbered us) ≡ list_any (λ u. p (still_numbered u)) us
any_still p [] = refl
any_still p (u ∷ us) = ap (λ b. Rattle.std.specs.Prelude.◌||◌ (p (still_numbered u)) b) (any_still p us)

pub distinct_still : (n : ℕ) (us : List Numbered) → distinct_from n (map still_numbered us) ≡ distinct_from n us
distinct_still n [] = refl
distinct_still n (u ∷ us) =
    let a = any_still (λ e. e.number == u.number) us in
    let r = distinct_still n us in
    λ i. (if nat_le n u.number && not (a i) then 1 else 0) + r i

pub in_time_still : (wait : ℕ) (e : Numbered) (us : List Numbered) → in_time wait (still_numbered e) (map still_numbered us) ≡ in_time wait e us
in_time_still wait e us =
    let f = first_still e.number us in
    let a = any_still (λ x. x.number == e.number) us in
    let g = any_still (λ x. nat_lt e.number x.number && nat_le (x.time + wait) e.time) us in
    let d = distinct_still (suc e.number) us in
    λ i. nat_le (f i) e.number && (not (a i) && not (Rattle.std.specs.Prelude.◌||◌ (g i) (nat_lt 64 (d i))))

by_number_still : (e : Numbered) (us : List Numbered) → by_number (still_numbered e) (map still_numbered us) ≡ map still_numbered (by_number e us)
by_number_still e us = put_map (λ x. x.number) still_numbered (λ x. refl) e us

pub used_map : (wait : ℕ) (us : List Numbered) → used wait (map still_numbered us) ≡ map still_numbered (used wait us)
used_map wait [] = refl
used_map wait (u ∷ us) = go (in_time wait (still_numbered u) (map still_numbered us)) (in_time wait u us) (in_time_still wait u us) (used_map wait us)
  where
    go : (a b : Bool) → a ≡ b → used wait (map still_numbered us) ≡ map still_numbered (used wait us) → cond a (by_number (still_numbered u) (used wait (map still_numbered us))) (used wait (map still_numbered us)) ≡ map still_numbered (cond b (by_number u (used wait us)) (used wait us))
    go true true e r = ap (by_number (still_numbered u)) r ∙ by_number_still u (used wait us)
    go false false e r = r
    go true false e r = absurd (true≢false e)
    go false true e r = absurd (true≢false (sym e))

pub used_still : (wait : ℕ) (past : List Arrival) → used wait (numbered (still past)) ≡ map still_numbered (used wait (numbered past))
used_still wait past = ap (used wait) (numbered_still past) ∙ used_map wait (numbered past)

-- ---- places
by_place_still : (e : Placed) (xs : List Placed) → by_place (still_placed e) (map still_placed xs) ≡ map still_placed (by_place e xs)
by_place_still e xs = put_map (λ x. x.place) still_placed (λ x. refl) e xs

pub places_still : (wait : ℕ) (h : History) (past : List Arrival) → places wait (still_history h) (still past) ≡ map still_placed (places wait h past)
places_still wait h [] = refl
places_still wait h (a ∷ past) =
    go (in_time wait (number_it (numbered (still past)) (still_arrival a)) (numbered (still past))) (in_time wait (number_it (numbered past) a) (numbered past)) same (places_still wait h past)
  where
    same : in_time wait (number_it (numbered (still past)) (still_arrival a)) (numbered (still past)) ≡ in_time wait (number_it (numbered past) a) (numbered past)
    same =
        let r = numbered_still past in
        let n = ap (λ us. number_after us a.packet.seq) r ∙ after_still (numbered past) a.packet.seq in
        (λ i. in_time wait (record { time = a.time; number = n i; packet = still_packet a.packet }) (r i)) ∙ in_time_still wait (number_it (numbered past) a) (numbered past)

    go : (s t : Bool) → s ≡ t → places wait (still_history h) (still past) ≡ map still_placed (places wait h past) → cond s (by_place (entry_of (still_history h) (still_packet a.packet)) (places wait (still_history h) (still past))) (places wait (still_history h) (still past))
        ≡ map still_placed (cond t (by_place (entry_of h a.packet) (places wait h past)) (places wait h past))
    go true true e r =
        let x = entry_still h a.packet in
        (λ i. by_place (x i) (r i)) ∙ by_place_still (entry_of h a.packet) (places wait h past)
    go false false e r = r
    go true false e r = absurd (true≢false e)
    go false true e r = absurd (true≢false (sym e))

-- ---- times and texts
falls_map : (us : List Numbered) → Falling us → Falling (map still_numbered us)
falls_map [] f = tt
falls_map (u ∷ us) f = (λ v i. let r = in_map still_numbered v us i in subst (λ (x : Numbered). x.time ≤ u.time) (sym r.2) (f.0 r.0 r.1), falls_map us f.1)

pub falls_still : (past : List Arrival) → Falling (numbered past) → Falling (numbered (still past))
falls_still past f = subst Falling (sym (numbered_still past)) (falls_map (numbered past) f)

blocks_text : (bs : List TextBlock) → AreTextBlocks bs → AreTextBlocks (map still_block bs)
blocks_text [] t = tt
blocks_text (b ∷ bs) t = (still_utf8 b.text t.0, blocks_text bs t.1)

pub texts_still : (past : List Arrival) → AreTextArrivals past → AreTextArrivals (still past)
texts_still [] t = tt
texts_still (a ∷ past) t = (record { older = blocks_text a.packet.older t.0.older; primary = still_utf8 a.packet.primary t.0.primary }, texts_still past t.1)

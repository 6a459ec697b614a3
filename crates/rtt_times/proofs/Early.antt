-- No line is of a late moment.
use Rattle.std.proofs.Common.{◌≡◌, ℕ, zero, suc, ◌+◌, ◌-◌, ◌<◌, ◌≤◌, Bool, true, false, cond, Some, Result, Ok, Err, List, [], ◌∷◌, ◌++◌, map, filter, flat_map, refl, sym, subst, arith, inl, inr, ◌⊎◌, ◌==◌, nat_lt}
use Rattle.std.specs.Prelude.{All, reverse, Option, None, ◌&&◌}
use Rattle.std.proofs.lemmas.List.{reverse-append}
use Rattle.std.proofs.lemmas.List.Elements.{All-nil, All-cons, All-append}
use Rattle.rtt_base.specs.declared.text_packets.PayloadTypes.{PayloadTypes}
use Rattle.wire_spec.specs.declared.faults.TextFault.{TextFault}
use Rattle.wire_spec.specs.Packets.{Packet, Arrival, has_text}
use Rattle.wire_spec.specs.Text.{text_of}
use Rattle.wire_spec.specs.Dump.{Item, What, Whole, Rtcp, Cut, Large, arrivals_after, arrivals_with, arrived, latest}
use Rattle.stream_spec.specs.Lists.{In}
use Rattle.stream_spec.specs.Numbering.{Numbered, distinct_from, first_number, has_number, in_time, numbered, used}
use Rattle.stream_spec.specs.Hearing.{piece, is_packet_of}
use Rattle.stream_spec.specs.Ready.{Chunk, chunk, chunks, chunks_over, latest_end, least, moments, ready_of, when}
use Rattle.stream_spec.proofs.Lists.{in_append, in_filter, in_when}
use Rattle.stream_spec.proofs.Matched.{used_in}
use Rattle.rtt_base.specs.declared.limits.TheConstants.{MOST_HELD}
use Rattle.command_spec.specs.Reading.{usual_wait}
use Rattle.command_spec.specs.Transcripts.{escaped}
use Rattle.report_spec.specs.Ordered.{end_by, given_by, ordered_below, ordered_by}
use Rattle.report_spec.specs.Numbers.{Lost, Row, is_late, late, lost, lost_among, lost_before, lost_from, missing}
use Rattle.report_spec.specs.Times as times
use Rattle.report_spec.specs.Times.{chunk_lines, late_line, lost_line, number_lines, source_lines, text_lines}
use Rattle.rtt_times.specs.Lines.{Line, at_of}
use Rattle.stream_spec.proofs.Still.{in_map}

-- ---- lists
pub in_flat : {X Y : Type 0} (f : X → List Y) (y : Y) (xs : List X) → In y (flat_map f xs) → (x : X) × In x xs × In y (f x)
in_flat f y [] i = absurd i
in_flat {X} {Y} f y (x ∷ xs) i = go (in_flat f y xs) (in_append y (f x) (flat_map f xs) i)
  where
    go : (In y (flat_map f xs) → (z : X) × In z xs × In y (f z)) → In y (f x) ⊎ In y (flat_map f xs) → (z : X) × In z (x ∷ xs) × In y (f z)
    go rest (inl j) = (x, inl refl, j)
    go rest (inr j) = let r = rest j in (r.0, inr r.1, r.2)

in_reverse : {X : Type 0} (x : X) (xs : List X) → In x (reverse xs) → In x xs
in_reverse x [] i = i
in_reverse x (y ∷ ys) i = go (in_reverse x ys) (in_append x (reverse ys) (y ∷ []) (subst (λ zs. In x zs) (reverse-append (y ∷ []) ys) i))
  where
    go : (In x (reverse ys) → In x ys) → In x (reverse ys) ⊎ In x (y ∷ []) → In x (y ∷ ys)
    go rest (inl j) = inr (rest j)
    go rest (inr (inl e)) = inl e
    go rest (inr (inr j)) = absurd j

-- ---- arrivals
abbrev pub CameBy : ℕ → List Numbered → Type 0
CameBy t past = (e : Numbered) → In e past → e.time ≤ t

abbrev pub AreBy : ℕ → List Arrival → Type 0
AreBy t [] = Unit {0}
AreBy t (a ∷ past) = (a.time ≤ t) × AreBy t past

latest_by : (t : ℕ) (past : List Arrival) → AreBy t past → latest past ≤ t
latest_by t [] b = omega arith
latest_by t (a ∷ past) b = b.0

with_by : (t ssrc : ℕ) (payload_types : PayloadTypes) (item : Item) (past : List Arrival) → item.time ≤ t → AreBy t past → AreBy t (arrivals_with ssrc payload_types item past)
with_by t ssrc payload_types item past l b = go item.what
  where
    came : (x : Result Packet TextFault) → AreBy t (arrived item.time x past)
    came (Ok p) = (let h = latest_by t past b in omega (arith, l, h), b)
    came (Err f) = b

    go : (w : What) → AreBy t (elim w [ Whole octets ↦ arrived item.time (text_of octets (Some ssrc) payload_types) past | Rtcp ↦ past | Cut ↦ past | Large ↦ past ])
    go (Whole octets) = came (text_of octets (Some ssrc) payload_types)
    go Rtcp = b
    go Cut = b
    go Large = b

pub after_by : (t ssrc : ℕ) (payload_types : PayloadTypes) (past : List Arrival) (items : List Item) → ((item : Item) → In item items → item.time ≤ t) → AreBy t past → AreBy t (arrivals_after ssrc payload_types past items)
after_by t ssrc payload_types past [] l b = b
after_by t ssrc payload_types past (item ∷ items) l b = after_by t ssrc payload_types (arrivals_with ssrc payload_types item past) items (λ x i. l x (inr i)) (with_by t ssrc payload_types item past (l item (inl refl)) b)

pub numbered_by : (t : ℕ) (past : List Arrival) → AreBy t past → CameBy t (numbered past)
numbered_by t [] b e i = absurd i
numbered_by t (a ∷ past) b e (inl q) = subst (λ (x : Numbered). x.time ≤ t) (sym q) b.0
numbered_by t (a ∷ past) b e (inr i) = numbered_by t past b.1 e i

-- ---- moments
in_moments : (t wait n m : ℕ) (past : List Numbered) → CameBy t past → In m (moments wait past n) → m ≤ t + wait
in_moments t wait n m [] b i = absurd i
in_moments t wait n m (e ∷ past) b i =
    let rest = when (nat_lt n e.number) (e.time + wait) ++ (when (nat_lt MOST_HELD (distinct_from (suc n) (e ∷ past))) e.time ++ moments wait past n) in
    first (in_moments t wait n m past (λ x k. b x (inr k))) (in_append m (when (in_time wait e past && e.number == n) e.time) rest i)
  where
    here : e.time ≤ t
    here = b e (inl refl)

    third : (In m (moments wait past n) → m ≤ t + wait) → In m (when (nat_lt MOST_HELD (distinct_from (suc n) (e ∷ past))) e.time) ⊎ In m (moments wait past n) → m ≤ t + wait
    third behind (inl j) = let q = (in_when (nat_lt MOST_HELD (distinct_from (suc n) (e ∷ past))) m e.time j).1 in omega (arith, q, here)
    third behind (inr j) = behind j

    second : (In m (moments wait past n) → m ≤ t + wait) → In m (when (nat_lt n e.number) (e.time + wait)) ⊎ In m (when (nat_lt MOST_HELD (distinct_from (suc n) (e ∷ past))) e.time ++ moments wait past n) → m ≤ t + wait
    second behind (inl j) = let q = (in_when (nat_lt n e.number) m (e.time + wait) j).1 in omega (arith, q, here)
    second behind (inr j) = third behind (in_append m (when (nat_lt MOST_HELD (distinct_from (suc n) (e ∷ past))) e.time) (moments wait past n) j)

    first : (In m (moments wait past n) → m ≤ t + wait) → In m (when (in_time wait e past && e.number == n) e.time) ⊎ In m (when (nat_lt n e.number) (e.time + wait) ++ (when (nat_lt MOST_HELD (distinct_from (suc n) (e ∷ past))) e.time ++ moments wait past n)) → m ≤ t + wait
    first behind (inl j) = let q = (in_when (in_time wait e past && e.number == n) m e.time j).1 in omega (arith, q, here)
    first behind (inr j) = second behind (in_append m (when (nat_lt n e.number) (e.time + wait)) (when (nat_lt MOST_HELD (distinct_from (suc n) (e ∷ past))) e.time ++ moments wait past n) j)

least_by : (b : ℕ) (ms : List ℕ) → ((m : ℕ) → In m ms → m ≤ b) → least ms ≤ b
least_by b [] f = omega arith
least_by b (m ∷ []) f = f m (inl refl)
least_by b (m ∷ k ∷ ms) f = let h = f m (inl refl) in omega (arith, h)

ends_by : (t wait : ℕ) (past : List Numbered) → CameBy t past → (low k : ℕ) → latest_end wait past low k ≤ t + wait
ends_by t wait past b low zero = omega arith
ends_by t wait past b low (suc k) =
    let one = ends_by t wait past b low k in
    let two = least_by (t + wait) (moments wait past (low + k)) (λ m i. in_moments t wait (low + k) m past b i) in
    omega (arith, one, two)

ready_by : (t wait : ℕ) (past : List Numbered) → CameBy t past → (u : Numbered) → u.time ≤ t → ready_of wait past u ≤ t + wait
ready_by t wait past b u l = let h = ends_by t wait past b (first_number 0 past) (suc u.number - first_number 0 past) in omega (arith, l, h)

used_by : (t wait : ℕ) (past : List Numbered) → CameBy t past → CameBy t (used wait past)
used_by t wait past b u i = b u (used_in wait past u i)

-- ---- lines
abbrev pub IsEarly : ℕ → times.Line → Type 0
IsEarly b l = l.at ≤ b

from_by : (t wait : ℕ) (past : List Numbered) → CameBy t past → (n : ℕ) (us : List Numbered) → CameBy t us → (l : Lost) → In l (lost_from wait past n us) → l.at ≤ t + wait
from_by t wait past b n [] c l i = absurd i
from_by t wait past b n (u ∷ us) c l i = go (from_by t wait past b u.number us (λ x k. c x (inr k)) l) (in_append l (lost_before wait past n u) (lost_from wait past u.number us) i)
  where
    go : (In l (lost_from wait past u.number us) → l.at ≤ t + wait) → In l (lost_before wait past n u) ⊎ In l (lost_from wait past u.number us) → l.at ≤ t + wait
    go rest (inl j) =
        let r = in_map (λ (row : Row). record { row = row; at = ready_of wait past u }) l (missing (has_number past) (suc n) (u.number - suc n)) j in
        subst (λ (x : Lost). x.at ≤ t + wait) (sym r.2) (ready_by t wait past b u (c u (inl refl)))
    go rest (inr j) = rest j

among_by : (t wait : ℕ) (past : List Numbered) → CameBy t past → (us : List Numbered) → CameBy t us → (l : Lost) → In l (lost_among wait past us) → l.at ≤ t + wait
among_by t wait past b [] c l i = absurd i
among_by t wait past b (u ∷ us) c l i = from_by t wait past b u.number us (λ x k. c x (inr k)) l i

pub numbers_early : (t ssrc : ℕ) (past : List Numbered) → CameBy t past → (l : times.Line) → In l (number_lines ssrc past) → l.at ≤ t + usual_wait
numbers_early t ssrc past b l i = go (in_append l (map (lost_line ssrc) (lost usual_wait past)) (map (late_line ssrc) (late usual_wait past)) i)
  where
    go : In l (map (lost_line ssrc) (lost usual_wait past)) ⊎ In l (map (late_line ssrc) (late usual_wait past)) → l.at ≤ t + usual_wait
    go (inl j) =
        let r = in_map (lost_line ssrc) l (lost usual_wait past) j in
        subst (λ (x : times.Line). x.at ≤ t + usual_wait) (sym r.2) (among_by t usual_wait past b (used usual_wait past) (used_by t usual_wait past b) r.0 r.1)
    go (inr j) =
        let r = in_map (late_line ssrc) l (late usual_wait past) j in
        let there = (in_filter (is_late (used usual_wait past)) r.0 past (in_reverse r.0 (filter (is_late (used usual_wait past)) past) r.1)).0 in
        subst (λ (x : times.Line). x.at ≤ t + usual_wait) (sym r.2) (let h = b r.0 there in omega (arith, h))

chunks_by : (t wait : ℕ) (past : List Numbered) → CameBy t past → (place : ℕ) (present : ℕ → Bool) (first : ℕ) (prev : Option Numbered) (us : List Numbered) → CameBy t us → (c : Chunk) → In c (chunks_over (ready_of wait past) place present first prev us) → c.ready ≤ t + wait
chunks_by t wait past b place present first prev [] q c i = absurd i
chunks_by t wait past b place present first prev (u ∷ us) q c i =
    go (chunks_by t wait past b place present first (Some u) us (λ x k. q x (inr k)) c) (in_append c (map (chunk place (ready_of wait past u)) (piece present first prev u)) (chunks_over (ready_of wait past) place present first (Some u) us) i)
  where
    go : (In c (chunks_over (ready_of wait past) place present first (Some u) us) → c.ready ≤ t + wait) → In c (map (chunk place (ready_of wait past u)) (piece present first prev u)) ⊎ In c (chunks_over (ready_of wait past) place present first (Some u) us) → c.ready ≤ t + wait
    go rest (inl j) =
        let r = in_map (chunk place (ready_of wait past u)) c (piece present first prev u) j in
        subst (λ (x : Chunk). x.ready ≤ t + wait) (sym r.2) (ready_by t wait past b u (q u (inl refl)))
    go rest (inr j) = rest j

pub texts_early : (t ssrc : ℕ) (past : List Arrival) (named : List ℕ) → AreBy t past → (l : times.Line) → In l (text_lines ssrc past named) → l.at ≤ t + usual_wait
texts_early t ssrc past named b l i =
    let s = in_flat (source_lines ssrc past) l named i in
    let c = in_flat (chunk_lines ssrc s.0) l (chunks usual_wait 0 past s.0) s.2 in
    let came = numbered_by t past b in
    let us = filter (is_packet_of s.0) (used usual_wait (numbered past)) in
    let ready : c.0.ready ≤ t + usual_wait =
    chunks_by t usual_wait (numbered past) came 0 (has_number (used usual_wait (numbered past))) (first_number 0 (numbered past)) None us
    (λ u k. used_by t usual_wait (numbered past) came u (in_filter (is_packet_of s.0) u (used usual_wait (numbered past)) k).0) c.0 c.1 in
    let e = (in_when (has_text (escaped c.0.text)) l (record { at = c.0.ready; ssrc = ssrc; told = times.Said s.0 (escaped c.0.text) }) c.2).1 in
    subst (λ (x : times.Line). x.at ≤ t + usual_wait) (sym e) ready

-- ---- in their order
all_given : (n : ℕ) (xs : List Line) → All (λ l. l.at < suc n) (given_by at_of n xs)
all_given n [] = All-nil (λ l. l.at < suc n)
all_given n (x ∷ xs) = go (x.at == n) refl (all_given n xs)
  where
    go : (b : Bool) → (x.at == n) ≡ b → All (λ l. l.at < suc n) (given_by at_of n xs) → All (λ l. l.at < suc n) (cond b (x ∷ given_by at_of n xs) (given_by at_of n xs))
    go true e a = All-cons (λ l. l.at < suc n) x (given_by at_of n xs) (same e) a
      where
        same : (x.at == n) ≡ true → x.at < suc n
        same q = grind (arith, q)
    go false e a = a

all_below : (n limit : ℕ) (xs : List Line) → n ≤ limit → All (λ l. l.at < limit) (ordered_below at_of n xs)
all_below zero limit xs l = All-nil (λ x. x.at < limit)
all_below (suc n) limit xs l =
    All-append (λ x. x.at < limit) (ordered_below at_of n xs) (given_by at_of n xs) (all_below n limit xs (omega (arith, l)))
    (λ k d i. let h = all_given n xs k d i in omega (arith, h, l))

pub ordered_early : (limit : ℕ) (xs : List Line) → ((l : Line) → In l xs → l.at < limit) → All (λ l. l.at < limit) (ordered_by at_of xs)
ordered_early limit xs f = all_below (end_by at_of xs) limit xs (ends xs f)
  where
    ends : (ys : List Line) → ((l : Line) → In l ys → l.at < limit) → end_by at_of ys ≤ limit
    ends [] g = omega arith
    ends (y ∷ ys) g = let one = g y (inl refl) in let two = ends ys (λ l i. g l (inr i)) in omega (arith, one, two)

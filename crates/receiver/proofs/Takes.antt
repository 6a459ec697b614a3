-- One used packet more: what a receiver stands for, and what it gives.
use Rattle.std.proofs.Common.{◌≡◌, ◌≢◌, ℕ, zero, suc, ◌+◌, ◌-◌, ◌<◌, ◌≤◌, Bool, true, false, cond, not, ◌⊎◌, inl, inr, Option, Some, None, List, [], ◌∷◌, ◌++◌, length, length-append, get_or, set, refl, ap, subst, sym, ◌∙◌, arith, append-nil, append_assoc, get_or-set_other, get_or-set_same}
use Rattle.std.specs.Prelude.{if◌then◌else◌, map, ◌==◌, nat_lt, AllPairs, position}
use Rattle.std.specs.List.{position_or_len, prefix_len}
use Rattle.std.specs.Option.{ForSome}
use Rattle.std.proofs.lemmas.Bool.{cases_lt, cases_eq, true≢false, eq-eqb, eqb-true, ne_eqb, lt-ltb, ltb-true, ltb-false}
use Rattle.std.proofs.lemmas.List.Sums.{position_or_len_is, fails_before_first, passes_at_first}
use Rattle.rtt_base.specs.declared.blocks.TextBlock.{TextBlock}
use Rattle.rtt_base.specs.declared.text_packets.TextPacket.{TextPacket}
use Rattle.rtt_base.specs.Timestamps.{is_after}
use Rattle.std.proofs.lemmas.List.{length-map}
use Rattle.wire_spec.specs.Packets.{back}
use Rattle.stream_spec.specs.Lists.{In}
use Rattle.stream_spec.specs.Numbering.{Numbered, has_number, RisingNumbers}
use Rattle.stream_spec.specs.Hearing.{missing, missing_between, missing_before, is_new, older_texts, text_list, marker, oldest_offset, first_number_of, before_it, adds_marker, adds_texts, heard_by}
use Rattle.stream_spec.proofs.Lists.{in_append, in_right}
use Rattle.stream_spec.proofs.Taking.{heard_by_more, missing_after, last_is, none_is, last_stays, last_now}
use Rattle.receiver.specs.declared.receivers.LastPacket.{LastPacket}
use Rattle.receiver.specs.declared.receivers.ListedSource.{ListedSource}
use Rattle.receiver.specs.declared.receivers.Receiver.{Receiver}
use Rattle.receiver.specs.Stands.{Stands, IsCount, IsSeen, first_from, used_packet}
use Rattle.std.specs.Prelude.{◌&&◌}
use Rattle.std.specs.List.{concat}
use Rattle.std.proofs.lemmas.List.Elements.{at_read}
use Rattle.std.proofs.lemmas.List.Folds.{concat-append}
use Rattle.stream_spec.specs.Hearing.{is_packet_of}
use Rattle.receiver.specs.declared.source_texts.SourceText.{SourceText}
use Rattle.receiver.specs.Each.{one_if, markers_by, markers_from, AreHeard, IsHeardOf}
use Rattle.receiver.specs.Steps as steps
use Rattle.receiver.specs.Steps.{missing_up_to, missing_then, is_new_since, is_marked_since, older_since, texts_since, told_since}

-- ---- counts
-- a number above the latest is above all
above_all : (us : List Numbered) (latest : Option ℕ) (missing number : ℕ) → IsCount us latest missing → ForSome latest (λ l. l < number) → (u : Numbered) → In u us → u.number < number
above_all [] latest missing number k f u i = absurd i
above_all (v ∷ us) latest missing number k f u i = let l = f k.0 k.1 in let m = k.3 u i in omega arith

-- a number above all is above the latest
count_next : (us : List Numbered) (latest : Option ℕ) (missing number : ℕ) (b : Numbered) → b.number ≡ number → IsCount us latest missing → ForSome latest (λ l. l < number)
    → IsCount (us ++ b ∷ []) (Some number) (steps.missing_before missing latest number)
count_next [] None missing number b e k f =
    (number, refl, omega (arith, k.1, e), (λ v i. elim i [ inl q ↦ omega (arith, ap (λ (z : Numbered). z.number) q, e) | inr j ↦ absurd j ]), record { it = b; is_in = inl refl; number = e })
count_next [] (Some l) missing number b e k f = cc k.0
count_next (u ∷ us) None missing number b e k f = cc k.1
count_next (u ∷ us) (Some l) missing number b e k f =
    let same : l ≡ k.0 = cc k.1 in
    let m = f l refl in (
      number,
      refl,
      omega (arith, k.2, same, length-append us (b ∷ [])),
      (λ v i. elim (in_append v (u ∷ us) (b ∷ []) i) [
        | inl j ↦ let n = k.3 v j in omega (arith, same)
        | inr (inl q) ↦ omega (arith, ap (λ (z : Numbered). z.number) q, e)
        | inr (inr j) ↦ absurd j
      ]),
      record { it = b; is_in = in_right b (u ∷ us) (b ∷ []) (inl refl); number = e },
    )

-- no more numbers are missing than there are
pub count_fits : (us : List Numbered) (latest : Option ℕ) (missing number : ℕ) → IsCount us latest missing → ForSome latest (λ l. l < number) → steps.missing_before missing latest number ≤ number
count_fits [] None missing number k f = omega (arith, k.1)
count_fits [] (Some l) missing number k f = cc k.0
count_fits (u ∷ us) None missing number k f = cc k.1
count_fits (u ∷ us) (Some l) missing number k f =
    let same : l ≡ k.0 = cc k.1 in
    let m = f l refl in omega (arith, k.2, same)

rising_next : (us : List Numbered) (b : Numbered) → RisingNumbers us → ((u : Numbered) → In u us → u.number < b.number) → RisingNumbers (us ++ b ∷ [])
rising_next [] b r f = ((λ y i. absurd i), tt)
rising_next (u ∷ us) b r f = (λ y i. elim (in_append y us (b ∷ []) i) [ inl j ↦ r.0 y j | inr (inl q) ↦ omega (arith, f u (inl refl), ap (λ (z : Numbered). z.number) q) | inr (inr j) ↦ absurd j ], rising_next us b r.1 (λ v i. f v (inr i)))

-- ---- what is kept of a source
seen_other : (us : List Numbered) (b : Numbered) (s : ℕ) (seen : Option LastPacket) → (b.packet.source ≡ s → ⊥) → IsSeen us s seen → IsSeen (us ++ b ∷ []) s seen
seen_other us b s None other k = λ u i q. elim (in_append u us (b ∷ []) i) [ inl j ↦ k u j q | inr (inl e) ↦ other (sym (ap (λ (z : Numbered). z.packet.source) e) ∙ q) | inr (inr j) ↦ absurd j ]
seen_other us b s (Some x) other k = (k.0, last_stays s us k.0 b other k.1, k.2, k.3)

-- the numbers from the first of these up to b
count_sum : (us : List Numbered) (b : Numbered) (missing : ℕ) → IsCount (us ++ b ∷ []) (Some b.number) missing → missing + suc (length us) + first_from b.number us ≡ suc b.number
count_sum [] b missing k = let n : b.number ≡ k.0 = cc k.1 in omega (arith, k.2, n)
count_sum (u ∷ us) b missing k = let n : b.number ≡ k.0 = cc k.1 in omega (arith, k.2, n, length-append us (b ∷ []))

seen_own : (us : List Numbered) (b : Numbered) (s missing timestamp : ℕ) → b.packet.source ≡ s → timestamp ≡ b.packet.timestamp → IsCount (us ++ b ∷ []) (Some b.number) missing
    → IsSeen (us ++ b ∷ []) s (Some (record { timestamp = timestamp; missing = missing }))
seen_own us b s missing timestamp q e k = (b, last_now s us b q, e, count_sum us b missing k)

-- ---- what b adds
-- `seen` tells the same of the source as the packet before b
new_same : (us : List Numbered) (b : Numbered) (seen : Option LastPacket) (timestamp : ℕ) → IsSeen us b.packet.source seen → is_new_since seen timestamp ≡ is_new (before_it us b) timestamp
new_same us b None timestamp k = ap (λ (o : Option Numbered). is_new o timestamp) (sym (none_is b.packet.source us k))
new_same us b (Some x) timestamp k = ap (is_after timestamp) k.2 ∙ ap (λ (o : Option Numbered). is_new o timestamp) (sym (last_is b.packet.source us k.0 k.1))

older_same : (us : List Numbered) (b : Numbered) (seen : Option LastPacket) (timestamp : ℕ) (bs : List TextBlock) → IsSeen us b.packet.source seen → older_since seen timestamp bs ≡ older_texts (before_it us b) timestamp bs
older_same us b seen timestamp [] k = refl
older_same us b seen timestamp (c ∷ cs) k = rw (new_same us b seen (back timestamp c.offset) k, older_same us b seen timestamp cs k) refl

texts_same : (us : List Numbered) (time number : ℕ) (p : TextPacket) (seen : Option LastPacket) → IsSeen us p.source seen → texts_since seen p ≡ adds_texts us (used_packet time number p)
texts_same us time number p seen k = ap (λ ts. ts ++ text_list p.primary) (older_same us (used_packet time number p) seen p.timestamp p.older k)

missing_same : (us : List Numbered) (b : Numbered) (seen : Option LastPacket) (missing : ℕ) → RisingNumbers us → ((u : Numbered) → In u us → u.number < b.number) → IsCount (us ++ b ∷ []) (Some b.number) missing
    → IsSeen us b.packet.source seen → missing - missing_then seen ≡ missing_before (has_number us) (first_number_of us b) (before_it us b) b
missing_same us b None m r f c k = none us r f c ∙ ap (λ (o : Option Numbered). missing_before (has_number us) (first_number_of us b) o b) (sym (none_is b.packet.source us k))
  where
    none : (us : List Numbered) → RisingNumbers us → ((u : Numbered) → In u us → u.number < b.number) → IsCount (us ++ b ∷ []) (Some b.number) m → m - 0 ≡ missing_between (has_number us) (first_number_of us b) b.number
    none [] r f c =
        let n : b.number ≡ c.0 = cc c.1 in
        let z : b.number - (b.number + 1) ≡ 0 = omega arith in
        rw z (omega (arith, c.2, n))
    none (u ∷ us) r f c =
        let n : b.number ≡ c.0 = cc c.1 in
        let a = missing_after [] u us b.number r f in
        omega (arith, c.2, n, a, length-append us (b ∷ []))
missing_same us b (Some x) m r f c k =
    behind ∙ ap (λ (o : Option Numbered). missing_before (has_number us) (first_number_of us b) o b) (sym (last_is b.packet.source us k.0 k.1))
  where
    first_is : (front : List Numbered) (a : Numbered) (back : List Numbered) (n : ℕ) → first_from n (front ++ a ∷ back) ≡ first_from a.number front
    first_is [] a back n = refl
    first_is (v ∷ front) a back n = refl

    behind : m - x.missing ≡ missing_between (has_number us) k.0.number b.number
    behind =
        let e = k.1.is in
        let a = missing_after k.1.front k.0 k.1.back b.number (subst RisingNumbers e r) (subst (λ (vs : List Numbered). (u : Numbered) → In u vs → u.number < b.number) e f) in
        let same : missing_between (has_number us) k.0.number b.number ≡ missing_between (has_number (k.1.front ++ k.0 ∷ k.1.back)) k.0.number b.number = ap (λ vs. missing_between (has_number vs) k.0.number b.number) e in
        let len : length us ≡ length k.1.front + suc (length k.1.back) = ap length e ∙ length-append k.1.front (k.0 ∷ k.1.back) in
        let first : first_from b.number us ≡ first_from k.0.number k.1.front = ap (first_from b.number) e ∙ first_is k.1.front k.0 k.1.back b.number in
        let sum = count_sum us b m c in
        let own = k.3 in
        omega (arith, a, same, len, first, sum, own)

markers_same : (us : List Numbered) (time number : ℕ) (p : TextPacket) (seen : Option LastPacket) (m : ℕ) → RisingNumbers us → ((u : Numbered) → In u us → u.number < number)
    → IsCount (us ++ used_packet time number p ∷ []) (Some number) m → IsSeen us p.source seen → is_marked_since seen m p.timestamp p.older ≡ adds_marker us (used_packet time number p)
markers_same us time number p seen m r f c k =
    let b : Numbered = used_packet time number p in
    rw (missing_same us (used_packet time number p) seen m r f c k, new_same us (used_packet time number p) seen (back p.timestamp (oldest_offset p.older)) k) refl

-- ---- places
prefix_map : (s : ℕ) (items : List ListedSource) → prefix_len (λ l. not (l.source == s)) items ≡ prefix_len (λ n. not (n == s)) (map (λ l. l.source) items)
prefix_map s [] = refl
prefix_map s (l ∷ items) = ap (λ n. cond (not (l.source == s)) (1 + n) 0) (prefix_map s items)

pub place_map : (s : ℕ) (items : List ListedSource) → position (λ l. l.source == s) items ≡ position (λ n. n == s) (map (λ l. l.source) items)
place_map s items = rw (prefix_map s items, length-map items (λ (l : ListedSource). l.source)) refl

-- the place of a source
pub record IsPlace (s : ℕ) (xs : List ℕ) (k : ℕ) : Type 0 where
  pub within : k < length xs
  pub is : get_or xs k 0 ≡ s

place_some : (s : ℕ) (xs : List ℕ) (k : ℕ) → position (λ n. n == s) xs ≡ Some k → IsPlace s xs k
place_some s xs k e = go (nat_lt (position_or_len (λ n. n == s) xs) (length xs)) refl e
  where
    go : (b : Bool) → nat_lt (position_or_len (λ n. n == s) xs) (length xs) ≡ b → cond b (Some (position_or_len (λ n. n == s) xs)) None ≡ Some k → IsPlace s xs k
    go true t q =
        let l = ltb-true (position_or_len (λ n. n == s) xs) (length xs) t in
        let same : position_or_len (λ n. n == s) xs ≡ k = cc q in
        subst (IsPlace s xs) same (record { within = l; is = eqb-true (get_or xs (position_or_len (λ n. n == s) xs) 0) s (passes_at_first (λ n. n == s) xs 0 l) })
    go false t q = cc q

pub place_none : (s : ℕ) (xs : List ℕ) (k : ℕ) → position (λ n. n == s) xs ≡ None → k < length xs → get_or xs k 0 ≡ s → ⊥
place_none s xs k e l q = go (nat_lt (position_or_len (λ n. n == s) xs) (length xs)) refl e
  where
    go : (b : Bool) → nat_lt (position_or_len (λ n. n == s) xs) (length xs) ≡ b → cond b (Some (position_or_len (λ n. n == s) xs)) None ≡ None → ⊥
    go true t w = cc w
    go false t w =
        let g = ltb-false (position_or_len (λ n. n == s) xs) (length xs) t in
        true≢false (sym (eq-eqb (get_or xs k 0) s q) ∙ fails_before_first (λ n. n == s) xs k 0 (omega arith))

-- where all differ, the source at k has the place k
place_at : (s : ℕ) (xs : List ℕ) (k : ℕ) → AllPairs (λ a b. a ≢ b) xs → k < length xs → get_or xs k 0 ≡ s → position (λ n. n == s) xs ≡ Some k
place_at s xs k d l q =
    let p = position_or_len_is (λ n. n == s) xs k 0 (omega arith) (λ j m. ne_eqb (get_or xs j 0) s (λ e. d j k 0 m l (e ∙ sym q))) (λ _. eq-eqb (get_or xs k 0) s q) in
    rw (p, lt-ltb k (length xs) l) refl

-- ---- seats
in_at : (items : List ListedSource) (k : ℕ) (l : ListedSource) → k < length items → l ≡ get_or items k l → In l items
in_at [] k l m e = absurd (omega arith)
in_at (x ∷ items) zero l m e = inl e
in_at (x ∷ items) (suc k) l m e = inr (in_at items k l (omega arith) e)

source_at : (items : List ListedSource) (k : ℕ) (l : ListedSource) → k < length items → l ≡ get_or items k l → get_or (map (λ (x : ListedSource). x.source) items) k 0 ≡ l.source
source_at [] k l m e = absurd (omega arith)
source_at (x ∷ items) zero l m e = ap (λ (y : ListedSource). y.source) (sym e)
source_at (x ∷ items) (suc k) l m e = source_at items k l (omega arith) e

place_in : (items : List ListedSource) (l : ListedSource) → In l items → (k : ℕ) × (k < length items) × (get_or (map (λ (x : ListedSource). x.source) items) k 0 ≡ l.source)
place_in [] l i = absurd i
place_in (x ∷ items) l (inl e) = (0, omega arith, ap (λ (y : ListedSource). y.source) (sym e))
place_in (x ∷ items) l (inr i) = let r = place_in items l i in (suc r.0, omega (arith, r.1), r.2)

-- what stands in a list after a write at k
in_set : (items : List ListedSource) (k : ℕ) (x l : ListedSource) → In l (set items k x)
    → (l ≡ x) ⊎ (In l items × ((j : ℕ) × (j < length items) × (j ≢ k) × (get_or (map (λ (y : ListedSource). y.source) items) j 0 ≡ l.source)))
in_set [] k x l i = absurd i
in_set (y ∷ items) zero x l (inl e) = inl e
in_set (y ∷ items) zero x l (inr i) = let r = place_in items l i in inr (inr i, (suc r.0, omega (arith, r.1), (λ e. omega (arith, e)), r.2))
in_set (y ∷ items) (suc k) x l (inl e) = inr (inl e, (0, omega arith, (λ q. omega (arith, q)), ap (λ (z : ListedSource). z.source) (sym e)))
in_set (y ∷ items) (suc k) x l (inr i) = elim (in_set items k x l i) [
  | inl e ↦ inl e
  | inr r ↦ inr (inr r.0, (suc r.1.0, omega (arith, r.1.1), (λ e. r.1.2 (omega (arith, e))), r.1.3))
]

sources_set : (items : List ListedSource) (k : ℕ) (x l : ListedSource) → l ≡ get_or items k l → x.source ≡ l.source → map (λ (y : ListedSource). y.source) (set items k x) ≡ map (λ (y : ListedSource). y.source) items
sources_set [] k x l e s = refl
sources_set (y ∷ items) zero x l e s = ap (λ n. n ∷ map (λ (z : ListedSource). z.source) items) (s ∙ ap (λ (z : ListedSource). z.source) e)
sources_set (y ∷ items) (suc k) x l e s = ap (λ ns. y.source ∷ ns) (sources_set items k x l e s)

-- ---- texts of one place
-- these texts, where they are those of the source at the place k
abbrev pub when_at : ℕ → Option ℕ → List (List ℕ) → List (List ℕ)
when_at k None texts = []
when_at k (Some place) texts = if place == k then texts else []

-- ---- markers
abbrev pub marker_at : ℕ → Option ℕ → Bool → ℕ
marker_at i None m = 0
marker_at i (Some place) m = one_if ((place == i) && m)

pub markers_more : (before us : List Numbered) (u : Numbered) (s : ℕ) → markers_from before (us ++ u ∷ []) s ≡ markers_from before us s + one_if (is_packet_of s u && adds_marker (before ++ us) u)
markers_more before [] u s = rw (append-nil before) (omega arith)
markers_more before (v ∷ us) u s =
    let more = markers_more (before ++ v ∷ []) us u s in
    let same : one_if (is_packet_of s u && adds_marker ((before ++ v ∷ []) ++ us) u) ≡ one_if (is_packet_of s u && adds_marker (before ++ v ∷ us) u) =
    ap (λ (l : List Numbered). one_if (is_packet_of s u && adds_marker l u)) (append_assoc before (v ∷ []) us) in
    omega (arith, more, same)

-- ---- the whole step
-- the number is counted
pub record IsCounted (r next : Receiver) (number : ℕ) : Type 0 where
  pub listed : next.listed ≡ r.listed
  pub latest : next.latest ≡ Some number
  pub missing : next.missing ≡ missing_up_to r number

pub counted : (r next : Receiver) (sources : List ℕ) (us : List Numbered) (number : ℕ) → Stands r sources us → ForSome r.latest (λ l. l < number) → number ≤ 18446744073709551615
    → next.listed ≡ r.listed → next.latest ≡ Some number → (missing_up_to r number ≤ 18446744073709551615 → next.missing ≡ missing_up_to r number) → IsCounted r next number
counted r next sources us number s f n l a m = record { listed = l; latest = a; missing = m (omega (arith, count_fits us r.latest r.missing number s.count f)) }

module _ (r next : Receiver) (sources : List ℕ) (us : List Numbered) (time number : ℕ) (p : TextPacket) (s : Stands r sources us) (f : ForSome r.latest (λ l. l < number)) (k : IsCounted r next number) where
  above : (u : Numbered) → In u us → u.number < number
  above = above_all us r.latest r.missing number s.count f

  count : IsCount (us ++ used_packet time number p ∷ []) (Some number) next.missing
  count = subst (IsCount (us ++ used_packet time number p ∷ []) (Some number)) (sym k.missing) (count_next us r.latest r.missing number (used_packet time number p) refl s.count f)

  rising : RisingNumbers (us ++ used_packet time number p ∷ [])
  rising = rising_next us (used_packet time number p) s.rising above

  pub stands_unlisted : position (λ n. n == p.source) sources ≡ None → Stands next sources (us ++ used_packet time number p ∷ [])
  stands_unlisted none = record {
    listed = ap (λ v. map (λ (l : ListedSource). l.source) v.items) k.listed ∙ s.listed;
    few = s.few;
    differ = s.differ;
    rising = rising;
    count = subst (λ o. IsCount (us ++ used_packet time number p ∷ []) o next.missing) (sym k.latest) count;
    seen = λ l i.
        let j : In l r.listed.items = subst (λ v. In l v.items) k.listed i in
        let at = place_in r.listed.items l j in
        let same : get_or sources at.0 0 ≡ l.source = sym (ap (λ xs. get_or xs at.0 0) s.listed) ∙ at.2 in
        let n : length sources ≡ length r.listed.items = sym (ap length s.listed) ∙ length-map r.listed.items (λ (l : ListedSource). l.source) in
        seen_other us (used_packet time number p) l.source l.seen (λ q. place_none p.source sources at.0 none (omega (arith, at.1, n)) (same ∙ sym q)) (s.seen l j);
  }

  pub no_place : position (λ x. x.source == p.source) next.listed.items ≡ None → position (λ n. n == p.source) sources ≡ None
  no_place e = ap (position (λ n. n == p.source)) (sym s.listed) ∙ (sym (place_map p.source r.listed.items) ∙ (ap (λ v. position (λ (x : ListedSource). x.source == p.source) v.items) (sym k.listed) ∙ e))

  -- what is kept at the place of the packet's source
  pub record IsSeat (place : ℕ) (l : ListedSource) : Type 0 where
    pub position_is : position (λ n. n == p.source) sources ≡ Some place
    pub within : place < length r.listed.items
    pub small : place < 64
    pub is_in : In l r.listed.items
    pub at : l ≡ get_or r.listed.items place l
    pub own : l.source ≡ p.source

  pub seat : (place : ℕ) (l : ListedSource) → position (λ x. x.source == p.source) next.listed.items ≡ Some place → l ≡ get_or next.listed.items place l → IsSeat place l
  seat place l e at =
      let q : position (λ n. n == p.source) sources ≡ Some place =
      ap (position (λ n. n == p.source)) (sym s.listed) ∙ (sym (place_map p.source r.listed.items) ∙ (ap (λ v. position (λ (x : ListedSource). x.source == p.source) v.items) (sym k.listed) ∙ e)) in
      let w = place_some p.source sources place q in
      let n : length sources ≡ length r.listed.items = sym (ap length s.listed) ∙ length-map r.listed.items (λ (l : ListedSource). l.source) in
      let here : l ≡ get_or r.listed.items place l = at ∙ ap (λ v. get_or v.items place l) k.listed in
      let inside : place < length r.listed.items = omega (arith, w.within, n) in
      record {
        position_is = q;
        within = inside;
        small = omega (arith, w.within, s.few);
        is_in = in_at r.listed.items place l inside here;
        at = here;
        own = sym (source_at r.listed.items place l inside here) ∙ (ap (λ xs. get_or xs place 0) s.listed ∙ w.is);
      }

  pub seen_there : (place : ℕ) (l : ListedSource) → IsSeat place l → IsSeen us p.source l.seen
  seen_there place l t = subst (λ (n : ℕ). IsSeen us n l.seen) t.own (s.seen l t.is_in)

  pub stands_listed : (place : ℕ) (l x : ListedSource) (last : Receiver) → IsSeat place l → last.listed.items ≡ set next.listed.items place x → x.source ≡ l.source
      → x.seen ≡ Some (record { timestamp = p.timestamp; missing = next.missing }) → last.latest ≡ next.latest → last.missing ≡ next.missing → Stands last sources (us ++ used_packet time number p ∷ [])
  stands_listed place l x last t e q n a m = record {
    listed = ap (map (λ (y : ListedSource). y.source)) items ∙ (sources_set r.listed.items place x l t.at q ∙ s.listed);
    few = s.few;
    differ = s.differ;
    rising = rising;
    count = subst (λ o. IsCount (us ++ used_packet time number p ∷ []) o last.missing) (sym (a ∙ k.latest)) (subst (IsCount (us ++ used_packet time number p ∷ []) (Some number)) (sym m) count);
    seen = λ y i. elim (in_set r.listed.items place x y (subst (λ (ys : List ListedSource). In y ys) items i)) [
      | inl w ↦ subst (λ (z : ListedSource). IsSeen (us ++ used_packet time number p ∷ []) z.source z.seen) (sym w)
          (subst (IsSeen (us ++ used_packet time number p ∷ []) x.source) (sym n) (seen_own us (used_packet time number p) x.source next.missing p.timestamp (sym (q ∙ t.own)) refl count))
      | inr w ↦
          let n2 : length sources ≡ length r.listed.items = sym (ap length s.listed) ∙ length-map r.listed.items (λ (l : ListedSource). l.source) in
          let there = place_some p.source sources place t.position_is in
          let here : get_or sources w.1.0 0 ≡ y.source = sym (ap (λ xs. get_or xs w.1.0 0) s.listed) ∙ w.1.3 in
          seen_other us (used_packet time number p) y.source y.seen (λ z. apart w.1.0 place (omega (arith, w.1.1, n2)) there.within w.1.2 (here ∙ (sym z ∙ sym there.is))) (s.seen y w.0)
    ];
  }
    where
      items : last.listed.items ≡ set r.listed.items place x
      items = e ∙ ap (λ v. set v.items place x) k.listed

      apart : (i j : ℕ) → i < length sources → j < length sources → i ≢ j → get_or sources i 0 ≡ get_or sources j 0 → ⊥
      apart i j li lj ne z = elim (cases_lt i j) [ inl lt ↦ s.differ i j 0 lt lj z | inr ge ↦ s.differ j i 0 (omega (arith, ne)) li (sym z) ]

  pub markers : (place : ℕ) (l : ListedSource) → IsSeat place l → is_marked_since l.seen next.missing p.timestamp p.older ≡ adds_marker us (used_packet time number p)
  markers place l t = markers_same us time number p l.seen next.missing s.rising above count (seen_there place l t)

  pub texts_there : (place : ℕ) (l : ListedSource) → IsSeat place l → texts_since l.seen p ≡ adds_texts us (used_packet time number p)
  texts_there place l t = texts_same us time number p l.seen (seen_there place l t)

  -- what was given is what the packet adds
  pub heard_at : (i : ℕ) (place : Option ℕ) (m : Bool) (texts : List (List ℕ)) → i < length sources → place ≡ position (λ n. n == p.source) sources
      → ((j : ℕ) → place ≡ Some j → (m ≡ adds_marker us (used_packet time number p)) × (texts ≡ adds_texts us (used_packet time number p)))
      → heard_by (us ++ used_packet time number p ∷ []) (get_or sources i 0) ≡ heard_by us (get_or sources i 0) ++ when_at i place ((if m then marker ∷ [] else []) ++ texts)
  heard_at i place m texts l e g =
      heard_by_more us (used_packet time number p) (get_or sources i 0) above ∙ ap (λ ts. heard_by us (get_or sources i 0) ++ ts) (elim (cases_eq p.source (get_or sources i 0)) [
        | inl q ↦
            let here : place ≡ Some i = e ∙ place_at p.source sources i s.differ l (sym q) in
            let t = g i here in
            rw (eq-eqb p.source (get_or sources i 0) q, here, eq-eqb i i refl, t.0, t.1) refl
        | inr ne ↦ rw (ne_eqb p.source (get_or sources i 0) ne) (sym (elsewhere ne place e))
      ])
    where
      not_here : (j : ℕ) → Some j ≡ position (λ n. n == p.source) sources → (p.source ≡ get_or sources i 0 → ⊥) → j ≡ i → ⊥
      not_here j q ne w = ne (sym (place_some p.source sources j (sym q)).is ∙ ap (λ n. get_or sources n 0) w)

      elsewhere : (p.source ≡ get_or sources i 0 → ⊥) → (o : Option ℕ) → o ≡ position (λ n. n == p.source) sources → when_at i o ((if m then marker ∷ [] else []) ++ texts) ≡ []
      elsewhere ne None q = refl
      elsewhere ne (Some j) q = rw (ne_eqb j i (not_here j q ne)) refl

  -- what was heard of a source, and what the packet adds to it
  pub each_one : (old new : SourceText) (i : ℕ) (place : Option ℕ) (m : Bool) (texts : List (List ℕ)) → i < length sources → place ≡ position (λ n. n == p.source) sources
      → ((j : ℕ) → place ≡ Some j → (m ≡ adds_marker us (used_packet time number p)) × (texts ≡ adds_texts us (used_packet time number p)))
      → IsHeardOf (get_or sources i 0) us old → new.text ≡ old.text ++ concat (when_at i place ((if m then marker ∷ [] else []) ++ texts)) → new.markers ≡ old.markers + marker_at i place m
      → IsHeardOf (get_or sources i 0) (us ++ used_packet time number p ∷ []) new
  each_one old new i place m texts l e g h t n = record {
    text = t ∙ (ap (λ (o : List ℕ). o ++ concat (when_at i place ((if m then marker ∷ [] else []) ++ texts))) h.text
        ∙ (sym (concat-append (heard_by us (get_or sources i 0)) (when_at i place ((if m then marker ∷ [] else []) ++ texts))) ∙ ap concat (sym (heard_at i place m texts l e g))));
    markers = n ∙ (ap (λ (k : ℕ). k + marker_at i place m) h.markers ∙ (ap (λ (k : ℕ). markers_by us (get_or sources i 0) + k) once ∙ sym (markers_more [] us (used_packet time number p) (get_or sources i 0))));
  }
    where
      none_there : (p.source ≡ get_or sources i 0 → ⊥) → (o : Option ℕ) → o ≡ position (λ n. n == p.source) sources → marker_at i o m ≡ 0
      none_there ne None q = refl
      none_there ne (Some j) q = rw (ne_eqb j i (λ w. ne (sym (place_some p.source sources j (sym q)).is ∙ ap (λ n. get_or sources n 0) w))) refl

      once : marker_at i place m ≡ one_if (is_packet_of (get_or sources i 0) (used_packet time number p) && adds_marker us (used_packet time number p))
      once = elim (cases_eq p.source (get_or sources i 0)) [
        | inl q ↦
            let here : place ≡ Some i = e ∙ place_at p.source sources i s.differ l (sym q) in
            rw (eq-eqb p.source (get_or sources i 0) q, here, eq-eqb i i refl, (g i here).0) refl
        | inr ne ↦ rw (ne_eqb p.source (get_or sources i 0) ne) (none_there ne place e)
      ]

  -- of a packet of no listed source
  pub each_unlisted : (texts : List SourceText) → position (λ n. n == p.source) sources ≡ None → AreHeard sources us texts → AreHeard sources (us ++ used_packet time number p ∷ []) texts
  each_unlisted texts none are i d l =
      let t = get_or texts i d in
      each_one t t i None false [] l (sym none) (λ j q. cc q) (are i d l) (sym (append-nil t.text)) (omega arith)

  -- of a packet of a listed source, whose text is told more
  pub each_listed : (texts : List SourceText) (place : ℕ) (l : ListedSource) (x told : SourceText) → IsSeat place l → length texts ≡ length r.listed.items → x ≡ get_or texts place x → AreHeard sources us texts
      → told.text ≡ x.text ++ concat (told_since l.seen next.missing p) → told.markers ≡ x.markers + one_if (is_marked_since l.seen next.missing p.timestamp p.older)
      → AreHeard sources (us ++ used_packet time number p ∷ []) (set texts place told)
  each_listed texts place l x told t n at are text marker_is i d below = elim (cases_eq place i) [ inl q ↦ here q | inr ne ↦ there ne ]
    where
      m : Bool
      m = is_marked_since l.seen next.missing p.timestamp p.older

      within : place < length texts
      within = omega (arith, t.within, n)

      tells : (j : ℕ) → Some place ≡ Some j → (m ≡ adds_marker us (used_packet time number p)) × (texts_since l.seen p ≡ adds_texts us (used_packet time number p))
      tells j q = (markers place l t, texts_there place l t)

      old_is : get_or texts place d ≡ x
      old_is = at_read texts (λ (y : SourceText). y ≡ x) place x within at refl d

      here : place ≡ i → IsHeardOf (get_or sources i 0) (us ++ used_packet time number p ∷ []) (get_or (set texts place told) i d)
      here q =
          let was : get_or texts i d ≡ x = ap (λ (k : ℕ). get_or texts k d) (sym q) ∙ old_is in
          let is : told ≡ get_or (set texts place told) i d = sym (get_or-set_same texts place told d within) ∙ ap (λ (k : ℕ). get_or (set texts place told) k d) q in
          subst (λ (y : SourceText). IsHeardOf (get_or sources i 0) (us ++ used_packet time number p ∷ []) y) is
          (each_one x told i (Some place) m (texts_since l.seen p) below (sym t.position_is) tells (subst (λ (y : SourceText). IsHeardOf (get_or sources i 0) us y) was (are i d below))
          (rw (eq-eqb place i q) text) (rw (eq-eqb place i q) marker_is))

      there : (place ≡ i → ⊥) → IsHeardOf (get_or sources i 0) (us ++ used_packet time number p ∷ []) (get_or (set texts place told) i d)
      there ne =
          let o = get_or texts i d in
          subst (λ (y : SourceText). IsHeardOf (get_or sources i 0) (us ++ used_packet time number p ∷ []) y) (sym (get_or-set_other texts place i told d (λ e. ne (sym e))))
          (each_one o o i (Some place) m (texts_since l.seen p) below (sym t.position_is) tells (are i d below) (rw (ne_eqb place i ne) (sym (append-nil o.text))) (rw (ne_eqb place i ne) (omega arith)))

-- The history of what was sent, newest first: it is lawful and own, and the packet of its last entry.
use Rattle.std.proofs.Common.{◌≡◌, ℕ, zero, suc, ◌+◌, ◌-◌, ◌*◌, ◌^◌, ◌<◌, ◌≤◌, Bool, true, false, cond, ◌⊎◌, inl, inr, Option, Some, None, List, [], ◌∷◌, ◌++◌, length, length-append, length-drop, take, drop, refl, ap, subst, sym, ◌∙◌, arith}
use Rattle.std.specs.Prelude.{◌==◌, ◌||◌, filter, map, min, max, if◌then◌else◌}
use Rattle.std.specs.List.{list_any, concat}
use Rattle.std.proofs.lemmas.Bool.{cases_lt, eqb-true, or_left, or_right}
use Rattle.std.proofs.lemmas.List.{append-nil, drop-append-le}
use Rattle.std.proofs.lemmas.List.Elements.{filter-append}
use Rattle.std.proofs.lemmas.List.Folds.{list_any-append}
use Rattle.std.proofs.Math.Bool.{or_comm}
use Rattle.std.proofs.Math.Seq.{drop-append_seam, drop-length}
use Rattle.wire_spec.specs.Packets.{has_text}
use Rattle.stream_spec.specs.Lists.{In}
use Rattle.stream_spec.specs.Hearing.{oldest_offset}
use Rattle.stream_spec.specs.History.{History, Entry, Placed, entry_count, placed, low, before, window, nones, slots, Lawful, octets, texts_of}
use Rattle.stream_spec.specs.Kept.{is_entry_of}
use Rattle.stream_spec.specs.Own.{Own, block_of, own_packet, Sent, Stream, sent_of, nth, repeat_of, repeats, has_text_in, entry_after, entries_sent, sent_history, packet_after, MaySend, Sendable}
use Rattle.stream_spec.proofs.Lists.{in_left, in_right, in_append}
use Rattle.stream_spec.proofs.Places.{same_place_after}
use Rattle.stream_spec.proofs.Grows.{grown, last, own, placed_grown, window_grown, before_last, window_last, index_under, split, Follows, lawful_grown}
use Rattle.stream_spec.proofs.Blocks.{in_window, window_in}
use Rattle.rtt_base.specs.declared.limits.TheConstants.{MOST_PACKET_OCTETS, MOST_TEXT_OCTETS}

-- ---- the placed entries of a source, oldest first, beside what was sent of it, newest first
pub record Same (p : Placed) (z : Sent) : Type 0 where
  pub text : p.text ≡ z.text
  pub media : p.media ≡ z.media

abbrev pub Mirrors : List Placed → List Sent → Type 0
Mirrors ps [] = ps ≡ []
Mirrors ps (z ∷ zs) = (front : List Placed) × (p : Placed) × (ps ≡ front ++ p ∷ []) × Same p z × Mirrors front zs

length_mirror : (ps : List Placed) (zs : List Sent) → Mirrors ps zs → length ps ≡ length zs
length_mirror ps [] m = ap length m
length_mirror ps (z ∷ zs) m = let r = length_mirror m.0 zs m.4 in omega (arith, ap length m.2, length-append m.0 (m.1 ∷ []))

abbrev pub the_last : Stream → List Sent → Sent → Placed
the_last c past e = last (sent_history c past) (entry_after c.generations past e)

-- what was sent of a source mirrors its entries
pub mirrors : (c : Stream) (s : ℕ) (past : List Sent) → Mirrors (own (sent_history c past) s) (sent_of s past)
mirrors c s [] = refl
mirrors c s (e ∷ past) = subst (λ (ps : List Placed). Mirrors ps (sent_of s (e ∷ past))) (sym grows) (go (e.source == s) (mirrors c s past))
  where
    grows : own (sent_history c (e ∷ past)) s ≡ own (sent_history c past) s ++ (if e.source == s then the_last c past e ∷ [] else [])
    grows = ap (filter (is_entry_of s)) (placed_grown (sent_history c past) (entry_after c.generations past e)) ∙ filter-append (is_entry_of s) (placed (sent_history c past)) (the_last c past e ∷ [])

    go : (b : Bool) → Mirrors (own (sent_history c past) s) (sent_of s past) → Mirrors (own (sent_history c past) s ++ cond b (the_last c past e ∷ []) []) (cond b (e ∷ sent_of s past) (sent_of s past))
    go true m = (own (sent_history c past) s, the_last c past e, refl, record { text = refl; media = refl }, m)
    go false m = subst (λ (ps : List Placed). Mirrors ps (sent_of s past)) (sym (append-nil (own (sent_history c past) s))) m

sent_append : (s : ℕ) (es : List Entry) (e : Entry) → entry_count s (es ++ e ∷ []) ≡ entry_count s es + (if e.source == s then 1 else 0)
sent_append s [] e = omega arith
sent_append s (f ∷ es) e = omega (arith, sent_append s es e)

pub sent_count : (g s : ℕ) (past : List Sent) → entry_count s (entries_sent g past) ≡ length (sent_of s past)
sent_count g s [] = refl
sent_count g s (e ∷ past) = let a = sent_append s (entries_sent g past) (entry_after g past e) in go (e.source == s) a (sent_count g s past)
  where
    go : (b : Bool) → entry_count s (entries_sent g past ++ entry_after g past e ∷ []) ≡ entry_count s (entries_sent g past) + (if b then 1 else 0) → entry_count s (entries_sent g past) ≡ length (sent_of s past)
        → entry_count s (entries_sent g past ++ entry_after g past e ∷ []) ≡ length (cond b (e ∷ sent_of s past) (sent_of s past))
    go true a r = omega arith
    go false a r = omega arith

pub length_sent : (g : ℕ) (past : List Sent) → length (entries_sent g past) ≡ length past
length_sent g [] = refl
length_sent g (e ∷ past) = omega (arith, length-append (entries_sent g past) (entry_after g past e ∷ []), length_sent g past)

-- ---- one by one from the end
pub record At (k : ℕ) (ps : List Placed) (zs : List Sent) : Type 0 where
  pub placed_one : Placed
  pub sent_one : Sent
  pub is : nth k zs ≡ Some sent_one
  pub drops : drop (length zs - suc k) ps ≡ placed_one ∷ drop (length zs - k) ps
  pub same : Same placed_one sent_one

at : (k : ℕ) (ps : List Placed) (zs : List Sent) → Mirrors ps zs → k < length zs → At k ps zs
at k ps [] m l = absurd (omega arith)
at zero ps (z ∷ zs) m l =
    let n : length m.0 ≡ length zs = length_mirror m.0 zs m.4 in
    let a : suc (length zs) - 1 ≡ length m.0 = omega arith in
    let b : suc (length zs) - 0 ≡ length (m.0 ++ m.1 ∷ []) = omega (arith, length-append m.0 (m.1 ∷ [])) in
    record {
      placed_one = m.1;
      sent_one = z;
      is = refl;
      drops = rw (m.2, a, b) (drop-append_seam m.0 (m.1 ∷ []) ∙ ap (λ xs. m.1 ∷ xs) (sym (drop-length (m.0 ++ m.1 ∷ []))));
      same = m.3;
    }
at (suc k) ps (z ∷ zs) m l =
    let r = at k m.0 zs m.4 (omega arith) in
    let n : length m.0 ≡ length zs = length_mirror m.0 zs m.4 in
    let a : suc (length zs) - suc (suc k) ≡ length zs - suc k = omega arith in
    let b : suc (length zs) - suc k ≡ length zs - k = omega arith in
    record {
      placed_one = r.placed_one;
      sent_one = r.sent_one;
      is = r.is;
      drops = rw (m.2, a, b) (drop-append-le (length zs - suc k) m.0 (m.1 ∷ []) (omega arith) ∙ (ap (λ xs. xs ++ m.1 ∷ []) r.drops ∙ ap (λ xs. r.placed_one ∷ xs) (sym (drop-append-le (length zs - k) m.0 (m.1 ∷ []) (omega arith)))));
      same = r.same;
    }

none_at : (k : ℕ) (zs : List Sent) → length zs ≤ k → nth k zs ≡ None
none_at k [] l = refl
none_at zero (z ∷ zs) l = absurd (omega arith)
none_at (suc k) (z ∷ zs) l = none_at k zs (omega arith)

block_same : (x y : Placed) (media : ℕ) (z : Sent) → x.media ≡ media → Same y z → block_of x (Some y) ≡ repeat_of media (Some z)
block_same x y media z m q = rw (m, q.text, q.media) refl

-- the blocks of the last entry
pub blocks_are : (g : ℕ) (x : Placed) (ps : List Placed) (zs : List Sent) → Mirrors ps zs → map (block_of x) (nones (g - length zs) ++ map Some (drop (length zs - g) ps)) ≡ repeats g x.media zs
blocks_are zero x ps zs m =
    let z : 0 - length zs ≡ 0 = omega arith in
    let n : length zs - 0 ≡ length ps = omega (arith, length_mirror ps zs m) in
    rw (z, n, drop-length ps) refl
blocks_are (suc g) x ps zs m = elim (cases_lt g (length zs)) [
  | inl lt ↦
      let a = at g ps zs m lt in
      let z : suc g - length zs ≡ 0 = omega arith in
      let z' : g - length zs ≡ 0 = omega arith in
      let r = blocks_are g x ps zs m in
      ap (λ k. map (block_of x) (nones k ++ map Some (drop (length zs - suc g) ps))) z
      ∙ (ap (λ ys. map (block_of x) (map Some ys)) a.drops
      ∙ (ap (λ b. b ∷ map (block_of x) (map Some (drop (length zs - g) ps))) (block_same x a.placed_one x.media a.sent_one refl a.same ∙ ap (repeat_of x.media) (sym a.is))
      ∙ ap (λ bs. repeat_of x.media (nth g zs) ∷ bs) (ap (λ k. map (block_of x) (nones k ++ map Some (drop (length zs - g) ps))) (sym z') ∙ r)))
  | inr ge ↦
      let z : suc g - length zs ≡ suc (g - length zs) = omega arith in
      let d : length zs - suc g ≡ length zs - g = omega arith in
      let r = blocks_are g x ps zs m in
      ap (λ k. map (block_of x) (nones k ++ map Some (drop (length zs - suc g) ps))) z
      ∙ (ap (λ k. block_of x None ∷ map (block_of x) (nones (g - length zs) ++ map Some (drop k ps))) d
      ∙ (ap (λ b. b ∷ map (block_of x) (nones (g - length zs) ++ map Some (drop (length zs - g) ps))) (ap (repeat_of x.media) (sym (none_at g zs ge)))
      ∙ ap (λ bs. repeat_of x.media (nth g zs) ∷ bs) r))
]

-- the texts of the last m
texts_are : (m : ℕ) (ps : List Placed) (zs : List Sent) → Mirrors ps zs → list_any (λ y. has_text y.text) (drop (length zs - m) ps) ≡ has_text_in m zs
texts_are m ps [] q = rw q (empty (0 - m) m)
  where
    empty : (k n : ℕ) → let none : List Placed = [] in list_any (λ (y : Placed). has_text y.text) (drop k none) ≡ has_text_in n []
    empty zero zero = refl
    empty zero (suc n) = refl
    empty (suc k) zero = refl
    empty (suc k) (suc n) = refl
texts_are zero ps (z ∷ zs) q = let n : suc (length zs) - 0 ≡ length ps = omega (arith, length_mirror ps (z ∷ zs) q) in rw (n, drop-length ps) refl
texts_are (suc m) ps (z ∷ zs) q =
    let r = texts_are m q.0 zs q.4 in
    let n : length q.0 ≡ length zs = length_mirror q.0 zs q.4 in
    let a : suc (length zs) - suc m ≡ length zs - m = omega arith in
    rw (q.2, a) (ap (list_any (λ (y : Placed). has_text y.text)) (drop-append-le (length zs - m) q.0 (q.1 ∷ []) (omega arith))
    ∙ (list_any-append (λ (y : Placed). has_text y.text) (drop (length zs - m) q.0) (q.1 ∷ [])
    ∙ (ap (λ b. b || (has_text q.1.text || false)) r ∙ (ap (λ t. has_text_in m zs || (has_text t || false)) q.3.text ∙ (ap (λ b. has_text_in m zs || b) (unit (has_text z.text)) ∙ or_comm (has_text_in m zs) (has_text z.text))))))
  where
    unit : (b : Bool) → (b || false) ≡ b
    unit true = refl
    unit false = refl

-- ---- the packet of the last entry
pub older_is : (c : Stream) (past : List Sent) (e : Sent) → map (block_of (the_last c past e)) (slots (sent_history c (e ∷ past)) (the_last c past e)) ≡ repeats c.generations e.media (sent_of e.source past)
older_is c past e =
    let n = sent_count c.generations e.source past in
    let w = window_last (sent_history c past) (entry_after c.generations past e) in
    ap (λ ys. map (block_of (the_last c past e)) (nones (c.generations - (the_last c past e).index) ++ map Some ys)) w
    ∙ (ap (λ k. map (block_of (the_last c past e)) (nones (c.generations - k) ++ map Some (drop (k - c.generations) (own (sent_history c past) e.source)))) n
    ∙ blocks_are c.generations (the_last c past e) (own (sent_history c past) e.source) (sent_of e.source past) (mirrors c e.source past))

pub last_packet : (c : Stream) (past : List Sent) (e : Sent) → own_packet (sent_history c (e ∷ past)) (the_last c past e) ≡ packet_after c past e
last_packet c past e =
    let n = sent_count c.generations e.source past in
    let m : ℕ = max 1 c.generations in
    let t : list_any (λ y. has_text y.text) (before (sent_history c (e ∷ past)) m (the_last c past e)) ≡ has_text_in m (sent_of e.source past) =
    ap (list_any (λ (y : Placed). has_text y.text)) (before_last (sent_history c past) (entry_after c.generations past e) m)
    ∙ (ap (λ k. list_any (λ (y : Placed). has_text y.text) (drop (k - m) (own (sent_history c past) e.source))) n
    ∙ texts_are m (own (sent_history c past) e.source) (sent_of e.source past) (mirrors c e.source past)) in
    rw (t, length_sent c.generations past, older_is c past e) refl

-- ---- own
pub own_grown : (c : Stream) (past : List Sent) (e : Sent) → Own c.generations (sent_history c past) → Own c.generations (sent_history c (e ∷ past))
own_grown c past e own = record {
  generations = λ x i. elim (split h f x i) [ inl j ↦ own.generations x j | inr q ↦ ap (λ (z : Placed). z.generations) q ];
  reach = λ x i. elim (split h f x i) [
    | inl j ↦ own.reach x j ∙ ap (λ ys. oldest_offset (map (block_of x) (nones (x.generations - x.index) ++ map Some ys))) (sym (window_grown h f x j))
    | inr q ↦ subst (λ (z : Placed). z.reach ≡ oldest_offset (own_packet (grown h f) z).older) (sym q) (ap oldest_offset (sym (older_is c past e)))
  ];
}
  where
    h : History
    h = sent_history c past

    f : Entry
    f = entry_after c.generations past e

pub sent_own : (c : Stream) (past : List Sent) → Own c.generations (sent_history c past)
sent_own c [] = record { generations = λ x i. absurd i; reach = λ x i. absurd i }
sent_own c (e ∷ past) = own_grown c past e (sent_own c past)

-- ---- lawful
-- the entry of the history was sent
pub record WasSent (past : List Sent) (x : Placed) : Type 0 where
  pub sent_one : Sent
  pub is_in : In sent_one past
  pub same : Same x sent_one
  pub source : x.source ≡ sent_one.source

pub was_sent : (c : Stream) (past : List Sent) (x : Placed) → In x (placed (sent_history c past)) → WasSent past x
was_sent c [] x i = absurd i
was_sent c (e ∷ past) x i = elim (split (sent_history c past) (entry_after c.generations past e) x i) [
  | inl j ↦ let r = was_sent c past x j in record { sent_one = r.sent_one; is_in = inr r.is_in; same = r.same; source = r.source }
  | inr q ↦ record {
    sent_one = e;
    is_in = inl refl;
    same = record { text = ap (λ (z : Placed). z.text) q; media = ap (λ (z : Placed). z.media) q };
    source = ap (λ (z : Placed). z.source) q;
  }
]

-- what stands among the last g placed ones was sent among the last g
mirror_in : (g : ℕ) (ps : List Placed) (zs : List Sent) (x : Placed) → Mirrors ps zs → In x (drop (length zs - g) ps) → (z : Sent) × In z (take g zs) × Same x z
mirror_in g ps [] x m i = absurd (subst (λ (xs : List Placed). In x xs) (ap (drop (0 - g)) m ∙ none (0 - g)) i)
  where
    none : (k : ℕ) → let empty : List Placed = [] in drop k empty ≡ []
    none zero = refl
    none (suc k) = refl
mirror_in zero ps (z ∷ zs) x m i =
    let n : suc (length zs) - 0 ≡ length ps = omega (arith, length_mirror ps (z ∷ zs) m) in
    absurd (subst (λ (xs : List Placed). In x xs) (ap (λ k. drop k ps) n ∙ drop-length ps) i)
mirror_in (suc g) ps (z ∷ zs) x m i =
    let n : length m.0 ≡ length zs = length_mirror m.0 zs m.4 in
    let a : suc (length zs) - suc g ≡ length zs - g = omega arith in
    let j : In x (drop (length zs - g) m.0 ++ m.1 ∷ []) = subst (λ (xs : List Placed). In x xs) (ap (λ k. drop k ps) a ∙ (ap (drop (length zs - g)) m.2 ∙ drop-append-le (length zs - g) m.0 (m.1 ∷ []) (omega arith))) i in
    elim (in_append x (drop (length zs - g) m.0) (m.1 ∷ []) j) [
      | inl k ↦ let r = mirror_in g m.0 zs x m.4 k in (r.0, inr r.1, r.2)
      | inr (inl q) ↦ (z, inl refl, subst (λ (p : Placed). Same p z) (sym q) m.3)
      | inr (inr k) ↦ absurd k
    ]

pub in_sent_of : (s : ℕ) (past : List Sent) (z : Sent) → In z (sent_of s past) → In z past × (z.source ≡ s)
in_sent_of s [] z i = absurd i
in_sent_of s (e ∷ past) z i = go (e.source == s) refl (in_sent_of s past z) i
  where
    go : (b : Bool) → (e.source == s) ≡ b → (In z (sent_of s past) → In z past × (z.source ≡ s)) → In z (cond b (e ∷ sent_of s past) (sent_of s past)) → In z (e ∷ past) × (z.source ≡ s)
    go true t f (inl q) = (inl q, ap (λ (x : Sent). x.source) q ∙ eqb-true e.source s t)
    go true t f (inr j) = let r = f j in (inr r.0, r.1)
    go false t f j = let r = f j in (inr r.0, r.1)

-- the k-th of these is among the first n
pub nth_in : (k n : ℕ) (zs : List Sent) (z : Sent) → nth k zs ≡ Some z → k < n → In z (take n zs)
nth_in k n [] z e l = cc e
nth_in k zero (y ∷ zs) z e l = absurd (omega arith)
nth_in zero (suc n) (y ∷ zs) z e l = inl (cc e)
nth_in (suc k) (suc n) (y ∷ zs) z e l = inr (nth_in k n zs z e (omega arith))

pub take_in : (n : ℕ) (zs : List Sent) (z : Sent) → In z (take n zs) → In z zs
take_in zero zs z i = absurd i
take_in (suc n) [] z i = absurd i
take_in (suc n) (y ∷ zs) z (inl q) = inl q
take_in (suc n) (y ∷ zs) z (inr i) = inr (take_in n zs z i)

-- the offset of a block that repeats what was sent, at most 16383 and at most the distance
offset_is : (media : ℕ) (z : Sent) → z.media ≤ media → (has_text z.text ≡ true → media ≤ z.media + 16383) → ((repeat_of media (Some z)).offset < 2 ^ 14) × ((repeat_of media (Some z)).offset + z.media ≤ media)
offset_is media z l f = go (has_text z.text) f
  where
    go : (b : Bool) → (b ≡ true → media ≤ z.media + 16383) → ((if b then media - z.media else min 16383 (media - z.media)) < 2 ^ 14) × ((if b then media - z.media else min 16383 (media - z.media)) + z.media ≤ media)
    go true g = let n = g refl in (omega arith, omega arith)
    go false g = (omega arith, omega arith)

texts_length : (n : ℕ) (ys : List Placed) → ((y : Placed) → In y ys → length y.text ≤ MOST_TEXT_OCTETS) → length ys ≤ n → length (concat (texts_of ys)) ≤ MOST_TEXT_OCTETS * n
texts_length n [] f l = omega arith
texts_length zero (y ∷ ys) f l = absurd (omega arith)
texts_length (suc n) (y ∷ ys) f l =
    let r = texts_length n ys (λ x i. f x (inr i)) (omega arith) in
    let a = f y (inl refl) in
    omega (arith, length-append y.text (concat (texts_of ys)))

pub may_follow : (c : Stream) (past : List Sent) (e : Sent) → c.generations ≤ 3 → ((z : Sent) → In z past → length z.text ≤ MOST_TEXT_OCTETS) → MaySend c past e → Follows (sent_history c past) (entry_after c.generations past e)
may_follow c past e small few m = record {
  later = λ x i. let w = was_sent c past x i in let l = m.later w.sent_one w.is_in in (omega (arith, w.same.media, l.0), omega (arith, w.same.media, l.1));
  own_later = λ x i s. let w = was_sent c past x i in let l = m.later w.sent_one w.is_in in
      let u = under x i s in
      (omega (arith, w.same.media, l.0), omega (arith, (sent_own c past).generations x i, u));
  near = λ x i s l t.
      let u = under x i s in
      let j : In x (window (grown h f) (last h f)) = window_has x i s l u in
      let r = among x j in
      omega (arith, r.2.media, m.near r.0 r.1 (sym (ap has_text r.2.text) ∙ t));
  generations = omega arith;
  reach = reach c.generations refl;
  reach_fits = λ l. fits c.generations refl l;
  text = m.text.1;
  repeated = λ x i s l. old x i;
  sized = sized;
}
  where
    old : (x : Placed) → In x (placed (sent_history c past)) → length x.text ≤ MOST_TEXT_OCTETS
    old x i = let w = was_sent c past x i in let n = few w.sent_one w.is_in in omega (arith, ap (λ (xs : List ℕ). length xs) w.same.text)

    h : History
    h = sent_history c past

    f : Entry
    f = entry_after c.generations past e

    zs : List Sent
    zs = sent_of e.source past

    under : (x : Placed) → In x (placed (sent_history c past)) → x.source ≡ e.source → x.index < entry_count e.source (entries_sent c.generations past)
    under x i s =
        let u = index_under [] (entries_sent c.generations past) x i in
        let empty : entry_count x.source [] ≡ 0 = refl in
        let same : entry_count x.source (entries_sent c.generations past) ≡ entry_count e.source (entries_sent c.generations past) = ap (λ n. entry_count n (entries_sent c.generations past)) s in
        omega arith

    window_has : (x : Placed) → In x (placed (sent_history c past)) → x.source ≡ e.source → low (the_last c past e) ≤ x.index → x.index < entry_count e.source (entries_sent c.generations past)
        → In x (window (sent_history c (e ∷ past)) (the_last c past e))
    window_has x i s l u = window_in (sent_history c (e ∷ past)) (the_last c past e) x
        (subst (λ (xs : List Placed). In x xs) (sym (placed_grown (sent_history c past) (entry_after c.generations past e))) (in_left x (placed (sent_history c past)) (the_last c past e ∷ []) i)) s l u

    -- what the last entry repeats
    repeated : window (sent_history c (e ∷ past)) (the_last c past e) ≡ drop (length (sent_of e.source past) - c.generations) (own (sent_history c past) e.source)
    repeated = window_last (sent_history c past) (entry_after c.generations past e) ∙ ap (λ k. drop (k - c.generations) (own (sent_history c past) e.source)) (sent_count c.generations e.source past)

    among : (x : Placed) → In x (window (sent_history c (e ∷ past)) (the_last c past e)) → (z : Sent) × In z (take c.generations (sent_of e.source past)) × Same x z
    among x i = mirror_in c.generations (own (sent_history c past) e.source) (sent_of e.source past) x (mirrors c e.source past) (subst (λ (xs : List Placed). In x xs) repeated i)

    -- the k-th of those before it
    one_offset : (k : ℕ) (z : Sent) → nth k (sent_of e.source past) ≡ Some z → k < c.generations
        → ((repeat_of e.media (Some z)).offset < 2 ^ 14) × ((repeat_of e.media (Some z)).offset + z.media ≤ e.media)
    one_offset k z q l =
        let i = nth_in k c.generations (sent_of e.source past) z q l in
        let b = m.later z (in_sent_of e.source past z (take_in c.generations (sent_of e.source past) z i)).0 in
        offset_is e.media z (omega (arith, b.0)) (λ t. m.near z i t)

    reach : (g : ℕ) → c.generations ≡ g → oldest_offset (repeats g e.media (sent_of e.source past)) < 2 ^ 14
    reach zero q = omega arith
    reach (suc k) q = go (nth k (sent_of e.source past)) refl
      where
        go : (o : Option Sent) → nth k (sent_of e.source past) ≡ o → (repeat_of e.media o).offset < 2 ^ 14
        go None t = omega arith
        go (Some z) t = (one_offset k z t (omega (arith, q))).0

    count : c.generations ≤ (the_last c past e).index → c.generations ≤ length (sent_of e.source past)
    count l = omega (arith, sent_count c.generations e.source past)

    fits : (g : ℕ) → c.generations ≡ g → c.generations ≤ (the_last c past e).index
        → ((c.generations ≡ 0) × ((the_last c past e).reach ≡ 0)) ⊎ ((y : Placed) × In y (window (sent_history c (e ∷ past)) (the_last c past e)) × ((the_last c past e).reach + y.media ≤ e.media))
    fits zero q l = inl (q, ap (λ g. oldest_offset (repeats g e.media (sent_of e.source past))) q)
    fits (suc k) q l =
        let n = count l in
        let a = at k (own (sent_history c past) e.source) (sent_of e.source past) (mirrors c e.source past) (omega (arith, q)) in
        let w = repeated ∙ (ap (λ g. drop (length (sent_of e.source past) - g) (own (sent_history c past) e.source)) q ∙ a.drops) in
        let r : (the_last c past e).reach ≡ (repeat_of e.media (Some a.sent_one)).offset =
        ap (λ g. oldest_offset (repeats g e.media (sent_of e.source past))) q ∙ ap (λ (o : Option Sent). (repeat_of e.media o).offset) a.is in
        let b = one_offset k a.sent_one a.is (omega (arith, q)) in
        inr (a.placed_one, subst (λ (xs : List Placed). In a.placed_one xs) (sym w) (inl refl), omega (arith, b.1, r, a.same.media))

    sized : octets (sent_history c (e ∷ past)) (the_last c past e) ≤ MOST_PACKET_OCTETS
    sized =
        let n : length (window (sent_history c (e ∷ past)) (the_last c past e)) ≤ c.generations =
        omega (arith, ap length repeated, length-drop (length (sent_of e.source past) - c.generations) (own (sent_history c past) e.source), length_mirror (own (sent_history c past) e.source) (sent_of e.source past) (mirrors c e.source past)) in
        let t = texts_length c.generations (window (sent_history c (e ∷ past)) (the_last c past e)) (λ y i. short y (split h f y (in_window (sent_history c (e ∷ past)) (the_last c past e) y i).0)) n in
        let p = m.text.0 in
        head (e.source == c.ssrc) (omega (arith, t, length-append (concat (texts_of (window (sent_history c (e ∷ past)) (the_last c past e)))) e.text))
      where
        short : (y : Placed) → In y (placed (sent_history c past)) ⊎ (y ≡ the_last c past e) → length y.text ≤ MOST_TEXT_OCTETS
        short y (inl j) = old y j
        short y (inr q) = subst (λ (z : Placed). length z.text ≤ MOST_TEXT_OCTETS) (sym q) m.text.0

        head : (b : Bool) → length (concat (texts_of (window (sent_history c (e ∷ past)) (the_last c past e))) ++ e.text) ≤ MOST_PACKET_OCTETS - 16 - (4 * c.generations + 1)
            → cond b 12 16 + (4 * c.generations + 1) + length (concat (texts_of (window (sent_history c (e ∷ past)) (the_last c past e))) ++ e.text) ≤ MOST_PACKET_OCTETS
        head true l = omega (arith, small)
        head false l = omega (arith, small)

-- where nothing was sent, all is lawful
pub none_lawful : (ssrc first base : ℕ) → Lawful (record { ssrc = ssrc; first = first; base = base; entries = [] })
none_lawful ssrc first base = record {
  orders = λ x y i j l. absurd i;
  spans = λ x y i j. absurd i;
  rises = λ x y i j q l. absurd i;
  low_rises = λ x y i j q l. absurd i;
  near = λ x y i j q l r t. absurd i;
  generations = λ x i. absurd i;
  reach = λ x i. absurd i;
  reach_fits = λ x i. absurd i;
  text = λ x i. absurd i;
  repeated = λ x y i j s l r. absurd i;
  sized = λ x i. absurd i;
}

-- what was sent is short
few_octets : (c : Stream) (past : List Sent) → Sendable c past → (z : Sent) → In z past → length z.text ≤ MOST_TEXT_OCTETS
few_octets c [] s z i = absurd i
few_octets c (y ∷ past) s z (inl q) = subst (λ (x : Sent). length x.text ≤ MOST_TEXT_OCTETS) (sym q) s.0.text.0
few_octets c (y ∷ past) s z (inr i) = few_octets c past s.1 z i

pub sent_lawful : (c : Stream) (past : List Sent) → c.generations ≤ 3 → Sendable c past → Lawful (sent_history c past)
sent_lawful c [] small s = none_lawful c.ssrc c.first c.base
sent_lawful c (e ∷ past) small s =
    let law = sent_lawful c past small s.1 in
    lawful_grown (sent_history c past) (entry_after c.generations past e) law (may_follow c past e small (few_octets c past s.1) s.0)

-- the last entry is the one at the last place
pub last_is_sent : (c : Stream) (past : List Sent) (e : Sent) (x : Placed) → In x (placed (sent_history c (e ∷ past))) → x.place ≡ length past
    → own_packet (sent_history c (e ∷ past)) x ≡ packet_after c past e
last_is_sent c past e x i q =
    let there : In (the_last c past e) (placed (sent_history c (e ∷ past))) =
    subst (λ (xs : List Placed). In (the_last c past e) xs) (sym (placed_grown (sent_history c past) (entry_after c.generations past e))) (in_right (the_last c past e) (placed (sent_history c past)) (the_last c past e ∷ []) (inl refl)) in
    let same : x ≡ the_last c past e = same_place_after [] (entries_sent c.generations (e ∷ past)) x (the_last c past e) i there (omega (arith, length_sent c.generations past)) in
    ap (own_packet (sent_history c (e ∷ past))) same ∙ last_packet c past e

pub text_in : (n : ℕ) (zs : List Sent) (z : Sent) → In z (take n zs) → has_text z.text ≡ true → has_text_in n zs ≡ true
text_in zero zs z i t = absurd i
text_in (suc n) [] z i t = absurd i
text_in (suc n) (y ∷ zs) z (inl q) t = or_left (has_text y.text) (has_text_in n zs) (sym (ap (λ (x : Sent). has_text x.text) q) ∙ t)
text_in (suc n) (y ∷ zs) z (inr i) t = or_right (has_text y.text) (has_text_in n zs) (text_in n zs z i t)

-- What several senders tell, one behind the other.
use Rattle.std.proofs.Common.{◌≡◌, ℕ, ◌+◌, ◌<◌, ◌≤◌, ◌⊎◌, inl, inr, List, [], ◌∷◌, ◌++◌, length, ap, subst, sym, ◌∙◌, arith, append_assoc}
use Rattle.std.specs.Prelude.{map}
use Rattle.std.proofs.lemmas.List.{map-append}
use Rattle.stream_spec.specs.Lists.{In}
use Rattle.stream_spec.specs.Hearing.{marker}
use Rattle.stream_spec.specs.History.{Placed}
use Rattle.stream_spec.specs.Kept.{Marker, Block, Rising, blocks_in, text_of, texts}
use Rattle.stream_spec.proofs.Blocks.{blocks_in_append, in_blocks_in, l2_rises, rising_append}
use Rattle.stream_spec.proofs.Lists.{in_append, in_left, in_right}
use Rattle.mixer_spec.proofs.TwoHops.{short_block}
use Rattle.mixer_spec.specs.Laws.{PartsAt}
use Rattle.mixer_spec.specs.Headline.{Hop, IsBlock, IsHop, hears, told, used}
use Rattle.mixer_spec.proofs.OneHop.{absent_lost, block_is, lost_absent, one_hop, places_of}
use Rattle.live_spec.specs.InTurn.{AreHops, HoldsOfOne, IsLostBlock, IsMarkedBlock, heard_in_turn, item_later, later, told_in_turn}
use Rattle.live_spec.proofs.Later.{in_later, later_append, later_in, rising_later, same_later, texts_later}
use Rattle.stream_spec.proofs.Plain.{place_to as place_below}
use Rattle.stream_spec.proofs.Places.{same_place_after}
use Rattle.mixer_spec.proofs.BothHops.{is_told}

-- ---- one hop
told_below : (p : Hop) → IsHop p → (k : Placed) → In (Block k) (told p) → k.place < length p.sent.entries
told_below p ip k i = let l = place_below [] p.sent.entries k (block_is p ip k i).sent in omega (arith, l)

told_rises : (p : Hop) → IsHop p → Rising (blocks_in (told p))
told_rises p ip = l2_rises p.sent (used p) p.source (places_of p ip)

-- ---- where they stand
pub turn_from : (n : ℕ) (before : List Hop) (last : Hop) (x : Placed) → In (Block x) (told_in_turn n before last) → n ≤ x.place
turn_from n [] last x i = let r = in_later n (told last) x i in let q : x.place ≡ n + r.0.place = ap (λ (z : Placed). z.place) r.1 in omega (arith, q)
turn_from n (p ∷ before) last x i = elim (in_append (Block x) (map (item_later n) (told p)) (Marker ∷ told_in_turn (n + length p.sent.entries) before last) i) [
  | inl j ↦ let r = in_later n (told p) x j in let q : x.place ≡ n + r.0.place = ap (λ (z : Placed). z.place) r.1 in omega (arith, q)
  | inr (inl e) ↦ absurd (cc e)
  | inr (inr j) ↦ let l = turn_from (n + length p.sent.entries) before last x j in omega (arith, l)
]

own_below : (n : ℕ) (p : Hop) → IsHop p → (x : Placed) → In (Block x) (map (item_later n) (told p)) → x.place < n + length p.sent.entries
own_below n p ip x i =
    let r = in_later n (told p) x i in
    let l = told_below p ip r.0 r.2 in
    let q : x.place ≡ n + r.0.place = ap (λ (z : Placed). z.place) r.1 in
    omega (arith, l, q)

pub turn_rises : (n : ℕ) (before : List Hop) (last : Hop) → AreHops before last → Rising (blocks_in (told_in_turn n before last))
turn_rises n [] last a = rising_later n (told last) (told_rises last a.last)
turn_rises n (p ∷ before) last a =
    let rest = told_in_turn (n + length p.sent.entries) before last in
    subst Rising (sym (blocks_in_append (map (item_later n) (told p)) (Marker ∷ rest)))
    (rising_append (blocks_in (map (item_later n) (told p))) (blocks_in rest) (rising_later n (told p) (told_rises p a.before.0))
    (turn_rises (n + length p.sent.entries) before last (record { before = a.before.1; last = a.last }))
    (λ x y i j.
    let l = own_below n p a.before.0 x (in_blocks_in x (map (item_later n) (told p)) i) in
    let m = turn_from (n + length p.sent.entries) before last y (in_blocks_in y rest j) in
    omega (arith, l, m)))

pub turn_texts : (n : ℕ) (before : List Hop) (last : Hop) → AreHops before last → texts (told_in_turn n before last) ≡ heard_in_turn before last
turn_texts n [] last a = texts_later n (told last) ∙ sym (one_hop last a.last).text
turn_texts n (p ∷ before) last a =
    let rest = told_in_turn (n + length p.sent.entries) before last in
    map-append text_of (map (item_later n) (told p)) (Marker ∷ rest)
    ∙ (ap (λ ts. ts ++ texts (Marker ∷ rest)) (texts_later n (told p) ∙ sym (one_hop p a.before.0).text)
    ∙ ap (λ ts. hears p ++ marker ∷ ts) (turn_texts (n + length p.sent.entries) before last (record { before = a.before.1; last = a.last })))

-- ---- of one of them
pub of_one : (P Q : Hop → Placed → Type 0) → ((p : Hop) → IsHop p → (k : Placed) → P p k → Q p k) → (n : ℕ) (before : List Hop) (last : Hop) (x : Placed) → AreHops before last
    → HoldsOfOne P n before last x → HoldsOfOne Q n before last x
of_one P Q f n [] last x a h = (h.0, h.1, f last a.last h.0 h.2)
of_one P Q f n (p ∷ before) last x a (inl h) = inl (h.0, h.1, f p a.before.0 h.0 h.2)
of_one P Q f n (p ∷ before) last x a (inr h) = inr (of_one P Q f (n + length p.sent.entries) before last x (record { before = a.before.1; last = a.last }) h)

abbrev pub IsToldBlock : Hop → Placed → Type 0
IsToldBlock p k = In (Block k) (told p)

pub turn_of : (n : ℕ) (before : List Hop) (last : Hop) (x : Placed) → In (Block x) (told_in_turn n before last) → HoldsOfOne IsToldBlock n before last x
turn_of n [] last x i = in_later n (told last) x i
turn_of n (p ∷ before) last x i = elim (in_append (Block x) (map (item_later n) (told p)) (Marker ∷ told_in_turn (n + length p.sent.entries) before last) i) [
  | inl j ↦ inl (in_later n (told p) x j)
  | inr (inl e) ↦ absurd (cc e)
  | inr (inr j) ↦ inr (turn_of (n + length p.sent.entries) before last x j)
]

pub turn_blocks : (n : ℕ) (before : List Hop) (last : Hop) (x : Placed) → AreHops before last → In (Block x) (told_in_turn n before last) → HoldsOfOne IsBlock n before last x
turn_blocks n before last x a i = of_one IsToldBlock IsBlock (λ p ip k j. block_is p ip k j) n before last x a (turn_of n before last x i)

-- each is at its place, and short
one_from : (n : ℕ) (before : List Hop) (last : Hop) (x : Placed) → HoldsOfOne IsBlock n before last x → n ≤ x.place
one_from n [] last x h = let q : x.place ≡ n + h.0.place = ap (λ (z : Placed). z.place) h.1 in omega (arith, q)
one_from n (p ∷ before) last x (inl h) = let q : x.place ≡ n + h.0.place = ap (λ (z : Placed). z.place) h.1 in omega (arith, q)
one_from n (p ∷ before) last x (inr h) = let l = one_from (n + length p.sent.entries) before last x h in omega (arith, l)

same_block : (n : ℕ) (p : Hop) (x y a b : Placed) → x ≡ later n a → y ≡ later n b → IsBlock p a → IsBlock p b → x.place ≡ y.place → x ≡ y
same_block n p x y a b e f u v q =
    let s : x.place ≡ n + a.place = ap (λ (z : Placed). z.place) e in
    let t : y.place ≡ n + b.place = ap (λ (z : Placed). z.place) f in
    e ∙ (ap (later n) (same_place_after [] p.sent.entries a b u.sent v.sent (omega (arith, s, t, q))) ∙ sym f)

pub turn_same : (n : ℕ) (before : List Hop) (last : Hop) (x y : Placed) → HoldsOfOne IsBlock n before last x → HoldsOfOne IsBlock n before last y → x.place ≡ y.place → x ≡ y
turn_same n [] last x y h k q = same_block n last x y h.0 k.0 h.1 k.1 h.2 k.2 q
turn_same n (p ∷ before) last x y h k q = go (λ u v. turn_same (n + length p.sent.entries) before last x y u v q) h k
  where
    -- one of p stands before those behind
    below : (z : Placed) → (a : Placed) × (z ≡ later n a) × IsBlock p a → z.place < n + length p.sent.entries
    below z g = let l = place_below [] p.sent.entries g.0 g.2.sent in let t : z.place ≡ n + g.0.place = ap (λ (w : Placed). w.place) g.1 in omega (arith, l, t)

    go : (HoldsOfOne IsBlock (n + length p.sent.entries) before last x → HoldsOfOne IsBlock (n + length p.sent.entries) before last y → x ≡ y)
        → HoldsOfOne IsBlock n (p ∷ before) last x → HoldsOfOne IsBlock n (p ∷ before) last y → x ≡ y
    go f (inl h) (inl k) = same_block n p x y h.0 k.0 h.1 k.1 h.2 k.2 q
    go f (inr h) (inr k) = f h k
    go f (inl h) (inr k) = let l = below x h in let m = one_from (n + length p.sent.entries) before last y k in absurd (omega (arith, l, m, q))
    go f (inr h) (inl k) = let l = below y k in let m = one_from (n + length p.sent.entries) before last x h in absurd (omega (arith, l, m, q))

one_fits : (n : ℕ) (p : Hop) → IsHop p → (x k : Placed) → x ≡ later n k → IsBlock p k → length x.text ≤ 8192
one_fits n p ip x k e b = let t = short_block p ip k b in let s : length x.text ≡ length k.text = ap (λ (z : Placed). length z.text) e in omega (arith, t, s)

pub turn_fits : (n : ℕ) (before : List Hop) (last : Hop) (x : Placed) → AreHops before last → HoldsOfOne IsBlock n before last x → length x.text ≤ 8192
turn_fits n [] last x a h = one_fits n last a.last x h.0 h.1 h.2
turn_fits n (p ∷ before) last x a (inl h) = one_fits n p a.before.0 x h.0 h.1 h.2
turn_fits n (p ∷ before) last x a (inr h) = turn_fits (n + length p.sent.entries) before last x (record { before = a.before.1; last = a.last }) h

-- ---- told or lost
one_told : (n : ℕ) (p : Hop) → IsHop p → (k : Placed) → IsBlock p k → In (Block (later n k)) (map (item_later n) (told p)) ⊎ IsLostBlock p k
one_told n p ip k b = elim (is_told p ip k b) [
  | inl i ↦ inl (later_in n (told p) k i)
  | inr z ↦ inr (record { block = b; lost = absent_lost p ip k b z })
]

pub turn_told : (n : ℕ) (before : List Hop) (last : Hop) (x : Placed) → AreHops before last → HoldsOfOne IsBlock n before last x
    → In (Block x) (told_in_turn n before last) ⊎ HoldsOfOne IsLostBlock n before last x
turn_told n [] last x a h = elim (one_told n last a.last h.0 h.2) [
  | inl i ↦ inl (subst (λ (y : Placed). In (Block y) (map (item_later n) (told last))) (sym h.1) i)
  | inr l ↦ inr (h.0, h.1, l)
]
turn_told n (p ∷ before) last x a (inl h) = elim (one_told n p a.before.0 h.0 h.2) [
  | inl i ↦ inl (in_left (Block x) (map (item_later n) (told p)) (Marker ∷ told_in_turn (n + length p.sent.entries) before last) (subst (λ (y : Placed). In (Block y) (map (item_later n) (told p))) (sym h.1) i))
  | inr l ↦ inr (inl (h.0, h.1, l))
]
turn_told n (p ∷ before) last x a (inr h) = elim (turn_told (n + length p.sent.entries) before last x (record { before = a.before.1; last = a.last }) h) [
  | inl i ↦ inl (in_right (Block x) (map (item_later n) (told p)) (Marker ∷ told_in_turn (n + length p.sent.entries) before last) (inr i))
  | inr l ↦ inr (inr l)
]

-- one that is lost is not told
one_lost : (n : ℕ) (p : Hop) → IsHop p → (x k : Placed) → x ≡ later n k → IsLostBlock p k → In (Block x) (map (item_later n) (told p)) → ⊥
one_lost n p ip x k e l i =
    let r = in_later n (told p) x i in
    lost_absent p ip k l.lost (subst (λ (y : Placed). In (Block y) (told p)) (same_later n r.0 k (sym r.1 ∙ e)) r.2)

lost_from : (n : ℕ) (before : List Hop) (last : Hop) (x : Placed) → HoldsOfOne IsLostBlock n before last x → n ≤ x.place
lost_from n [] last x h = let q : x.place ≡ n + h.0.place = ap (λ (z : Placed). z.place) h.1 in omega (arith, q)
lost_from n (p ∷ before) last x (inl h) = let q : x.place ≡ n + h.0.place = ap (λ (z : Placed). z.place) h.1 in omega (arith, q)
lost_from n (p ∷ before) last x (inr h) = let l = lost_from (n + length p.sent.entries) before last x h in omega (arith, l)

pub turn_lost : (n : ℕ) (before : List Hop) (last : Hop) (x : Placed) → AreHops before last → HoldsOfOne IsLostBlock n before last x → In (Block x) (told_in_turn n before last) → ⊥
turn_lost n [] last x a h i = one_lost n last a.last x h.0 h.1 h.2 i
turn_lost n (p ∷ before) last x a h i = go (turn_lost (n + length p.sent.entries) before last x (record { before = a.before.1; last = a.last })) h (in_append (Block x) (map (item_later n) (told p)) (Marker ∷ told_in_turn (n + length p.sent.entries) before last) i)
  where
    go : (HoldsOfOne IsLostBlock (n + length p.sent.entries) before last x → In (Block x) (told_in_turn (n + length p.sent.entries) before last) → ⊥)
        → HoldsOfOne IsLostBlock n (p ∷ before) last x → In (Block x) (map (item_later n) (told p)) ⊎ In (Block x) (Marker ∷ told_in_turn (n + length p.sent.entries) before last) → ⊥
    go f (inl h) (inl j) = one_lost n p a.before.0 x h.0 h.1 h.2 j
    go f (inr h) (inl j) = let l = own_below n p a.before.0 x j in let m = lost_from (n + length p.sent.entries) before last x h in omega (arith, l, m)
    go f h (inr (inl e)) = absurd (cc e)
    go f (inl h) (inr (inr j)) =
        let m = turn_from (n + length p.sent.entries) before last x j in
        let l = place_below [] p.sent.entries h.0 h.2.block.sent in
        let q : x.place ≡ n + h.0.place = ap (λ (z : Placed). z.place) h.1 in
        omega (arith, l, m, q)
    go f (inr h) (inr (inr j)) = f h j

-- ---- markers
one_marker : (n : ℕ) (p : Hop) (x k : Placed) → x ≡ later n k → PartsAt k (told p) → PartsAt x (map (item_later n) (told p))
one_marker n p x k e m = (
  map (item_later n) m.0,
  map (item_later n) m.1,
  ap (map (item_later n)) m.2 ∙ later_append n m.0 (Marker ∷ m.1),
  λ y i. let r = in_later n m.0 y i in let l = m.3 r.0 r.2 in let s : y.place ≡ n + r.0.place = ap (λ (z : Placed). z.place) r.1 in let q : x.place ≡ n + k.place = ap (λ (z : Placed). z.place) e in omega (arith, l, s, q),
  λ y i. let r = in_later n m.1 y i in let l = m.4 r.0 r.2 in let s : y.place ≡ n + r.0.place = ap (λ (z : Placed). z.place) r.1 in let q : x.place ≡ n + k.place = ap (λ (z : Placed). z.place) e in omega (arith, l, s, q),
)

pub turn_markers : (n : ℕ) (before : List Hop) (last : Hop) (x : Placed) → AreHops before last → HoldsOfOne IsMarkedBlock n before last x → PartsAt x (told_in_turn n before last)
turn_markers n [] last x a h = one_marker n last x h.0 h.1 h.2.parts
turn_markers n (p ∷ before) last x a (inl h) =
    let rest = told_in_turn (n + length p.sent.entries) before last in
    let m = one_marker n p x h.0 h.1 h.2.parts in
    let low = place_below [] p.sent.entries h.0 h.2.block.sent in
    let q : x.place ≡ n + h.0.place = ap (λ (z : Placed). z.place) h.1 in (
      m.0,
      m.1 ++ Marker ∷ rest,
      ap (λ ys. ys ++ Marker ∷ rest) m.2 ∙ append_assoc m.0 (Marker ∷ m.1) (Marker ∷ rest),
      m.3,
      λ y i. elim (in_append (Block y) m.1 (Marker ∷ rest) i) [
        | inl j ↦ m.4 y j
        | inr (inl e) ↦ absurd (cc e)
        | inr (inr j) ↦ let l = turn_from (n + length p.sent.entries) before last y j in omega (arith, l, low, q)
      ],
    )
turn_markers n (p ∷ before) last x a (inr h) =
    let own = map (item_later n) (told p) in
    let m = turn_markers (n + length p.sent.entries) before last x (record { before = a.before.1; last = a.last }) h in
    let low = marked_from (n + length p.sent.entries) before last x h in (
      own ++ Marker ∷ m.0,
      m.1,
      ap (λ ys. own ++ Marker ∷ ys) m.2 ∙ sym (append_assoc own (Marker ∷ m.0) (Marker ∷ m.1)),
      λ y i. elim (in_append (Block y) own (Marker ∷ m.0) i) [
        | inl j ↦ let l = own_below n p a.before.0 y j in omega (arith, l, low)
        | inr (inl e) ↦ absurd (cc e)
        | inr (inr j) ↦ m.3 y j
      ],
      m.4,
    )
  where
    marked_from : (n : ℕ) (before : List Hop) (last : Hop) (x : Placed) → HoldsOfOne IsMarkedBlock n before last x → n ≤ x.place
    marked_from n [] last x h = let q : x.place ≡ n + h.0.place = ap (λ (z : Placed). z.place) h.1 in omega (arith, q)
    marked_from n (p ∷ before) last x (inl h) = let q : x.place ≡ n + h.0.place = ap (λ (z : Placed). z.place) h.1 in omega (arith, q)
    marked_from n (p ∷ before) last x (inr h) = let l = marked_from (n + length p.sent.entries) before last x h in omega (arith, l)

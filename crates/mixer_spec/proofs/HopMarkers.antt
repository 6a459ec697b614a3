-- Where a block is lost on either hop, a marker stands.
use Rattle.std.proofs.Common.{◌≡◌, ℕ, ◌<◌, true, ◌⊎◌, inl, inr, List, [], ◌∷◌, ◌++◌, length, refl, ap, subst, sym, ◌∙◌, arith, append_assoc}
use Rattle.std.specs.Prelude.{◌==◌, map, drop}
use Rattle.std.specs.List.{concat}
use Rattle.std.proofs.lemmas.Bool.{cases_eq, eq-eqb, eqb-true, ne_eqb, and_parts}
use Rattle.wire_spec.specs.Packets.{has_text}
use Rattle.stream_spec.specs.Lists.{In}
use Rattle.stream_spec.specs.History.{History, Placed, placed}
use Rattle.stream_spec.specs.Kept.{Item, Marker, Block, texts, kept, blocks_in, ArePlaces, Rising, Parts, is_text_of}
use Rattle.stream_spec.specs.Carries.{Groups, Carries}
use Rattle.stream_spec.proofs.Lists.{in_left, in_right, in_append, in_filter}
use Rattle.stream_spec.proofs.Places.{place_rises}
use Rattle.stream_spec.proofs.Blocks.{blocks_in_append, l2_only, l2_rises, rising_filter, rising_placed_after}
use Rattle.mixer_spec.specs.Through.{front_group, after_group, group_of, replaced, text_entries, through}
use Rattle.mixer_spec.specs.Laws.{PartsAt}
use Rattle.mixer_spec.proofs.Through.{NoneEmpty, group_is, rest_is, split_items, none_left, none_right, entries_are, kept_none_empty, drop_in, drop_none_empty, drop_rises, first_group_of}
use Rattle.mixer_spec.proofs.HopOrder.{group_within, group_has, group_order, block_from, parts}
use Rattle.stream_spec.proofs.Gaps.{in_blocks as block_in}

-- ---- two cuts of one list
abbrev pub TwoCuts : List Item → Item → List Item → List Item → List Item → Type 0
TwoCuts us m vs g r = ((more : List Item) × (us ≡ g ++ more) × (more ++ m ∷ vs ≡ r)) ⊎ ((more : List Item) × (g ≡ us ++ m ∷ more) × (vs ≡ more ++ r))

head_same : (x y : Item) (xs ys : List Item) → x ∷ xs ≡ y ∷ ys → x ≡ y
head_same x y xs ys e = cc e

tail_same : (x y : Item) (xs ys : List Item) → x ∷ xs ≡ y ∷ ys → xs ≡ ys
tail_same x y xs ys e = cc e

pub two_cuts : (us : List Item) (m : Item) (vs g r : List Item) → us ++ m ∷ vs ≡ g ++ r → TwoCuts us m vs g r
two_cuts us m vs [] r e = inl (us, refl, e)
two_cuts [] m vs (y ∷ g) r e = inr (g, ap (λ x. x ∷ g) (sym (head_same m y vs (g ++ r) e)), tail_same m y vs (g ++ r) e)
two_cuts (x ∷ us) m vs (y ∷ g) r e =
    let h = head_same x y (us ++ m ∷ vs) (g ++ r) e in
    elim (two_cuts us m vs g r (tail_same x y (us ++ m ∷ vs) (g ++ r) e)) [
      | inl c ↦ inl (c.0, ap (λ xs. x ∷ xs) c.1 ∙ ap (λ z. z ∷ (g ++ c.0)) h, c.2)
      | inr c ↦ inr (c.0, ap (λ xs. y ∷ xs) c.1 ∙ ap (λ z. z ∷ (us ++ m ∷ c.0)) (sym h), c.2)
    ]

-- ---- the group of one item
pub first_group : (e : Placed) (es : List Placed) (items : List Item) (z : Placed) → e.place ≡ z.place → group_of (e ∷ es) items z ≡ front_group (length e.text) items
first_group e es items z q = rw (eq-eqb e.place z.place q) refl

pub next_group : (e : Placed) (es : List Placed) (items : List Item) (z : Placed) → (e.place ≡ z.place → ⊥) → group_of (e ∷ es) items z ≡ group_of es (after_group (length e.text) items) z
next_group e es items z q = rw (ne_eqb e.place z.place q) refl

-- the entry whose group has the item m between us and vs; the groups of lower entries lie in us, of higher ones in vs
pub record Home (es : List Placed) (items us : List Item) (m : Item) (vs : List Item) : Type 0 where
  pub entry : Placed
  pub is_in : In entry es
  pub before : List Item
  pub behind : List Item
  pub is : group_of es items entry ≡ before ++ m ∷ behind
  pub within : (x : Item) → In x before → In x us
  pub beyond : (x : Item) → In x behind → In x vs
  pub lower : (z : Placed) (x : Item) → z.place < entry.place → In x (group_of es items z) → In x us
  pub upper : (z : Placed) (x : Item) → entry.place < z.place → In x (group_of es items z) → In x vs

pub home : (es : List Placed) (items us : List Item) (m : Item) (vs : List Item) → NoneEmpty items → Rising es → Groups (map (λ (y : Placed). y.text) es) (texts items) [] → items ≡ us ++ m ∷ vs → Home es items us m vs
home [] items us m vs n re c e = absurd (none us (sym (ap texts e) ∙ c))
  where
    none : (us : List Item) → texts (us ++ m ∷ vs) ≡ [] → ⊥
    none [] q = cc q
    none (u ∷ us) q = cc q
home (y ∷ es) items us m vs n re c e =
    let s = first_group_of y items c.0 c.1 n c.2 c.3 in
    go s.group s.rest s.front s.after (two_cuts us m vs s.group s.rest (sym e ∙ s.whole))
    (λ (more : List Item) (q : more ++ m ∷ vs ≡ s.rest). home es s.rest more m vs s.none_empty re.1 (subst (λ (ts : List (List ℕ)). Groups (map (λ (y : Placed). y.text) es) ts []) (sym s.texts_are) c.5) (sym q))
  where
    go : (g r : List Item) → front_group (length y.text) items ≡ g → after_group (length y.text) items ≡ r → TwoCuts us m vs g r → ((more : List Item) → more ++ m ∷ vs ≡ r → Home es r more m vs) → Home (y ∷ es) items us m vs
    go g r front after (inr c) ih = record {
      entry = y;
      is_in = inl refl;
      before = us;
      behind = c.0;
      is = first_group y es items y refl ∙ (front ∙ c.1);
      within = λ x i. i;
      beyond = λ x i. subst (λ (xs : List Item). In x xs) (sym c.2) (in_left x c.0 r i);
      lower = λ z x l i. let h = group_has (y ∷ es) items z x i in absurd (low z h.0 l h.1 h.2);
      upper = λ z x l i. subst (λ (xs : List Item). In x xs) (sym c.2) (in_right x c.0 r (subst (λ (xs : List Item). In x xs) after
          (group_within es (after_group (length y.text) items) z x (subst (λ (xs : List Item). In x xs) (next_group y es items z (λ q. omega arith)) i))));
    }
      where
        low : (z e : Placed) → z.place < y.place → In e (y ∷ es) → e.place ≡ z.place → ⊥
        low z e l (inl q) p = omega (arith, l, p, ap (λ (w : Placed). w.place) q)
        low z e l (inr i) p = let m = re.0 e i in omega arith
    go g r front after (inl c) ih =
        let h = ih c.0 c.2 in
        let above : y.place < h.entry.place = re.0 h.entry h.is_in in
        record {
          entry = h.entry;
          is_in = inr h.is_in;
          before = h.before;
          behind = h.behind;
          is = next_group y es items h.entry (λ q. omega (arith, above)) ∙ (ap (λ xs. group_of es xs h.entry) after ∙ h.is);
          within = λ x i. subst (λ (xs : List Item). In x xs) (sym c.1) (in_right x g c.0 (h.within x i));
          beyond = h.beyond;
          lower = λ z x l i. elim (cases_eq y.place z.place) [
            | inl q ↦ subst (λ (xs : List Item). In x xs) (sym c.1) (in_left x g c.0 (subst (λ (xs : List Item). In x xs) (first_group y es items z q ∙ front) i))
            | inr q ↦ subst (λ (xs : List Item). In x xs) (sym c.1) (in_right x g c.0 (h.lower z x l (subst (λ (xs : List Item). In x xs) (next_group y es items z q ∙ ap (λ xs. group_of es xs z) after) i)))
          ];
          upper = λ z x l i. h.upper z x l (subst (λ (xs : List Item). In x xs) (next_group y es items z (λ q. omega (arith, above, l)) ∙ ap (λ xs. group_of es xs z) after) i);
        }

-- ---- markers
pub replaced_append : (es : List Placed) (items xs ys : List Item) → replaced es items (xs ++ ys) ≡ replaced es items xs ++ replaced es items ys
replaced_append es items [] ys = refl
replaced_append es items (Marker ∷ xs) ys = ap (λ zs. Marker ∷ zs) (replaced_append es items xs ys)
replaced_append es items (Block y ∷ xs) ys = ap (λ zs. group_of es items y ++ zs) (replaced_append es items xs ys) ∙ sym (append_assoc (group_of es items y) (replaced es items xs) (replaced es items ys))

pub rising_entries : (h : History) (s : ℕ) → Rising (text_entries h s)
rising_entries h s = rising_filter (is_text_of s) (placed h) (rising_placed_after [] h.entries)

pub groups_of : (h : History) (s : ℕ) (ts : List (List ℕ)) → Carries h s ts → Groups (map (λ (y : Placed). y.text) (text_entries h s)) ts []
groups_of h s ts c = subst (λ (es : List (List ℕ)). Groups es ts []) (entries_are s [] h.entries) c

-- what lies below in index lies below in place
pub below_place : (h : History) (i : List Placed) (s : ℕ) (x y : Placed) → ArePlaces h i → In (Block x) (kept h i s) → In y (placed h) → y.source ≡ s → x.index < y.index → x.place < y.place
below_place h i s x y a k p q l = let r = l2_only h i s x a k in place_rises h x y r.0 p (r.1 ∙ sym q) l

pub above_place : (h : History) (i : List Placed) (s : ℕ) (x y : Placed) → ArePlaces h i → In (Block x) (kept h i s) → In y (placed h) → y.source ≡ s → y.index < x.index → y.place < x.place
above_place h i s x y a k p q l = let r = l2_only h i s x a k in place_rises h y x p r.0 (q ∙ sym r.1) l

-- the second hop lost the entry that carries k
pub second_marker : (h : History) (i : List Placed) (s : ℕ) (items : List Item) (k y : Placed) → Rising (blocks_in items) → ArePlaces h i → In y (placed h) → y.source ≡ s
    → In (Block k) (group_of (text_entries h s) items y) → Parts y (kept h i s) → PartsAt k (through items h i s)
second_marker h i s items k y r b p q g parts = (
  replaced (text_entries h s) items parts.0,
  replaced (text_entries h s) items parts.1,
  ap (replaced (text_entries h s) items) parts.2 ∙ replaced_append (text_entries h s) items parts.0 (Marker ∷ parts.1),
  λ x j. let f = block_from (text_entries h s) items parts.0 x j in
      group_order (text_entries h s) items f.0 y x k (rising_entries h s) r
      (below_place h i s f.0 y b (subst (λ (xs : List Item). In (Block f.0) xs) (sym parts.2) (in_left (Block f.0) parts.0 (Marker ∷ parts.1) f.1)) p q (parts.3 f.0 f.1)) f.2 g,
  λ x j. let f = block_from (text_entries h s) items parts.1 x j in
      group_order (text_entries h s) items y f.0 k x (rising_entries h s) r
      (above_place h i s f.0 y b (subst (λ (xs : List Item). In (Block f.0) xs) (sym parts.2) (in_right (Block f.0) parts.0 (Marker ∷ parts.1) (inr f.1))) p q (parts.4 f.0 f.1)) g f.2,
)

pub second_law : (h1 h2 : History) (i1 i2 : List Placed) (s1 s2 n : ℕ) (k y : Placed) → ArePlaces h1 i1 → ArePlaces h2 i2 → In y (placed h2) → y.source ≡ s2
    → In (Block k) (group_of (text_entries h2 s2) (drop n (kept h1 i1 s1)) y) → Parts y (kept h2 i2 s2) → PartsAt k (through (drop n (kept h1 i1 s1)) h2 i2 s2)
second_law h1 h2 i1 i2 s1 s2 n k y a = second_marker h2 i2 s2 (drop n (kept h1 i1 s1)) k y (drop_rises n (kept h1 i1 s1) (l2_rises h1 i1 s1 a))

-- each block that the first hop tells is carried
pub carried_law : (h1 h2 : History) (i1 : List Placed) (s1 s2 n : ℕ) (k : Placed) → ArePlaces h1 i1 → Carries h2 s2 (texts (drop n (kept h1 i1 s1))) → In (Block k) (drop n (kept h1 i1 s1))
    → (y : Placed) × In y (text_entries h2 s2) × In (Block k) (group_of (text_entries h2 s2) (drop n (kept h1 i1 s1)) y)
carried_law h1 h2 i1 s1 s2 n k a c i =
    let s = around (drop n (kept h1 i1 s1)) (Block k) i in
    let h = home (text_entries h2 s2) (drop n (kept h1 i1 s1)) s.0 (Block k) s.1 (drop_none_empty n (kept h1 i1 s1) (kept_none_empty h1 i1 s1 a)) (rising_entries h2 s2) (groups_of h2 s2 (texts (drop n (kept h1 i1 s1))) c) s.2 in
    (h.entry, h.is_in, subst (λ (xs : List Item). In (Block k) xs) (sym h.is) (in_right (Block k) h.before (Block k ∷ h.behind) (inl refl)))
  where
    around : (xs : List Item) (x : Item) → In x xs → (us : List Item) × (vs : List Item) × (xs ≡ us ++ x ∷ vs)
    around [] x i = absurd i
    around (z ∷ xs) x (inl e) = ([], xs, ap (λ w. w ∷ xs) (sym e))
    around (z ∷ xs) x (inr i) = let r = around xs x i in (z ∷ r.0, r.1, ap (λ ys. z ∷ ys) r.2)

-- the items around one
pub around : (xs : List Item) (x : Item) → In x xs → (us : List Item) × (vs : List Item) × (xs ≡ us ++ x ∷ vs)
around [] x i = absurd i
around (z ∷ xs) x (inl e) = ([], xs, ap (λ w. w ∷ xs) (sym e))
around (z ∷ xs) x (inr i) = let r = around xs x i in (z ∷ r.0, r.1, ap (λ ys. z ∷ ys) r.2)

-- the marker's entry came
pub marker_came : (es : List Placed) (items us vs xs ys : List Item) (k : Placed) (h : Home es items us Marker vs) → ((x : Placed) → In (Block x) us → x.place < k.place) → ((x : Placed) → In (Block x) vs → k.place < x.place)
    → ((x : Placed) → In (Block x) xs → x.place < h.entry.place) → ((x : Placed) → In (Block x) ys → h.entry.place < x.place) → PartsAt k (replaced es items (xs ++ Block h.entry ∷ ys))
marker_came es items us vs xs ys k h low high below above = (
  replaced es items xs ++ h.before,
  h.behind ++ replaced es items ys,
  replaced_append es items xs (Block h.entry ∷ ys)
      ∙ (ap (λ zs. replaced es items xs ++ (zs ++ replaced es items ys)) h.is
      ∙ (ap (λ zs. replaced es items xs ++ zs) (append_assoc h.before (Marker ∷ h.behind) (replaced es items ys)) ∙ sym (append_assoc (replaced es items xs) h.before (Marker ∷ (h.behind ++ replaced es items ys))))),
  λ x i. elim (in_append (Block x) (replaced es items xs) h.before i) [
    | inl j ↦ let f = block_from es items xs x j in low x (h.lower f.0 (Block x) (below f.0 f.1) f.2)
    | inr j ↦ low x (h.within (Block x) j)
  ],
  λ x i. elim (in_append (Block x) h.behind (replaced es items ys) i) [
    | inl j ↦ high x (h.beyond (Block x) j)
    | inr j ↦ let f = block_from es items ys x j in high x (h.upper f.0 (Block x) (above f.0 f.1) f.2)
  ],
)

-- it was lost, and a marker of the second hop stands for it
pub marker_lost : (es : List Placed) (items us vs xs ys : List Item) (k : Placed) (h : Home es items us Marker vs) → ((x : Placed) → In (Block x) us → x.place < k.place) → ((x : Placed) → In (Block x) vs → k.place < x.place)
    → ((x : Placed) → In (Block x) xs → x.place < h.entry.place) → ((x : Placed) → In (Block x) ys → h.entry.place < x.place) → PartsAt k (replaced es items (xs ++ Marker ∷ ys))
marker_lost es items us vs xs ys k h low high below above = (
  replaced es items xs,
  replaced es items ys,
  replaced_append es items xs (Marker ∷ ys),
  λ x i. let f = block_from es items xs x i in low x (h.lower f.0 (Block x) (below f.0 f.1) f.2),
  λ x i. let f = block_from es items ys x i in high x (h.upper f.0 (Block x) (above f.0 f.1) f.2),
)

pub same_block : (a b : Placed) → Block a ≡ Block b → a ≡ b
same_block a b e = cc e

-- the first hop lost k, and its marker is carried by an entry: where that came its marker stands, else that of the second hop
pub first_law : (h1 h2 : History) (i1 i2 : List Placed) (s1 s2 n : ℕ) (k : Placed) → ArePlaces h1 i1 → ArePlaces h2 i2 → Carries h2 s2 (texts (drop n (kept h1 i1 s1))) → In k (placed h1) → k.source ≡ s1 → Parts k (drop n (kept h1 i1 s1))
    → (y : Placed) × In y (text_entries h2 s2) × (In (Block y) (kept h2 i2 s2) ⊎ Parts y (kept h2 i2 s2) → PartsAt k (through (drop n (kept h1 i1 s1)) h2 i2 s2))
first_law h1 h2 i1 i2 s1 s2 n k a b c p q split =
    finish (home (text_entries h2 s2) (drop n (kept h1 i1 s1)) split.0 Marker split.1 (drop_none_empty n (kept h1 i1 s1) (kept_none_empty h1 i1 s1 a)) (rising_entries h2 s2) (groups_of h2 s2 (texts (drop n (kept h1 i1 s1))) c) split.2)
  where
    low : (x : Placed) → In (Block x) split.0 → x.place < k.place
    low x i = below_place h1 i1 s1 x k a (drop_in n (kept h1 i1 s1) (Block x) (subst (λ (xs : List Item). In (Block x) xs) (sym split.2) (in_left (Block x) split.0 (Marker ∷ split.1) i))) p q (split.3 x i)

    high : (x : Placed) → In (Block x) split.1 → k.place < x.place
    high x i = above_place h1 i1 s1 x k a (drop_in n (kept h1 i1 s1) (Block x) (subst (λ (xs : List Item). In (Block x) xs) (sym split.2) (in_right (Block x) split.0 (Marker ∷ split.1) (inr i)))) p q (split.4 x i)

    finish : Home (text_entries h2 s2) (drop n (kept h1 i1 s1)) split.0 Marker split.1
        → (y : Placed) × In y (text_entries h2 s2) × (In (Block y) (kept h2 i2 s2) ⊎ Parts y (kept h2 i2 s2) → PartsAt k (through (drop n (kept h1 i1 s1)) h2 i2 s2))
    finish h = (h.entry, h.is_in, either)
      where
        entry_in : In h.entry (placed h2) × (is_text_of s2 h.entry ≡ true)
        entry_in = in_filter (is_text_of s2) h.entry (placed h2) h.is_in

        source : h.entry.source ≡ s2
        source = eqb-true h.entry.source s2 (and_parts (h.entry.source == s2) (has_text h.entry.text) entry_in.1).0

        came : (r : (us : List Item) × (vs : List Item) × (kept h2 i2 s2 ≡ us ++ Block h.entry ∷ vs)) → PartsAt k (through (drop n (kept h1 i1 s1)) h2 i2 s2)
        came r =
            let g = parts (blocks_in r.0) (h.entry ∷ blocks_in r.1) (subst Rising (ap blocks_in r.2 ∙ blocks_in_append r.0 (Block h.entry ∷ r.1)) (l2_rises h2 i2 s2 b)) in
            subst (λ (zs : List Item). PartsAt k (replaced (text_entries h2 s2) (drop n (kept h1 i1 s1)) zs)) (sym r.2)
            (marker_came (text_entries h2 s2) (drop n (kept h1 i1 s1)) split.0 split.1 r.0 r.1 k h low high
            (λ x i. g.cross x h.entry (block_in x r.0 i) (inl refl)) (λ x i. g.right.0 x (block_in x r.1 i)))

        lost : (r : Parts h.entry (kept h2 i2 s2)) → PartsAt k (through (drop n (kept h1 i1 s1)) h2 i2 s2)
        lost r =
            subst (λ (zs : List Item). PartsAt k (replaced (text_entries h2 s2) (drop n (kept h1 i1 s1)) zs)) (sym r.2)
            (marker_lost (text_entries h2 s2) (drop n (kept h1 i1 s1)) split.0 split.1 r.0 r.1 k h low high
            (λ x i. below_place h2 i2 s2 x h.entry b (subst (λ (xs : List Item). In (Block x) xs) (sym r.2) (in_left (Block x) r.0 (Marker ∷ r.1) i)) entry_in.0 source (r.3 x i))
            (λ x i. above_place h2 i2 s2 x h.entry b (subst (λ (xs : List Item). In (Block x) xs) (sym r.2) (in_right (Block x) r.0 (Marker ∷ r.1) (inr i))) entry_in.0 source (r.4 x i)))

        either : In (Block h.entry) (kept h2 i2 s2) ⊎ Parts h.entry (kept h2 i2 s2) → PartsAt k (through (drop n (kept h1 i1 s1)) h2 i2 s2)
        either (inl i) = came (around (kept h2 i2 s2) (Block h.entry) i)
        either (inr r) = lost r

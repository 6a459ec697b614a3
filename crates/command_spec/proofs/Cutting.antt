-- What is told, cut at its markers, are stretches of the entries.
use Rattle.std.proofs.Common.{◌≡◌, ℕ, ◌<◌, inl, inr, List, [], ◌∷◌, ◌++◌, refl, ap, subst, sym, ◌∙◌, arith, append_assoc}
use Rattle.std.proofs.lemmas.Bool.{cases_lt, eqb-true, and_parts, and_from, eq-eqb}
use Rattle.wire_spec.specs.Packets.{has_text}
use Rattle.stream_spec.specs.Lists.{In}
use Rattle.stream_spec.specs.History.{History, Placed, Lawful, placed}
use Rattle.stream_spec.specs.Kept.{Item, Marker, Block, kept, blocks_in, Rising, ArePlaces, is_text_of, is_entry_of}
use Rattle.stream_spec.proofs.Lists.{in_right, in_filter, filter_in}
use Rattle.stream_spec.proofs.Places.{index_rises, place_rises}
use Rattle.stream_spec.proofs.Blocks.{l2_only, l2_each, l2_rises, rising_filter, rising_placed_after}
use Rattle.stream_spec.proofs.Gaps.{l3, in_blocks}
use Rattle.stream_spec.proofs.Walks.{are_places}
use Rattle.mixer_spec.specs.Through.{text_entries}
use Rattle.mixer_spec.specs.Headline.{Hop, IsHop, told, used}
use Rattle.command_spec.specs.Stretches.{first_run, runs, marked, Stretch, AreStretches}

-- ---- no entry of the source lies between two blocks with no marker between them
abbrev Adjacent : List Placed → List Item → Type 0
Adjacent es items =
    (x y : Placed) (front back : List Item) → items ≡ front ++ Block x ∷ Block y ∷ back
    → (k : Placed) → In k es → x.place < k.place → k.place < y.place → ⊥

clash : (x y : Placed) (front xs back ys : List Item) → front ++ Block x ∷ Block y ∷ back ≡ xs ++ Marker ∷ ys
    → (In (Block y) xs → ⊥) → (In (Block x) ys → ⊥) → ⊥
clash x y [] [] back ys e f g = cc e
clash x y [] (z ∷ []) back ys e f g = cc e
clash x y [] (z ∷ w ∷ xs) back ys e f g = let p : Block y ≡ w = cc e in f (inr (inl p))
clash x y (z ∷ front) [] back ys e f g =
    let p : front ++ Block x ∷ Block y ∷ back ≡ ys = cc e in
    g (subst (λ (zs : List Item). In (Block x) zs) p (in_right (Block x) front (Block x ∷ Block y ∷ back) (inl refl)))
clash x y (z ∷ front) (w ∷ xs) back ys e f g =
    let p : front ++ Block x ∷ Block y ∷ back ≡ xs ++ Marker ∷ ys = cc e in
    clash x y front xs back ys p (λ i. f (inr i)) g

-- a block that stands so is none of those between
outside : (x y k : Placed) (front back : List Item) → Rising (blocks_in (front ++ Block x ∷ Block y ∷ back)) → x.place < k.place → k.place < y.place
    → In (Block k) (front ++ Block x ∷ Block y ∷ back) → ⊥
outside x y k [] back r l u (inl p) = let q : k ≡ x = cc p in absurd (omega (arith, ap (λ (z : Placed). z.place) q))
outside x y k [] back r l u (inr (inl p)) = let q : k ≡ y = cc p in absurd (omega (arith, ap (λ (z : Placed). z.place) q))
outside x y k [] back r l u (inr (inr i)) = let v = r.1.0 k (in_blocks k back i) in absurd (omega arith)
outside x y k (Marker ∷ front) back r l u (inl p) = cc p
outside x y k (Marker ∷ front) back r l u (inr i) = outside x y k front back r l u i
outside x y k (Block z ∷ front) back r l u (inl p) =
    let q : k ≡ z = cc p in
    let v = r.0 x (in_blocks x (front ++ Block x ∷ Block y ∷ back) (in_right (Block x) front (Block x ∷ Block y ∷ back) (inl refl))) in
    absurd (omega (arith, ap (λ (w : Placed). w.place) q))
outside x y k (Block z ∷ front) back r l u (inr i) = outside x y k front back r.1 l u i

adjacent : (h : History) → Lawful h → (i : List Placed) (s : ℕ) → ArePlaces h i → Adjacent (text_entries h s) (kept h i s)
adjacent h law i s a x y front back e k m l u =
    let km = in_filter (is_text_of s) k (placed h) m in
    let parts = and_parts (is_entry_of s k) (has_text k.text) km.1 in
    let ks = eqb-true k.source s parts.0 in
    let cx = l2_only h i s x a (subst (λ (zs : List Item). In (Block x) zs) (sym e) (in_right (Block x) front (Block x ∷ Block y ∷ back) (inl refl))) in
    let cy = l2_only h i s y a (subst (λ (zs : List Item). In (Block y) zs) (sym e) (in_right (Block y) front (Block x ∷ Block y ∷ back) (inr (inl refl)))) in
    let xk = index_rises h x k cx.0 km.0 (cx.1 ∙ sym ks) l in
    let ky = index_rises h k y km.0 cy.0 (ks ∙ sym cy.1) u in
    let xc = cx.5 in
    let yc = cy.5 in
    let xl = xc.reaches in
    let yb = yc.behind in
    let lowk : cx.3.index < k.index = elim (cases_lt cx.3.index k.index) [
      | inl t ↦ t
      | inr t ↦ absurd (absent (l2_each h law i s k cx.3 a km.0 ks parts.1 cx.4 (record { source = xc.source ∙ (cx.1 ∙ sym ks); reaches = omega arith; behind = t })))
    ] in
    let below = place_rises h cx.3 k (a.within cx.3 cx.4) km.0 (xc.source ∙ (cx.1 ∙ sym ks)) lowk in
    let above = place_rises h k cy.3 km.0 (a.within cy.3 cy.4) (ks ∙ sym (yc.source ∙ cy.1)) (omega arith) in
    let p = l3 h law i s k cx.3 cy.3 a km.0 ks parts.1 absent cx.4 below cy.4 (yc.source ∙ cy.1) above in
    clash x y front p.0 back p.1 (sym e ∙ p.2)
    (λ j. let v = p.3 y j in omega arith)
    (λ j. let v = p.4 x j in omega arith)
  where
    absent : In (Block k) (kept h i s) → ⊥
    absent j = outside x y k front back (subst (λ (zs : List Item). Rising (blocks_in zs)) e (l2_rises h i s a)) l u (subst (λ (zs : List Item). In (Block k) zs) e j)

-- ---- rising entries, parted at one
record PartedAt (es : List Placed) (x : Placed) : Type 0 where
  lost : List Placed
  more : List Placed
  is : es ≡ lost ++ x ∷ more
  rising : Rising more
  above : (k : Placed) → In k more → x.place < k.place
  rest : (k : Placed) → In k es → x.place < k.place → In k more

parted : (es : List Placed) (x : Placed) → Rising es → In x es → PartedAt es x
parted [] x r i = absurd i
parted (e ∷ es) x r (inl p) = record {
  lost = [];
  more = es;
  is = ap (λ z. z ∷ es) (sym p);
  rising = r.1;
  above = λ k j. let v = r.0 k j in let w = ap (λ (z : Placed). z.place) p in omega arith;
  rest = λ k j l. elim j [ inl q ↦ absurd (omega (arith, ap (λ (z : Placed). z.place) q, ap (λ (z : Placed). z.place) p)) | inr q ↦ q ];
}
parted (e ∷ es) x r (inr i) =
    let t = parted es x r.1 i in
    let v = r.0 x i in
    record {
      lost = e ∷ t.lost;
      more = t.more;
      is = ap (λ zs. e ∷ zs) t.is;
      rising = t.rising;
      above = t.above;
      rest = λ k j l. elim j [ inl q ↦ absurd (omega (arith, ap (λ (z : Placed). z.place) q)) | inr q ↦ t.rest k q l ];
    }

-- ---- stretches
more_before : (es more : List Placed) (rs : List (List Placed)) → AreStretches more rs → AreStretches (es ++ more) rs
more_before es more [] a = tt
more_before es more (r ∷ rs) a = (es ++ a.0, a.1, ap (λ zs. es ++ zs) a.2 ∙ sym (append_assoc es a.0 (r ++ a.1)), a.3)

cut_stands : (es : List Placed) (items : List Item) → Rising es → Rising (blocks_in items) → ((x : Placed) → In (Block x) items → In x es) → Adjacent es items → AreStretches es (runs items)
cut_stands es [] r q m a = ([], es, refl, tt)
cut_stands es (Marker ∷ items) r q m a = ([], es, refl, cut_stands es items r q (λ x i. m x (inr i)) (λ x y front back e. a x y (Marker ∷ front) back (ap (λ zs. Marker ∷ zs) e)))
cut_stands es (Block x ∷ items) r q m a = join items inside a (cut_stands p.more items p.rising q.1 inside near)
  where
    p : PartedAt es x
    p = parted es x r (m x (inl refl))

    inside : (k : Placed) → In (Block k) items → In k p.more
    inside k i = p.rest k (m k (inr i)) (q.0 k (in_blocks k items i))

    in_es : (k : Placed) → In k p.more → In k es
    in_es k i = subst (λ (zs : List Placed). In k zs) (sym p.is) (in_right k p.lost (x ∷ p.more) (inr i))

    near : Adjacent p.more items
    near u v front back e k i l h = a u v (Block x ∷ front) back (ap (λ zs. Block x ∷ zs) e) k (in_es k i) l h

    -- where y is the next block, nothing lies before it
    next : (y : Placed) (items : List Item) → Adjacent es (Block x ∷ Block y ∷ items) → (lost rest : List Placed) → p.more ≡ lost ++ y ∷ rest → p.more ≡ y ∷ rest
    next y items b [] rest e = e
    next y items b (z ∷ lost) rest e =
        let i : In z p.more = subst (λ (zs : List Placed). In z zs) (sym e) (inl refl) in
        let up : Rising (z ∷ lost ++ y ∷ rest) = subst Rising e p.rising in
        absurd (b x y [] items refl z (in_es z i) (p.above z i) (up.0 y (in_right y lost (y ∷ rest) (inl refl))))

    go_on : (y : Placed) (items : List Item) (rs : List (List Placed)) → Adjacent es (Block x ∷ Block y ∷ items) → AreStretches p.more (first_run y rs) → AreStretches es (first_run x (first_run y rs))
    go_on y items [] b t = (p.lost, t.1, p.is ∙ ap (λ zs. p.lost ++ x ∷ zs) (next y items b t.0 t.1 t.2), tt)
    go_on y items (r ∷ rs) b t = (p.lost, t.1, p.is ∙ ap (λ zs. p.lost ++ x ∷ zs) (next y items b t.0 (r ++ t.1) t.2), t.3)

    join : (items : List Item) → ((k : Placed) → In (Block k) items → In k p.more) → Adjacent es (Block x ∷ items) → AreStretches p.more (runs items) → AreStretches es (first_run x (runs items))
    join [] n b t = (p.lost, p.more, p.is, tt)
    join (Marker ∷ items) n b t = (p.lost, p.more, p.is, subst (λ (zs : List Placed). AreStretches zs (runs items)) (sym t.2) (more_before t.0 t.1 (runs items) t.3))
    join (Block y ∷ items) n b t = go_on y items (runs items) b t

pub runs_law : (h : History) → Lawful h → (i : List Placed) → ArePlaces h i → (s : ℕ) → AreStretches (text_entries h s) (runs (kept h i s))
runs_law h law i a s = cut_stands (text_entries h s) (kept h i s)
    (rising_filter (is_text_of s) (placed h) (rising_placed_after [] h.entries))
    (l2_rises h i s a)
    (λ x j. let c = l2_only h i s x a j in filter_in (is_text_of s) x (placed h) c.0 (and_from (is_entry_of s x) (has_text x.text) (eq-eqb x.source s c.1) c.2))
    (adjacent h law i s a)

pub hop_law : (p : Hop) → IsHop p → AreStretches (text_entries p.sent p.source) (runs (told p))
hop_law p q = runs_law p.sent q.lawful (used p) (are_places p.wait p.sent p.came q.come) p.source

pub each_law : (es : List Placed) (rs : List (List Placed)) → AreStretches es rs → (r : List Placed) → In r rs → Stretch es r
each_law es [] a r i = absurd i
each_law es (q ∷ rs) a r (inl p) = record { before = a.0; behind = a.1; is = a.2 ∙ ap (λ zs. a.0 ++ (zs ++ a.1)) (sym p) }
each_law es (q ∷ rs) a r (inr i) =
    let t = each_law a.1 rs a.3 r i in
    record {
      before = a.0 ++ (q ++ t.before);
      behind = t.behind;
      is = a.2 ∙ (ap (λ zs. a.0 ++ (q ++ zs)) t.is ∙ (ap (λ zs. a.0 ++ zs) (sym (append_assoc q t.before (r ++ t.behind))) ∙ sym (append_assoc a.0 (q ++ t.before) (r ++ t.behind))));
    }

-- ---- nothing else is told
head_run : (x : Placed) (rs : List (List Placed)) (items : List Item) → marked rs ≡ items → marked (first_run x rs) ≡ Block x ∷ items
head_run x [] items e = ap (λ zs. Block x ∷ zs) e
head_run x (r ∷ []) items e = ap (λ zs. Block x ∷ zs) e
head_run x (r ∷ q ∷ rs) items e = ap (λ zs. Block x ∷ zs) e

marker_run : (rs : List (List Placed)) (items : List Item) → marked rs ≡ items → ((rs ≡ []) → ⊥) → marked ([] ∷ rs) ≡ Marker ∷ items
marker_run [] items e n = absurd (n refl)
marker_run (r ∷ rs) items e n = ap (λ zs. Marker ∷ zs) e

some_run : (items : List Item) → runs items ≡ [] → ⊥
some_run [] e = cc e
some_run (Marker ∷ items) e = cc e
some_run (Block x ∷ items) e = go (runs items) e
  where
    go : (rs : List (List Placed)) → first_run x rs ≡ [] → ⊥
    go [] e = cc e
    go (r ∷ rs) e = cc e

pub all_law : (items : List Item) → marked (runs items) ≡ items
all_law [] = refl
all_law (Marker ∷ items) = marker_run (runs items) items (all_law items) (some_run items)
all_law (Block x ∷ items) = head_run x (runs items) items (all_law items)

-- What two hops tell of the source of the first, where the second carries pieces.
use Rattle.std.proofs.Common.{◌≡◌, ℕ, ◌<◌, ◌≤◌, length-append, ◌⊎◌, inl, inr, List, [], ◌∷◌, ◌++◌, length, refl, ap, subst, sym, ◌∙◌, arith, Bool, true, false, cond, ◌+◌, ◌*◌}
use Rattle.std.specs.Prelude.{◌==◌, map}
use Rattle.std.specs.List.{concat, flat_map}
use Rattle.std.proofs.lemmas.Bool.{cases_eq, cases_lt}
use Rattle.stream_spec.specs.Lists.{In}
use Rattle.rtt_base.specs.declared.limits.TheConstants.{MOST_PACKET_OCTETS}
use Rattle.stream_spec.specs.History.{Placed, texts_of, window}
use Rattle.stream_spec.specs.Kept.{Item, Marker, Block, texts, blocks_in, Parts, Rising}
use Rattle.stream_spec.specs.Carries.{Groups, CarriesFront}
use Rattle.stream_spec.proofs.Lists.{in_left, in_right, in_append}
use Rattle.stream_spec.proofs.Places.{same_place_after}
use Rattle.stream_spec.proofs.Blocks.{blocks_in_append, in_blocks_in, l2_rises}
use Rattle.stream_spec.proofs.Walks.{l1}
use Rattle.mixer_spec.specs.Through.{group_of, replaced, text_entries}
use Rattle.mixer_spec.specs.Laws.{PartsAt}
use Rattle.mixer_spec.specs.Bridged.{IsPart, pieces_heard}
use Rattle.mixer_spec.specs.Headline.{Hop, IsHop, used, told, IsBlock, AllLost, AllUsed, Cut, IsUnshared, IsNotSent, told_by, group, IsLostBehind, IsMarkerBehind}
use Rattle.mixer_spec.proofs.Through.{NoneEmpty, Carry, carry_of, cut_again, split_items, none_left, none_right, hops_text, groups_more, entries_are}
use Rattle.mixer_spec.proofs.HopOrder.{Segments, parts, group_within, group_order, block_from, from_block, replaced_rises}
use Rattle.mixer_spec.proofs.HopMarkers.{TwoCuts, two_cuts, Home, home, around, rising_entries, marker_came, marker_lost, below_place, above_place, second_marker}
use Rattle.mixer_spec.proofs.HopWhole.{all_groups, marker_from}
use Rattle.mixer_spec.proofs.OneHop.{places_of, block_is, absent_lost, lost_absent, parts_between, parts_at, told_whole, one_hop}
use Rattle.mixer_spec.proofs.BothHops.{front_of, is_told, entry_block, block_entry, each_said, row_is}
use Rattle.mixer_spec.specs.Pieces.{IsCutting, in_pieces, IsPieceOf}
use Rattle.mixer_spec.specs.PieceHeadline.{pieces_told, PieceHeadline, PieceHeadlineAt}
use Rattle.mixer_spec.proofs.PieceTold.{FitAddresses, marker_of, piece_from, from_piece, pieces_none_empty, pieces_apart, pieces_some, pieces_rise, texts_cut, apart_within, one_block, parts_pieces}
use Rattle.stream_spec.proofs.Gaps.{in_blocks as block_in}

-- ---- entries
-- a block of the first hop fits its addresses
pub short_block : (p : Hop) → IsHop p → (x : Placed) → IsBlock p x → length x.text ≤ 8192
short_block p ip x b = go (x.source == p.sent.ssrc) (ip.lawful.sized x b.sent)
  where
    go : (c : Bool) → cond c 12 16 + (4 * x.generations + 1) + length (concat (texts_of (window p.sent x)) ++ x.text) ≤ MOST_PACKET_OCTETS → length x.text ≤ 8192
    go true l = omega (arith, length-append (concat (texts_of (window p.sent x))) x.text, l)
    go false l = omega (arith, length-append (concat (texts_of (window p.sent x))) x.text, l)

pub headline_law : (cutting : List ℕ → List (List ℕ)) → IsCutting cutting → (p q : Hop) → IsHop p → IsHop q → (cut : Cut)
    → pieces_told cutting p ≡ cut.before ++ (cut.sent ++ (cut.waiting ++ cut.behind)) → Groups (map (λ (y : Placed). y.text) (text_entries q.sent q.source)) (texts cut.sent) []
    → PieceHeadline cutting p q cut
headline_law cutting c p q ip iq cut is_cut carried = record {
  first = one_hop p ip;
  second = one_hop q iq;
  is_cut = is_cut;
  text = l1 q.wait q.sent iq.lawful q.came iq.come q.source ∙ each_said q cut.sent (told q) carry (λ y i. block_entry q y (block_is q iq y i));
  items = row_is q cut.sent (told q);
  joined = ap concat (l1 q.wait q.sent iq.lawful q.came iq.come q.source) ∙ sym (hops_text q.sent (used q) q.source cut.sent (places_of q iq) carry);
  pieces = λ k i. let r = block_from (text_entries q.sent q.source) cut.sent (told q) k i in origin k (of_told (Block k) (group_within (text_entries q.sent q.source) cut.sent r.0 (Block k) r.2));
  order = apart_within (blocks_in all) (blocks_in (told_by cut.sent q)) (pieces_apart cutting c (told p) (l2_rises p.sent (used p) p.source (places_of p ip)) fit) (pieces_some cutting c (told p))
      (replaced_rises (text_entries q.sent q.source) cut.sent (told q) (rising_entries q.sent q.source) rises.left rises_second) within_all;
  absent = λ x k b w. (why x k b w, gone x k b w);
  marked_behind = λ k l w. second_marker q.sent (used q) q.source cut.sent k l.entry rises.left (places_of q iq) l.is_block.sent l.is_block.source l.carries
      (parts_between q iq l.entry l.is_block (lost_absent q iq l.entry l.lost) w);
  marked_first = λ x k b w l bt. parts_pieces cutting c (told p) x k fit (short_block p ip x b) w (parts_at p ip x b.sent b.source (parts_between p ip x b (lost_absent p ip x l) bt));
  marker_is = λ k r. placed_from k r (two_cuts r.0 Marker r.1 cut.before onward (sym r.2 ∙ is_cut));
  marked = λ k r. stands k r;
  markers = λ i. elim (marker_from (text_entries q.sent q.source) cut.sent (told q) i) [ inl j ↦ inr j | inr j ↦ inl (marker_of cutting (told p) (of_told Marker j)) ];
  no_marker = λ l m i. elim (marker_from (text_entries q.sent q.source) cut.sent (told q) i) [ inl j ↦ (one_hop q iq).no_marker m j | inr j ↦ (one_hop p ip).no_marker l (marker_of cutting (told p) (of_told Marker j)) ];
  passed = passed;
  whole = λ a d. ap (λ xs. cut.before ++ (xs ++ (cut.waiting ++ cut.behind))) (passed d) ∙ (sym is_cut ∙ ap (in_pieces cutting) (told_whole p ip a));
}
  where
    all : List Item
    all = pieces_told cutting p

    onward : List Item
    onward = cut.sent ++ (cut.waiting ++ cut.behind)

    fit : FitAddresses (told p)
    fit = λ x i. short_block p ip x (block_is p ip x i)

    -- what is sent on is told
    of_told : (x : Item) → In x cut.sent → In x all
    of_told x i = subst (λ (xs : List Item). In x xs) (sym is_cut) (in_right x cut.before onward (in_left x cut.sent (cut.waiting ++ cut.behind) i))

    origin : (k : Placed) → In (Block k) all → (x : Placed) × IsBlock p x × IsPieceOf cutting x k
    origin k i = let r = piece_from cutting (told p) k i in (r.0, block_is p ip r.0 r.1, r.2)

    within_all : (k : Placed) → In k (blocks_in (told_by cut.sent q)) → In k (blocks_in all)
    within_all k i =
        let r = block_from (text_entries q.sent q.source) cut.sent (told q) k (in_blocks_in k (told_by cut.sent q) i) in
        block_in k all (of_told (Block k) (group_within (text_entries q.sent q.source) cut.sent r.0 (Block k) r.2))

    none_sent : NoneEmpty cut.sent
    none_sent = none_left cut.sent (cut.waiting ++ cut.behind) (none_right cut.before onward (subst NoneEmpty is_cut (pieces_none_empty cutting c (told p))))

    rises_all : Rising (blocks_in cut.before ++ blocks_in onward)
    rises_all = subst Rising (ap blocks_in is_cut ∙ blocks_in_append cut.before onward) (pieces_rise cutting c (told p) (l2_rises p.sent (used p) p.source (places_of p ip)) fit)

    apart : Segments (blocks_in cut.before) (blocks_in onward)
    apart = parts (blocks_in cut.before) (blocks_in onward) rises_all

    rises : Segments (blocks_in cut.sent) (blocks_in (cut.waiting ++ cut.behind))
    rises = parts (blocks_in cut.sent) (blocks_in (cut.waiting ++ cut.behind)) (subst Rising (blocks_in_append cut.sent (cut.waiting ++ cut.behind)) apart.right)

    rises_second : Rising (blocks_in (told q))
    rises_second = l2_rises q.sent (used q) q.source (places_of q iq)

    -- what stands before, or behind, is not sent on
    not_before : (k : Placed) → In (Block k) cut.before → In (Block k) cut.sent → ⊥
    not_before k i j = let l = apart.cross k k (block_in k cut.before i) (block_in k onward (in_left (Block k) cut.sent (cut.waiting ++ cut.behind) j)) in omega (arith, l)

    not_later : (k : Placed) → In (Block k) (cut.waiting ++ cut.behind) → In (Block k) cut.sent → ⊥
    not_later k i j = let l = rises.cross k k (block_in k cut.sent j) (block_in k (cut.waiting ++ cut.behind) i) in omega (arith, l)

    carry : Carry (text_entries q.sent q.source) cut.sent
    carry = carry_of (text_entries q.sent q.source) cut.sent [] none_sent carried

    -- the entry that carries a piece
    carrier : (k : Placed) → In (Block k) cut.sent → (y : Placed) × In y (text_entries q.sent q.source) × In (Block k) (group cut.sent q y)
    carrier k i =
        let s = around cut.sent (Block k) i in
        let h = home (text_entries q.sent q.source) cut.sent s.0 (Block k) s.1 none_sent (rising_entries q.sent q.source) carried s.2 in
        (h.entry, h.is_in, subst (λ (xs : List Item). In (Block k) xs) (sym h.is) (in_right (Block k) h.before (Block k ∷ h.behind) (inl refl)))

    -- why a piece k of the block x is absent
    Why : Placed → Placed → Type 0
    Why x k = AllLost p x ⊎ (IsLostBehind q cut.sent k ⊎ (In (Block k) cut.waiting ⊎ IsUnshared cut k))

    later : (x k : Placed) → In (Block k) cut.waiting ⊎ In (Block k) cut.behind → Why x k
    later x k (inl i) = inr (inr (inl i))
    later x k (inr i) = inr (inr (inr (in_right (Block k) cut.before cut.behind i)))

    why : (x k : Placed) → IsBlock p x → IsPieceOf cutting x k → (In (Block k) (told_by cut.sent q) → ⊥) → Why x k
    why x k b w m = elim (is_told p ip x b) [
      | inr z ↦ inl (absent_lost p ip x b z)
      | inl i ↦ elim (in_append (Block k) cut.before onward (subst (λ (xs : List Item). In (Block k) xs) is_cut (from_piece cutting (told p) x k i w))) [
        | inl j ↦ inr (inr (inr (in_left (Block k) cut.before cut.behind j)))
        | inr j ↦ elim (in_append (Block k) cut.sent (cut.waiting ++ cut.behind) j) [
          | inr h ↦ later x k (in_append (Block k) cut.waiting cut.behind h)
          | inl h ↦ let z = carrier k h in inr (inl (behind z))
        ]
      ]
    ]
      where
        behind : (y : Placed) × In y (text_entries q.sent q.source) × In (Block k) (group cut.sent q y) → IsLostBehind q cut.sent k
        behind z = elim (is_told q iq z.0 (entry_block q z.0 z.1)) [
          | inl t ↦ absurd (m (from_block (text_entries q.sent q.source) cut.sent (told q) k z.0 t z.2))
          | inr t ↦ record { entry = z.0; is_block = entry_block q z.0 z.1; carries = z.2; lost = absent_lost q iq z.0 (entry_block q z.0 z.1) t }
        ]

    -- the block of a piece that is told is told
    told_block : (x k : Placed) → IsBlock p x → IsPieceOf cutting x k → In (Block k) all → In (Block x) (told p)
    told_block x k b w i =
        let r = piece_from cutting (told p) k i in
        let s = block_is p ip r.0 r.1 in
        let e = one_block cutting c x r.0 k (short_block p ip x b) (short_block p ip r.0 s) w r.2 in
        subst (λ (z : Placed). In (Block z) (told p)) (same_place_after [] p.sent.entries r.0 x s.sent b.sent e) r.1

    gone : (x k : Placed) → IsBlock p x → IsPieceOf cutting x k → Why x k → In (Block k) (told_by cut.sent q) → ⊥
    gone x k b w y i = let r = block_from (text_entries q.sent q.source) cut.sent (told q) k i in from r y
      where
        from : (y : Placed) × In (Block y) (told q) × In (Block k) (group_of (text_entries q.sent q.source) cut.sent y) → Why x k → ⊥
        from r (inl l) = lost_absent p ip x l (told_block x k b w (of_told (Block k) (group_within (text_entries q.sent q.source) cut.sent r.0 (Block k) r.2)))
        from r (inr (inr (inl j))) = not_later k (in_left (Block k) cut.waiting cut.behind j) (group_within (text_entries q.sent q.source) cut.sent r.0 (Block k) r.2)
        from r (inr (inr (inr j))) = outside (group_within (text_entries q.sent q.source) cut.sent r.0 (Block k) r.2) (in_append (Block k) cut.before cut.behind j)
          where
            outside : In (Block k) cut.sent → In (Block k) cut.before ⊎ In (Block k) cut.behind → ⊥
            outside g (inl j) = not_before k j g
            outside g (inr j) = not_later k (in_right (Block k) cut.waiting cut.behind j) g
        from r (inr (inl l)) = lost_absent q iq l.entry l.lost (subst (λ (y : Placed). In (Block y) (told q)) same r.1)
          where
            order : (y z : Placed) → In (Block k) (group cut.sent q y) → In (Block k) (group cut.sent q z) → y.place < z.place → ⊥
            order y z i j d = let e = group_order (text_entries q.sent q.source) cut.sent y z k k (rising_entries q.sent q.source) rises.left d i j in omega (arith, e)

            same : r.0 ≡ l.entry
            same = elim (cases_eq r.0.place l.entry.place) [
              | inl e ↦ same_place_after [] q.sent.entries r.0 l.entry (block_is q iq r.0 r.1).sent l.is_block.sent e
              | inr d ↦ absurd (either d)
            ]
              where
                either : (r.0.place ≡ l.entry.place → ⊥) → ⊥
                either d = elim (cases_lt r.0.place l.entry.place) [
                  | inl less ↦ order r.0 l.entry r.2 l.carries less
                  | inr more ↦ order l.entry r.0 l.carries r.2 (omega (arith, more, d))
                ]

    stands : (k : Placed) (r : PartsAt k cut.sent) → IsMarkerBehind q cut.sent k
    stands k r = found (home (text_entries q.sent q.source) cut.sent r.0 Marker r.1 none_sent (rising_entries q.sent q.source) carried r.2)
      where
        found : Home (text_entries q.sent q.source) cut.sent r.0 Marker r.1 → IsMarkerBehind q cut.sent k
        found h = record {
          entry = h.entry;
          is_block = entry_block q h.entry h.is_in;
          carries = subst (λ (xs : List Item). In Marker xs) (sym h.is) (in_right Marker h.before (Marker ∷ h.behind) (inl refl));
          stands = λ w. elim w [
            | inl i ↦ came (around (told q) (Block h.entry) i)
            | inr w ↦ elim (is_told q iq h.entry (entry_block q h.entry h.is_in)) [
              | inl i ↦ came (around (told q) (Block h.entry) i)
              | inr n ↦ lost (parts_between q iq h.entry (entry_block q h.entry h.is_in) n w)
            ]
          ];
        }
          where
            came : (us : List Item) × (vs : List Item) × (told q ≡ us ++ Block h.entry ∷ vs) → PartsAt k (told_by cut.sent q)
            came s =
                let g = parts (blocks_in s.0) (h.entry ∷ blocks_in s.1) (subst Rising (ap blocks_in s.2 ∙ blocks_in_append s.0 (Block h.entry ∷ s.1)) rises_second) in
                subst (PartsAt k) (sym (ap (replaced (text_entries q.sent q.source) cut.sent) s.2))
                (marker_came (text_entries q.sent q.source) cut.sent r.0 r.1 s.0 s.1 k h r.3 r.4
                (λ x i. g.cross x h.entry (block_in x s.0 i) (inl refl)) (λ x i. g.right.0 x (block_in x s.1 i)))

            lost : Parts h.entry (told q) → PartsAt k (told_by cut.sent q)
            lost s =
                let b = entry_block q h.entry h.is_in in
                subst (PartsAt k) (sym (ap (replaced (text_entries q.sent q.source) cut.sent) s.2))
                (marker_lost (text_entries q.sent q.source) cut.sent r.0 r.1 s.0 s.1 k h r.3 r.4
                (λ x i. below_place q.sent (used q) q.source x h.entry (places_of q iq) (subst (λ (xs : List Item). In (Block x) xs) (sym s.2) (in_left (Block x) s.0 (Marker ∷ s.1) i)) b.sent b.source (s.3 x i))
                (λ x i. above_place q.sent (used q) q.source x h.entry (places_of q iq) (subst (λ (xs : List Item). In (Block x) xs) (sym s.2) (in_right (Block x) s.0 (Marker ∷ s.1) (inr i))) b.sent b.source (s.4 x i)))

    -- in which part the mark stands
    placed_from : (k : Placed) (r : PartsAt k all) → TwoCuts r.0 Marker r.1 cut.before onward → PartsAt k cut.sent ⊎ IsNotSent cut (length r.0)
    placed_from k r (inr c) = let e = ap length c.1 ∙ length-append r.0 (Marker ∷ c.0) in inr (inl (omega (arith, e)))
    placed_from k r (inl c) = in_onward (two_cuts c.0 Marker r.1 cut.sent (cut.waiting ++ cut.behind) c.2)
      where
        low : (x : Placed) → In (Block x) c.0 → x.place < k.place
        low x i = r.3 x (subst (λ (xs : List Item). In (Block x) xs) (sym c.1) (in_right (Block x) cut.before c.0 i))

        in_onward : TwoCuts c.0 Marker r.1 cut.sent (cut.waiting ++ cut.behind) → PartsAt k cut.sent ⊎ IsNotSent cut (length r.0)
        in_onward (inr d) = inl (c.0, d.0, d.1, low, λ x i. r.4 x (subst (λ (xs : List Item). In (Block x) xs) (sym d.2) (in_left (Block x) d.0 (cut.waiting ++ cut.behind) i)))
        in_onward (inl d) =
            let a = ap length c.1 ∙ length-append cut.before c.0 in
            let b = ap length d.1 ∙ length-append cut.sent d.0 in
            inr (inr (omega (arith, a, b)))

    passed : AllUsed q → told_by cut.sent q ≡ cut.sent
    passed a =
        ap (replaced (text_entries q.sent q.source) cut.sent) (told_whole q iq a)
        ∙ all_groups (text_entries q.sent q.source) cut.sent none_sent (rising_entries q.sent q.source) carried

-- ---- any two hops
-- what is told in pieces is what is heard in pieces
pub pieces_are : (cutting : List ℕ → List (List ℕ)) → IsCutting cutting → (p : Hop) → IsHop p → texts (pieces_told cutting p) ≡ pieces_heard cutting p
pieces_are cutting c p ip = texts_cut cutting c (told p) ∙ ap (flat_map cutting) (sym (l1 p.wait p.sent ip.lawful p.came ip.come p.source))

pub hops_law : (cutting : List ℕ → List (List ℕ)) → IsCutting cutting → (p q : Hop) → IsHop p → IsHop q → (n : ℕ) (shared rest : List (List ℕ)) (part : IsPart n (pieces_heard cutting p) shared) → CarriesFront q.sent q.source shared rest
    → PieceHeadlineAt cutting p q part.before rest part.after
hops_law cutting c p q ip iq n shared rest part carries =
    let s = split_items part.before (shared ++ part.after) (pieces_told cutting p) (pieces_are cutting c p ip ∙ part.whole) in
    let g : Groups (map (λ (y : Placed). y.text) (text_entries q.sent q.source)) (shared ++ part.after) (rest ++ part.after) =
    subst (λ (es : List (List ℕ)). Groups es (shared ++ part.after) (rest ++ part.after)) (entries_are q.source [] q.sent.entries) (groups_more _ shared rest part.after carries) in
    let f = front_of (text_entries q.sent q.source) s.1 (rest ++ part.after)
    (subst (λ (ts : List (List ℕ)). Groups (map (λ (y : Placed). y.text) (text_entries q.sent q.source)) ts (rest ++ part.after)) (sym s.4) g) in
    let t = split_items rest part.after f.still f.left in
    let cut : Cut = record { before = s.0; sent = f.sent; waiting = t.0; behind = t.1 } in
    (cut, record { before = s.3; waiting = t.3; behind = t.4 }, headline_law cutting c p q ip iq cut (cut_again (pieces_told cutting p) s.0 s.1 f.sent f.still t.0 t.1 s.2 f.is t.2) f.carried)

-- What two hops tell where the first is that of several senders.
use Rattle.std.proofs.Common.{◌≡◌, ℕ, ◌<◌, ◌≤◌, ◌⊎◌, inl, inr, List, [], ◌∷◌, ◌++◌, length, length-append, refl, ap, subst, sym, ◌∙◌, arith}
use Rattle.std.specs.Prelude.{map}
use Rattle.std.specs.List.{AllByRecursion, concat, flat_map}
use Rattle.std.proofs.lemmas.Bool.{cases_eq, cases_lt}
use Rattle.stream_spec.specs.Lists.{In}
use Rattle.stream_spec.specs.History.{Placed}
use Rattle.stream_spec.specs.Kept.{Item, Marker, Block, Parts, Rising, blocks_in, texts}
use Rattle.stream_spec.specs.Carries.{CarriesFront, Groups}
use Rattle.stream_spec.proofs.Blocks.{blocks_in_append, in_blocks_in, l2_rises}
use Rattle.stream_spec.proofs.Lists.{in_append, in_left, in_right}
use Rattle.stream_spec.proofs.Places.{same_place_after}
use Rattle.stream_spec.proofs.Walks.{l1}
use Rattle.mixer_spec.specs.Laws.{PartsAt}
use Rattle.mixer_spec.specs.Through.{group_of, replaced, text_entries}
use Rattle.mixer_spec.specs.Headline.{Hop, IsBlock, IsHop, IsLostBehind, IsMarkerBehind, OneHop, group, told, told_by, used}
use Rattle.mixer_spec.proofs.BothHops.{Front, front_of, is_told, entry_block, block_entry, each_said}
use Rattle.mixer_spec.proofs.HopMarkers.{Home, TwoCuts, above_place, around, below_place, home, marker_came, marker_lost, rising_entries, second_marker, two_cuts}
use Rattle.mixer_spec.proofs.HopOrder.{Segments, block_from, from_block, group_order, group_within, parts, replaced_rises}
use Rattle.mixer_spec.proofs.HopWhole.{all_groups}
use Rattle.mixer_spec.proofs.OneHop.{absent_lost, block_is, lost_absent, one_hop, parts_between, places_of, told_whole}
use Rattle.mixer_spec.proofs.Through.{Carry, NoneEmpty, carry_of, entries_are, hops_text, none_left}
use Rattle.mixer_spec.specs.Pieces.{IsCutting, IsPieceOf, in_pieces}
use Rattle.mixer_spec.proofs.PieceTold.{FitAddresses, apart_within, from_piece, one_block, parts_pieces, piece_from, pieces_apart, pieces_none_empty, pieces_rise, pieces_some, texts_cut}
use Rattle.live_spec.specs.InTurn.{AreHops, HoldsOfOne, InTurn, IsLostBlock, IsMarkedBlock, heard_in_turn, pieces_in_turn, told_in_turn}
use Rattle.live_spec.proofs.Turns.{of_one, turn_blocks, turn_fits, turn_lost, turn_markers, turn_rises, turn_same, turn_texts, turn_told}
use Rattle.stream_spec.proofs.Gaps.{in_blocks as block_in}

-- ---- the entries of the second hop
firsts_of : (before : List Hop) → AllByRecursion IsHop before → AllByRecursion OneHop before
firsts_of [] a = tt
firsts_of (p ∷ before) a = (one_hop p a.0, firsts_of before a.1)

-- ---- both
both_law : (cutting : List ℕ → List (List ℕ)) → IsCutting cutting → (before : List Hop) (last q : Hop) → AreHops before last → IsHop q → (sent waiting : List Item) → pieces_in_turn cutting before last ≡ sent ++ waiting
    → Groups (map (λ (y : Placed). y.text) (text_entries q.sent q.source)) (texts sent) []
    → InTurn cutting before last q sent waiting
both_law cutting c before last q hops iq sent waiting is carried = record {
  firsts = firsts_of before hops.before;
  first = one_hop last hops.last;
  second = one_hop q iq;
  is = is;
  text = l1 q.wait q.sent iq.lawful q.came iq.come q.source ∙ each_said q sent (told q) carry (λ y i. block_entry q y (block_is q iq y i));
  joined = ap concat (l1 q.wait q.sent iq.lawful q.came iq.come q.source) ∙ sym (hops_text q.sent (used q) q.source sent (places_of q iq) carry);
  pieces = λ k i. let r = block_from (text_entries q.sent q.source) sent (told q) k i in origin k (of_all (Block k) (group_within (text_entries q.sent q.source) sent r.0 (Block k) r.2));
  order = apart_within (blocks_in all) (blocks_in (told_by sent q)) (pieces_apart cutting c whole whole_rises fit) (pieces_some cutting c whole)
      (replaced_rises (text_entries q.sent q.source) sent (told q) (rising_entries q.sent q.source) rises.left rises_second) within_all;
  absent = λ x k b w. (why x k b w, gone x k b w);
  marked_behind = λ k l w. second_marker q.sent (used q) q.source sent k l.entry rises.left (places_of q iq) l.is_block.sent l.is_block.source l.carries
      (parts_between q iq l.entry l.is_block (lost_absent q iq l.entry l.lost) w);
  marker_stands = λ x k h w. parts_pieces cutting c whole x k fit (turn_fits 0 before last x hops (marked_block x h)) w (turn_markers 0 before last x hops h);
  marker_is = λ k m. marker_in k m;
  marked = λ k r. stands k r;
  passed = λ a. ap (replaced (text_entries q.sent q.source) sent) (told_whole q iq a) ∙ all_groups (text_entries q.sent q.source) sent none_sent (rising_entries q.sent q.source) carried;
}
  where
    whole : List Item
    whole = told_in_turn 0 before last

    all : List Item
    all = in_pieces cutting (told_in_turn 0 before last)

    fit : FitAddresses (told_in_turn 0 before last)
    fit = λ x i. turn_fits 0 before last x hops (turn_blocks 0 before last x hops i)

    whole_rises : Rising (blocks_in (told_in_turn 0 before last))
    whole_rises = turn_rises 0 before last hops

    marked_block : (x : Placed) → HoldsOfOne IsMarkedBlock 0 before last x → HoldsOfOne IsBlock 0 before last x
    marked_block x h = of_one IsMarkedBlock IsBlock (λ p ip k m. m.block) 0 before last x hops h

    of_all : (y : Item) → In y sent → In y all
    of_all y i = subst (λ (xs : List Item). In y xs) (sym is) (in_left y sent waiting i)

    origin : (k : Placed) → In (Block k) all → (x : Placed) × HoldsOfOne IsBlock 0 before last x × IsPieceOf cutting x k
    origin k i = let r = piece_from cutting whole k i in (r.0, turn_blocks 0 before last r.0 hops r.1, r.2)

    within_all : (k : Placed) → In k (blocks_in (told_by sent q)) → In k (blocks_in all)
    within_all k i =
        let r = block_from (text_entries q.sent q.source) sent (told q) k (in_blocks_in k (told_by sent q) i) in
        block_in k all (of_all (Block k) (group_within (text_entries q.sent q.source) sent r.0 (Block k) r.2))

    none_sent : NoneEmpty sent
    none_sent = none_left sent waiting (subst NoneEmpty is (pieces_none_empty cutting c whole))

    rises : Segments (blocks_in sent) (blocks_in waiting)
    rises = parts (blocks_in sent) (blocks_in waiting) (subst Rising (ap blocks_in is ∙ blocks_in_append sent waiting) (pieces_rise cutting c whole whole_rises fit))

    rises_second : Rising (blocks_in (told q))
    rises_second = l2_rises q.sent (used q) q.source (places_of q iq)

    carry : Carry (text_entries q.sent q.source) sent
    carry = carry_of (text_entries q.sent q.source) sent [] none_sent carried

    -- what waits is not sent on
    not_waiting : (k : Placed) → In (Block k) waiting → In (Block k) sent → ⊥
    not_waiting k i j = let l = rises.cross k k (block_in k sent j) (block_in k waiting i) in omega (arith, l)

    -- the entry that carries a piece
    carrier : (k : Placed) → In (Block k) sent → (y : Placed) × In y (text_entries q.sent q.source) × In (Block k) (group sent q y)
    carrier k i =
        let s = around sent (Block k) i in
        let h = home (text_entries q.sent q.source) sent s.0 (Block k) s.1 none_sent (rising_entries q.sent q.source) carried s.2 in
        (h.entry, h.is_in, subst (λ (xs : List Item). In (Block k) xs) (sym h.is) (in_right (Block k) h.before (Block k ∷ h.behind) (inl refl)))

    -- why a piece k of the block x is absent
    Why : Placed → Placed → Type 0
    Why x k = HoldsOfOne IsLostBlock 0 before last x ⊎ (IsLostBehind q sent k ⊎ In (Block k) waiting)

    why : (x k : Placed) → HoldsOfOne IsBlock 0 before last x → IsPieceOf cutting x k → (In (Block k) (told_by sent q) → ⊥) → Why x k
    why x k b w m = elim (turn_told 0 before last x hops b) [
      | inr l ↦ inl l
      | inl i ↦ elim (in_append (Block k) sent waiting (subst (λ (xs : List Item). In (Block k) xs) is (from_piece cutting whole x k i w))) [
        | inr j ↦ inr (inr j)
        | inl j ↦ let z = carrier k j in inr (inl (behind z))
      ]
    ]
      where
        behind : (y : Placed) × In y (text_entries q.sent q.source) × In (Block k) (group sent q y) → IsLostBehind q sent k
        behind z = elim (is_told q iq z.0 (entry_block q z.0 z.1)) [
          | inl t ↦ absurd (m (from_block (text_entries q.sent q.source) sent (told q) k z.0 t z.2))
          | inr t ↦ record { entry = z.0; is_block = entry_block q z.0 z.1; carries = z.2; lost = absent_lost q iq z.0 (entry_block q z.0 z.1) t }
        ]

    -- the block of a piece that is told is told
    told_block : (x k : Placed) → HoldsOfOne IsBlock 0 before last x → IsPieceOf cutting x k → In (Block k) all → In (Block x) whole
    told_block x k b w i =
        let r = piece_from cutting whole k i in
        let s = turn_blocks 0 before last r.0 hops r.1 in
        let e = one_block cutting c x r.0 k (turn_fits 0 before last x hops b) (turn_fits 0 before last r.0 hops s) w r.2 in
        subst (λ (z : Placed). In (Block z) whole) (turn_same 0 before last r.0 x s b e) r.1

    gone : (x k : Placed) → HoldsOfOne IsBlock 0 before last x → IsPieceOf cutting x k → Why x k → In (Block k) (told_by sent q) → ⊥
    gone x k b w y i = let r = block_from (text_entries q.sent q.source) sent (told q) k i in from r y
      where
        from : (y : Placed) × In (Block y) (told q) × In (Block k) (group_of (text_entries q.sent q.source) sent y) → Why x k → ⊥
        from r (inl l) = turn_lost 0 before last x hops l (told_block x k b w (of_all (Block k) (group_within (text_entries q.sent q.source) sent r.0 (Block k) r.2)))
        from r (inr (inr j)) = not_waiting k j (group_within (text_entries q.sent q.source) sent r.0 (Block k) r.2)
        from r (inr (inl l)) = lost_absent q iq l.entry l.lost (subst (λ (y : Placed). In (Block y) (told q)) same r.1)
          where
            order : (y z : Placed) → In (Block k) (group sent q y) → In (Block k) (group sent q z) → y.place < z.place → ⊥
            order y z i j d = let e = group_order (text_entries q.sent q.source) sent y z k k (rising_entries q.sent q.source) rises.left d i j in omega (arith, e)

            same : r.0 ≡ l.entry
            same = elim (cases_eq r.0.place l.entry.place) [
              | inl e ↦ same_place_after [] q.sent.entries r.0 l.entry (block_is q iq r.0 r.1).sent l.is_block.sent e
              | inr d ↦ absurd (either d)
            ]
              where
                either : (r.0.place ≡ l.entry.place → ⊥) → ⊥
                either d = elim (cases_lt r.0.place l.entry.place) [
                  | inl less ↦ order r.0 l.entry r.2 l.carries less
                  | inr more ↦ order l.entry r.0 l.carries r.2 (omega (arith, more, d))
                ]

    -- where a marker is sent on it stands behind both
    stands : (x : Placed) (r : PartsAt x sent) → IsMarkerBehind q sent x
    stands x r = found (home (text_entries q.sent q.source) sent r.0 Marker r.1 none_sent (rising_entries q.sent q.source) carried r.2)
      where
        found : Home (text_entries q.sent q.source) sent r.0 Marker r.1 → IsMarkerBehind q sent x
        found h = record {
          entry = h.entry;
          is_block = entry_block q h.entry h.is_in;
          carries = subst (λ (xs : List Item). In Marker xs) (sym h.is) (in_right Marker h.before (Marker ∷ h.behind) (inl refl));
          stands = λ w. elim w [
            | inl i ↦ came (around (told q) (Block h.entry) i)
            | inr w ↦ elim (is_told q iq h.entry (entry_block q h.entry h.is_in)) [
              | inl i ↦ came (around (told q) (Block h.entry) i)
              | inr n ↦ lost (parts_between q iq h.entry (entry_block q h.entry h.is_in) n w)
            ]
          ];
        }
          where
            came : (us : List Item) × (vs : List Item) × (told q ≡ us ++ Block h.entry ∷ vs) → PartsAt x (told_by sent q)
            came s =
                let g = parts (blocks_in s.0) (h.entry ∷ blocks_in s.1) (subst Rising (ap blocks_in s.2 ∙ blocks_in_append s.0 (Block h.entry ∷ s.1)) rises_second) in
                subst (PartsAt x) (sym (ap (replaced (text_entries q.sent q.source) sent) s.2))
                (marker_came (text_entries q.sent q.source) sent r.0 r.1 s.0 s.1 x h r.3 r.4
                (λ y i. g.cross y h.entry (block_in y s.0 i) (inl refl)) (λ y i. g.right.0 y (block_in y s.1 i)))

            lost : Parts h.entry (told q) → PartsAt x (told_by sent q)
            lost s =
                let b = entry_block q h.entry h.is_in in
                subst (PartsAt x) (sym (ap (replaced (text_entries q.sent q.source) sent) s.2))
                (marker_lost (text_entries q.sent q.source) sent r.0 r.1 s.0 s.1 x h r.3 r.4
                (λ y i. below_place q.sent (used q) q.source y h.entry (places_of q iq) (subst (λ (xs : List Item). In (Block y) xs) (sym s.2) (in_left (Block y) s.0 (Marker ∷ s.1) i)) b.sent b.source (s.3 y i))
                (λ y i. above_place q.sent (used q) q.source y h.entry (places_of q iq) (subst (λ (xs : List Item). In (Block y) xs) (sym s.2) (in_right (Block y) s.0 (Marker ∷ s.1) (inr i))) b.sent b.source (s.4 y i)))

    -- in which part a marker stands
    marker_in : (x : Placed) (m : PartsAt x all) → PartsAt x sent ⊎ (length sent ≤ length m.0)
    marker_in x m = found (two_cuts m.0 Marker m.1 sent waiting (sym m.2 ∙ is))
      where
        found : TwoCuts m.0 Marker m.1 sent waiting → PartsAt x sent ⊎ (length sent ≤ length m.0)
        found (inl d) = let a = ap length d.1 ∙ length-append sent d.0 in inr (omega (arith, a))
        found (inr d) = inl (m.0, d.0, d.1, m.3, λ y i. m.4 y (subst (λ (xs : List Item). In (Block y) xs) (sym d.2) (in_left (Block y) d.0 waiting i)))

-- where the second hop carries a front of what is heard of them
pub turn_law : (cutting : List ℕ → List (List ℕ)) → IsCutting cutting → (before : List Hop) (last q : Hop) → AreHops before last → IsHop q → (rest : List (List ℕ)) → CarriesFront q.sent q.source (flat_map cutting (heard_in_turn before last)) rest
    → (sent : List Item) × (waiting : List Item) × (texts waiting ≡ rest) × InTurn cutting before last q sent waiting
turn_law cutting c before last q hops iq rest k =
    let all = pieces_in_turn cutting before last in
    let told_are : texts all ≡ flat_map cutting (heard_in_turn before last) = texts_cut cutting c (told_in_turn 0 before last) ∙ ap (flat_map cutting) (turn_texts 0 before last hops) in
    let g : Groups (map (λ (y : Placed). y.text) (text_entries q.sent q.source)) (flat_map cutting (heard_in_turn before last)) rest =
    subst (λ (es : List (List ℕ)). Groups es (flat_map cutting (heard_in_turn before last)) rest) (entries_are q.source [] q.sent.entries) k in
    let f : Front (text_entries q.sent q.source) all rest =
    front_of (text_entries q.sent q.source) all rest (subst (λ (ts : List (List ℕ)). Groups (map (λ (y : Placed). y.text) (text_entries q.sent q.source)) ts rest) (sym told_are) g) in
    (f.sent, f.still, f.left, both_law cutting c before last q hops iq f.sent f.still f.is f.carried)

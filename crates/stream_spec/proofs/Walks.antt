-- What is heard is what is kept.
use Rattle.std.proofs.Common.{◌≡◌, ℕ, zero, suc, ◌+◌, ◌-◌, ◌^◌, ◌<◌, ◌≤◌, Bool, true, false, cond, not, inl, inr, Option, Some, None, List, [], ◌∷◌, ◌++◌, refl, ap, subst, sym, ◌∙◌, arith, append_assoc}
use Rattle.std.specs.Prelude.{filter, map, ◌&&◌, ◌==◌, nat_lt, nat_le, if◌then◌else◌}
use Rattle.std.proofs.lemmas.Bool.{cases_lt, cases_order, leb-true, lt-ltb, le-ltb, le-leb, and_parts}
use Rattle.std.proofs.lemmas.Bool.Decides.{nat_tests}
use Rattle.std.proofs.lemmas.List.{append-nil, map-append}
use Rattle.wire_spec.specs.Packets.{Packet, Arrival, back, has_text}
use Rattle.rtt_base.specs.declared.blocks.TextBlock.{TextBlock}
use Rattle.stream_spec.specs.Numbering.{number_it, Numbered, numbered, first_number, has_number, in_time, used, is_given_up}
use Rattle.stream_spec.specs.Hearing.{missing, missing_between, missing_before, is_new, is_marked, oldest_offset, text_list, older_texts, piece, marker, heard_over, heard, is_packet_of}
use Rattle.std.specs.List.{AllZip}
use Rattle.stream_spec.specs.Lists.{In}
use Rattle.stream_spec.proofs.Lists.{HeadedBy, headed_with}
use Rattle.stream_spec.specs.History.{History, Placed, placed, window, nones, slots, Repeats, IsPacket, Lawful, Come, entry_of, by_place, places}
use Rattle.stream_spec.specs.Kept as k
use Rattle.stream_spec.specs.Kept.{Item, Marker, has_place, least_place, is_above, is_linked_after, lost_before, blocks_of, has_marker, items_of, kept_over, kept, is_entry_of, text_of, texts, Rising, ArePlaces}
use Rattle.stream_spec.proofs.Timestamps.{after_back}
use Rattle.stream_spec.proofs.Places.{index_rises, place_rises}
use Rattle.stream_spec.proofs.Blocks.{Walk, next, walk_of, in_window, carried}
use Rattle.stream_spec.proofs.Matched.{Matches, IsFirst, counted, first_is, matched, places_rise}

-- ---- missing numbers and missing places
missing_moved : (f g : ℕ → Bool) (lo lo' n : ℕ) → ((i : ℕ) → f (lo + i) ≡ g (lo' + i)) → missing f lo n ≡ missing g lo' n
missing_moved f g lo lo' zero e = refl
missing_moved f g lo lo' (suc n) e = rw (e n, missing_moved f g lo lo' n e)

abbrev pub SameTests : ℕ → ℕ → (ℕ → Bool) → (ℕ → Bool) → Type 0
SameTests p d f g = (n k : ℕ) → n + p ≡ k + d → f n ≡ g k

between_moved : (f g : ℕ → Bool) (p d m n k l : ℕ) → SameTests p d f g → m + p ≡ k + d → n + p ≡ l + d → missing_between f m n ≡ missing_between g k l
between_moved f g p d m n k l e a b =
    let len : n - (m + 1) ≡ l - (k + 1) = omega arith in
    ap (missing f (m + 1)) len ∙ missing_moved f g (m + 1) (k + 1) (l - (k + 1)) (λ i. e (m + 1 + i) (k + 1 + i) (omega arith))

pub same_tests : (h : History) (p d : ℕ) (us : List Numbered) (xs : List Placed) → AllZip (Matches h p d) us xs → SameTests p d (has_number us) (has_place xs)
same_tests h p d [] [] q n k e = refl
same_tests h p d [] (x ∷ xs) q n k e = absurd q
same_tests h p d (u ∷ us) [] q n k e = absurd q
same_tests h p d (u ∷ us) (x ∷ xs) q n k e = rw (tests u.number n x.place k q.0.number e, same_tests h p d us xs q.1 n k e)
  where
    tests : (m n k l : ℕ) → m + p ≡ k + d → n + p ≡ l + d → (m == n) ≡ (k == l)
    tests m n k l a b = grind (arith, nat_tests)

-- ---- the packet before
abbrev pub PrevMatches : History → ℕ → ℕ → Option Numbered → Option Placed → Type 0
PrevMatches h p d None None = Unit {0}
PrevMatches h p d None (Some y) = ⊥
PrevMatches h p d (Some a) None = ⊥
PrevMatches h p d (Some a) (Some y) = Matches h p d a y

-- prev lies before x, in the same source
abbrev pub PrevBefore : History → Option Placed → Placed → Type 0
PrevBefore h None x = Unit {0}
PrevBefore h (Some y) x = In y (placed h) × (y.source ≡ x.source) × (y.place < x.place)

-- whether what lies offset before x is new
abbrev pub new_at : Option Placed → Placed → ℕ → Bool
new_at None x offset = true
new_at (Some y) x offset = nat_lt (y.media + offset) x.media

pub new_is : (h : History) (law : Lawful h) (p d : ℕ) (prev : Option Numbered) (prev' : Option Placed) (b : Packet) (x : Placed) (offset : ℕ) → PrevMatches h p d prev prev' → PrevBefore h prev' x
    → In x (placed h) → IsPacket h x b → offset < 2 ^ 31 → is_new prev (back b.timestamp offset) ≡ new_at prev' x offset
new_is h law p d None None b x offset m l i is o = refl
new_is h law p d None (Some y) b x offset m l i is o = absurd m
new_is h law p d (Some a) None b x offset m l i is o = absurd m
new_is h law p d (Some a) (Some y) b x offset m l i is o =
    let below = law.rises y x l.0 i l.1 l.2 in
    let span = law.spans x y i l.0 in
    rw (is.timestamp, m.is.timestamp) (after_back h.base x.media y.media offset span (omega arith) o (omega arith))

linked_is : (prev' : Option Placed) (x : Placed) → is_linked_after prev' x ≡ new_at prev' x x.reach
linked_is None x = refl
linked_is (Some y) x = refl

lost_is : (h : History) (p d : ℕ) (f g : ℕ → Bool) (first least : ℕ) (prev : Option Numbered) (prev' : Option Placed) (b : Numbered) (x : Placed) → SameTests p d f g → first + p ≡ least + d
    → PrevMatches h p d prev prev' → Matches h p d b x → missing_before f first prev b ≡ lost_before g least prev' x
lost_is h p d f g first least None None b x e z m q = between_moved f g p d first b.number least x.place e z q.number
lost_is h p d f g first least None (Some y) b x e z m q = absurd m
lost_is h p d f g first least (Some a) None b x e z m q = absurd m
lost_is h p d f g first least (Some a) (Some y) b x e z m q = between_moved f g p d a.number b.number y.place x.place e m.number q.number

marker_is : (h : History) (law : Lawful h) (p d : ℕ) (f g : ℕ → Bool) (first least : ℕ) (prev : Option Numbered) (prev' : Option Placed) (b : Numbered) (x : Placed) → SameTests p d f g → first + p ≡ least + d
    → PrevMatches h p d prev prev' → PrevBefore h prev' x → Matches h p d b x → is_marked f first prev b ≡ has_marker g least prev' x
marker_is h law p d f g first least prev prev' b x e z m l q =
    let fits = law.reach x q.within in
    let oldest = q.is.oldest in
    let new : is_new prev (back b.packet.timestamp (oldest_offset b.packet.older)) ≡ is_linked_after prev' x =
    new_is h law p d prev prev' b.packet x (oldest_offset b.packet.older) m l q.within q.is (omega arith) ∙ (ap (new_at prev' x) oldest ∙ sym (linked_is prev' x)) in
    let lost = lost_is h p d f g first least prev prev' b x e z m q in
    rw (new, lost, q.is.count)

-- ---- the texts of the blocks
abbrev pub somes : List (Option Placed) → List Placed
somes [] = []
somes (None ∷ xs) = somes xs
somes (Some x ∷ xs) = x ∷ somes xs

somes_nones : (n : ℕ) (xs : List (Option Placed)) → somes (nones n ++ xs) ≡ somes xs
somes_nones zero xs = refl
somes_nones (suc n) xs = somes_nones n xs

somes_map : (xs : List Placed) → somes (map Some xs) ≡ xs
somes_map [] = refl
somes_map (x ∷ xs) = ap (λ ys. x ∷ ys) (somes_map xs)

abbrev pub block_item : Option Placed → Placed → List Item
block_item prev y = if is_above prev y && has_text y.text then k.Block y ∷ [] else []

blocks_append : (prev : Option Placed) (xs ys : List Placed) → blocks_of prev (xs ++ ys) ≡ blocks_of prev xs ++ blocks_of prev ys
blocks_append prev [] ys = refl
blocks_append prev (x ∷ xs) ys = ap (λ zs. block_item prev x ++ zs) (blocks_append prev xs ys) ∙ sym (append_assoc (block_item prev x) (blocks_of prev xs) (blocks_of prev ys))

-- above the one before, in index and in media time
above_is : (h : History) (law : Lawful h) (prev' : Option Placed) (x y : Placed) (offset : ℕ) → PrevBefore h prev' x → In y (placed h) → y.source ≡ x.source → offset + y.media ≡ x.media → new_at prev' x offset ≡ is_above prev' y
above_is h law None x y offset l i s e = refl
above_is h law (Some a) x y offset l i s e = elim (cases_order a.place y.place) [
  | inl q ↦ let m1 = law.orders a y l.0 i (omega arith) in let m2 = law.orders y a i l.0 (omega arith) in
      let ix = above_not q in rw (le-ltb (a.media + offset) x.media (omega arith), ix) refl
  | inr (inl lt) ↦ let m1 = law.rises a y l.0 i (l.1 ∙ sym s) lt in let ix = index_rises h a y l.0 i (l.1 ∙ sym s) lt in rw (lt-ltb (a.media + offset) x.media (omega arith), lt-ltb a.index y.index ix) refl
  | inr (inr gt) ↦ let m1 = law.rises y a i l.0 (s ∙ sym l.1) gt in let ix = index_rises h y a i l.0 (s ∙ sym l.1) gt in rw (le-ltb (a.media + offset) x.media (omega arith), le-ltb a.index y.index (omega arith)) refl
]
  where
    above_not : a.place ≡ y.place → nat_lt a.index y.index ≡ false
    above_not q = elim (cases_lt a.index y.index) [ inl t ↦ let u = place_rises h a y l.0 i (l.1 ∙ sym s) t in absurd (omega arith) | inr t ↦ le-ltb a.index y.index t ]

no_text : (t : List ℕ) → has_text t ≡ false → text_list t ≡ []
no_text t e = rw e

-- one block
block_is : (h : History) (law : Lawful h) (p d : ℕ) (prev : Option Numbered) (prev' : Option Placed) (b : Packet) (x y : Placed) (c : TextBlock) → PrevMatches h p d prev prev' → PrevBefore h prev' x
    → In x (placed h) → IsPacket h x b → In y (placed h) → y.source ≡ x.source → Repeats x c (Some y)
    → (if is_new prev (back b.timestamp c.offset) then text_list c.text else []) ≡ texts (block_item prev' y)
block_is h law p d prev prev' b x y c m l i is j s r = go (has_text y.text) refl (is_above prev' y) refl
  where
    short : c.offset < 2 ^ 31
    short = let span = law.spans x y i j in let le = r.1 in omega arith

    empty : (t : Bool) → has_text y.text ≡ false → (if t then text_list c.text else []) ≡ []
    empty true e = ap text_list r.0 ∙ no_text y.text e
    empty false e = refl

    go : (t : Bool) → has_text y.text ≡ t → (u : Bool) → is_above prev' y ≡ u → (if is_new prev (back b.timestamp c.offset) then text_list c.text else []) ≡ texts (block_item prev' y)
    go false e true f = rw (f, e) (empty (is_new prev (back b.timestamp c.offset)) e)
    go false e false f = rw f (empty (is_new prev (back b.timestamp c.offset)) e)
    go true e u f =
        let new = new_is h law p d prev prev' b x c.offset m l i is short ∙ above_is h law prev' x y c.offset l j s (r.2 e) in
        rw (new, r.0, f, e) (both u)
      where
        both : (u : Bool) → (if u then y.text ∷ [] else []) ≡ texts (if u && true then k.Block y ∷ [] else [])
        both true = refl
        both false = refl

-- the redundant blocks
older_is : (h : History) (law : Lawful h) (p d : ℕ) (prev : Option Numbered) (prev' : Option Placed) (b : Packet) (x : Placed) (cs : List TextBlock) (sl : List (Option Placed)) → PrevMatches h p d prev prev' → PrevBefore h prev' x
    → In x (placed h) → IsPacket h x b → AllZip (Repeats x) cs sl → ((y : Placed) → In y (somes sl) → In y (placed h) × (y.source ≡ x.source))
    → older_texts prev b.timestamp cs ≡ texts (blocks_of prev' (somes sl))
older_is h law p d prev prev' b x [] [] m l i is q f = refl
older_is h law p d prev prev' b x [] (s ∷ sl) m l i is q f = absurd q
older_is h law p d prev prev' b x (c ∷ cs) [] m l i is q f = absurd q
older_is h law p d prev prev' b x (c ∷ cs) (None ∷ sl) m l i is q f =
    let r = older_is h law p d prev prev' b x cs sl m l i is q.1 f in
    ap (λ ts. ts ++ older_texts prev b.timestamp cs) (empty (is_new prev (back b.timestamp c.offset))) ∙ r
  where
    empty : (t : Bool) → (if t then text_list c.text else []) ≡ []
    empty true = ap text_list q.0
    empty false = refl
older_is h law p d prev prev' b x (c ∷ cs) (Some y ∷ sl) m l i is q f =
    let r = older_is h law p d prev prev' b x cs sl m l i is q.1 (λ z j. f z (inr j)) in
    let g = f y (inl refl) in
    let e = block_is h law p d prev prev' b x y c m l i is g.0 g.1 q.0 in
    ap (λ ts. ts ++ older_texts prev b.timestamp cs) e ∙ (ap (λ ts. texts (block_item prev' y) ++ ts) r ∙ sym (map-append text_of (block_item prev' y) (blocks_of prev' (somes sl))))

prev_above : (h : History) (prev' : Option Placed) (x : Placed) → PrevBefore h prev' x → In x (placed h) → is_above prev' x ≡ true
prev_above h None x l i = refl
prev_above h (Some y) x l i = lt-ltb y.index x.index (index_rises h y x l.0 i l.1 l.2)

own_text : (x : Placed) → text_list x.text ≡ texts (if has_text x.text then k.Block x ∷ [] else [])
own_text x = go (has_text x.text)
  where
    go : (t : Bool) → (if t then x.text ∷ [] else []) ≡ texts (if t then k.Block x ∷ [] else [])
    go true = refl
    go false = refl

-- what one packet gives
pub piece_is : (h : History) (law : Lawful h) (p d : ℕ) (f g : ℕ → Bool) (first least : ℕ) (prev : Option Numbered) (prev' : Option Placed) (b : Numbered) (x : Placed) → SameTests p d f g → first + p ≡ least + d
    → PrevMatches h p d prev prev' → PrevBefore h prev' x → Matches h p d b x → piece f first prev b ≡ texts (items_of h g least prev' x)
piece_is h law p d f g first least prev prev' b x e z m l q =
    let same : somes (slots h x) ≡ window h x = somes_nones (x.generations - x.index) (map Some (window h x)) ∙ somes_map (window h x) in
    let older = older_is h law p d prev prev' b.packet x b.packet.older (slots h x) m l q.within q.is q.is.older
    (λ y j. let r = in_window h x y (subst (λ (ys : List Placed). In y ys) same j) in (r.0, r.1)) in
    let older' : older_texts prev b.packet.timestamp b.packet.older ≡ texts (blocks_of prev' (window h x)) = older ∙ ap (λ ys. texts (blocks_of prev' ys)) same in
    let own : text_list b.packet.primary ≡ texts (blocks_of prev' (x ∷ [])) =
    ap text_list q.is.primary ∙ (own_text x ∙ ap texts (sym (append-nil (block_item prev' x) ∙ ap (λ t. if t && has_text x.text then k.Block x ∷ [] else []) (prev_above h prev' x l q.within)))) in
    let markers = marker_is h law p d f g first least prev prev' b x e z m l q in
    let all : older_texts prev b.packet.timestamp b.packet.older ++ text_list b.packet.primary ≡ texts (blocks_of prev' (carried h x)) =
    ap (λ ts. ts ++ text_list b.packet.primary) older' ∙ (ap (λ ts. texts (blocks_of prev' (window h x)) ++ ts) own
    ∙ (sym (map-append text_of (blocks_of prev' (window h x)) (blocks_of prev' (x ∷ []))) ∙ ap texts (sym (blocks_append prev' (window h x) (x ∷ []))))) in
    rw markers (go (has_marker g least prev' x) all)
  where
    go : (t : Bool) → older_texts prev b.packet.timestamp b.packet.older ++ text_list b.packet.primary ≡ texts (blocks_of prev' (carried h x))
        → (if t then marker ∷ [] else []) ++ (older_texts prev b.packet.timestamp b.packet.older ++ text_list b.packet.primary) ≡ texts ((if t then Marker ∷ [] else []) ++ blocks_of prev' (carried h x))
    go true a = ap (λ ts. marker ∷ ts) a
    go false a = a

first_before : (h : History) (s : ℕ) (prev' : Option Placed) (x : Placed) (xs : List Placed) → Walk h s prev' (x ∷ xs) → PrevBefore h prev' x
first_before h s None x xs w = tt
first_before h s (Some y) x xs w = let f = w.follows in (f.0, f.1 ∙ sym (w.own x (inl refl)), f.2 x (inl refl))

-- a whole walk
pub walk_is : (h : History) (law : Lawful h) (p d s : ℕ) (f g : ℕ → Bool) (first least : ℕ) (prev : Option Numbered) (prev' : Option Placed) (us : List Numbered) (xs : List Placed) → SameTests p d f g → first + p ≡ least + d
    → PrevMatches h p d prev prev' → Walk h s prev' xs → AllZip (Matches h p d) us xs → heard_over f first prev us ≡ texts (kept_over h g least prev' xs)
walk_is h law p d s f g first least prev prev' [] [] e z m w q = refl
walk_is h law p d s f g first least prev prev' [] (x ∷ xs) e z m w q = absurd q
walk_is h law p d s f g first least prev prev' (u ∷ us) [] e z m w q = absurd q
walk_is h law p d s f g first least prev prev' (u ∷ us) (x ∷ xs) e z m w q =
    let one = piece_is h law p d f g first least prev prev' u x e z m (first_before h s prev' x xs w) q.0 in
    let rest = walk_is h law p d s f g first least (Some u) (Some x) us xs e z q.0 (next h s prev' x xs w) q.1 in
    ap (λ ts. ts ++ heard_over f first (Some u) us) one ∙ (ap (λ ts. texts (items_of h g least prev' x) ++ ts) rest
    ∙ sym (map-append text_of (items_of h g least prev' x) (kept_over h g least (Some x) xs)))

-- ---- the packets of one source
pub pairs_filter : (h : History) (p d s : ℕ) (us : List Numbered) (xs : List Placed) → AllZip (Matches h p d) us xs → AllZip (Matches h p d) (filter (is_packet_of s) us) (filter (is_entry_of s) xs)
pairs_filter h p d s [] [] q = tt
pairs_filter h p d s [] (x ∷ xs) q = absurd q
pairs_filter h p d s (u ∷ us) [] q = absurd q
pairs_filter h p d s (u ∷ us) (x ∷ xs) q = rw (ap (λ n. n == s) q.0.is.source) (go (x.source == s) (pairs_filter h p d s us xs q.1))
  where
    go : (t : Bool) → AllZip (Matches h p d) (filter (is_packet_of s) us) (filter (is_entry_of s) xs)
        → AllZip (Matches h p d) (cond t (u ∷ filter (is_packet_of s) us) (filter (is_packet_of s) us)) (cond t (x ∷ filter (is_entry_of s) xs) (filter (is_entry_of s) xs))
    go true r = (q.0, r)
    go false r = r

-- ---- the least place
abbrev pub Headed : ℕ → List Placed → Type 0
Headed p xs = HeadedBy (λ x. x.place) p xs

headed_least : (p : ℕ) (xs : List Placed) → Headed p xs → least_place xs ≡ p
headed_least p [] q = absurd q
headed_least p (x ∷ xs) q = q

pub first_in_time : (wait : ℕ) (e : Numbered) → in_time wait e [] ≡ true
first_in_time wait e = rw (le-leb e.number e.number (omega arith))

pub places_headed : (wait : ℕ) (h : History) (p d : ℕ) (a : Arrival) (before : List Arrival) → IsFirst h p d (a ∷ before) → Come h (a ∷ before) → Headed p (places wait h (a ∷ before))
places_headed wait h p d a [] f c = rw (first_in_time wait (number_it [] a)) f.0
places_headed wait h p d a (b ∷ before) f c = go (in_time wait (number_it (numbered (b ∷ before)) a) (numbered (b ∷ before))) refl (places_headed wait h p d b before f c.3)
  where
    ahead : in_time wait (number_it (numbered (b ∷ before)) a) (numbered (b ∷ before)) ≡ true → p ≤ (entry_of h a.packet).place
    ahead t =
        let r = and_parts (nat_le (first_number (number_it (numbered (b ∷ before)) a).number (numbered (b ∷ before))) (number_it (numbered (b ∷ before)) a).number) (not (has_number (numbered (b ∷ before)) (number_it (numbered (b ∷ before)) a).number) && not (is_given_up wait (numbered (b ∷ before)) a.time (number_it (numbered (b ∷ before)) a).number)) t in
        let l = leb-true (first_number (number_it (numbered (b ∷ before)) a).number (numbered (b ∷ before))) (number_it (numbered (b ∷ before)) a).number r.0 in
        let first = first_is h p d (number_it (numbered (b ∷ before)) a).number b before f in
        omega (arith, l, first, (counted h p d a (b ∷ before) f c).here)

    go : (t : Bool) → in_time wait (number_it (numbered (b ∷ before)) a) (numbered (b ∷ before)) ≡ t → Headed p (places wait h (b ∷ before)) → Headed p (cond t (by_place (entry_of h a.packet) (places wait h (b ∷ before))) (places wait h (b ∷ before)))
    go true q r = headed_with (λ x. x.place) p (entry_of h a.packet) (places wait h (b ∷ before)) r (ahead q)
    go false q r = r

-- ---- what is heard is what is kept
within_of : (h : History) (p d : ℕ) (us : List Numbered) (xs : List Placed) → AllZip (Matches h p d) us xs → (x : Placed) → In x xs → In x (placed h)
within_of h p d [] [] q x i = absurd i
within_of h p d [] (y ∷ ys) q x i = absurd q
within_of h p d (u ∷ us) [] q x i = absurd i
within_of h p d (u ∷ us) (y ∷ ys) q x (inl e) = subst (λ (z : Placed). In z (placed h)) (sym e) q.0.within
within_of h p d (u ∷ us) (y ∷ ys) q x (inr i) = within_of h p d us ys q.1 x i

-- the place and the number of the first arrival
abbrev pub first_place : History → List Arrival → ℕ
first_place h [] = 0
first_place h (a ∷ []) = (entry_of h a.packet).place
first_place h (a ∷ b ∷ before) = first_place h (b ∷ before)

abbrev pub first_seq : List Arrival → ℕ
first_seq [] = 0
first_seq (a ∷ []) = a.packet.seq + 65536
first_seq (a ∷ b ∷ before) = first_seq (b ∷ before)

pub is_first : (h : History) (a : List Arrival) → IsFirst h (first_place h a) (first_seq a) a
is_first h [] = tt
is_first h (a ∷ []) = (refl, refl)
is_first h (a ∷ b ∷ before) = is_first h (b ∷ before)

-- what was used of these arrivals stands beside their places
pub beside : (wait : ℕ) (h : History) (a : List Arrival) → Come h a → AllZip (Matches h (first_place h a) (first_seq a)) (used wait (numbered a)) (places wait h a)
beside wait h a c = matched wait h (first_place h a) (first_seq a) a (is_first h a) c

-- and the first number beside the least place
pub first_beside : (wait : ℕ) (h : History) (a : Arrival) (before : List Arrival) → Come h (a ∷ before)
    → first_number 0 (numbered (a ∷ before)) + first_place h (a ∷ before) ≡ least_place (places wait h (a ∷ before)) + first_seq (a ∷ before)
first_beside wait h a before c =
    let p = first_place h (a ∷ before) in
    let d = first_seq (a ∷ before) in
    let f = is_first h (a ∷ before) in
    omega (arith, headed_least p (places wait h (a ∷ before)) (places_headed wait h p d a before f c), first_is h p d 0 a before f)

pub are_places : (wait : ℕ) (h : History) (a : List Arrival) → Come h a → ArePlaces h (places wait h a)
are_places wait h a c = record {
  within = within_of h (first_place h a) (first_seq a) (used wait (numbered a)) (places wait h a) (beside wait h a c);
  rising = places_rise wait h (first_place h a) (first_seq a) a (is_first h a) c;
}

pub l1 : (wait : ℕ) (h : History) → Lawful h → (a : List Arrival) → Come h a → (s : ℕ) → heard wait a s ≡ texts (kept h (places wait h a) s)
l1 wait h law [] c s = refl
l1 wait h law (a ∷ before) c s =
    let all = a ∷ before in
    let pairs = beside wait h all c in
    walk_is h law (first_place h all) (first_seq all) s (has_number (used wait (numbered all))) (has_place (places wait h all)) (first_number 0 (numbered all)) (least_place (places wait h all)) None None
    (filter (is_packet_of s) (used wait (numbered all))) (filter (is_entry_of s) (places wait h all)) (same_tests h (first_place h all) (first_seq all) (used wait (numbered all)) (places wait h all) pairs) (first_beside wait h a before c) tt
    (walk_of h (places wait h all) s (are_places wait h all c)) (pairs_filter h (first_place h all) (first_seq all) s (used wait (numbered all)) (places wait h all) pairs)

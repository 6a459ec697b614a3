-- What is told in pieces: the pieces of the blocks, in order and apart, with the same text and the same marks.
use Rattle.std.proofs.Common.{◌≡◌, ℕ, ◌+◌, ◌*◌, ◌<◌, ◌≤◌, true, inl, inr, List, [], ◌∷◌, ◌++◌, length, length-append, append_assoc, refl, ap, subst, sym, ◌∙◌, arith}
use Rattle.std.specs.List.{AllByRecursion, concat, flat_map}
use Rattle.std.proofs.lemmas.List.Folds.{concat-append}
use Rattle.wire_spec.specs.Packets.{has_text}
use Rattle.stream_spec.specs.Lists.{In}
use Rattle.stream_spec.specs.Hearing.{marker}
use Rattle.stream_spec.specs.History.{Placed}
use Rattle.stream_spec.specs.Kept.{Item, Marker, Block, texts, blocks_in, Rising}
use Rattle.stream_spec.proofs.Lists.{in_left, in_right, in_append}
use Rattle.stream_spec.proofs.Blocks.{blocks_in_append, in_blocks_in}
use Rattle.mixer_spec.specs.Laws.{PartsAt}
use Rattle.mixer_spec.proofs.Through.{NoneEmpty, some_octets, texts_append as items_append}
use Rattle.mixer_spec.specs.Pieces.{IsCutting, piece_at, pieces_from, pieces_of, in_pieces, IsPieceOf, Apart}
use Rattle.mixer_spec.specs.PieceLaws.{TellsPieces}
use Rattle.stream_spec.proofs.Gaps.{in_blocks as block_in}
use Rattle.mixer_spec.proofs.HopMarkers.{same_block as block_same}

abbrev pub HasTexts : List (List ℕ) → Type 0
HasTexts ts = AllByRecursion (λ (piece : List ℕ). has_text piece ≡ true) ts

-- ---- the pieces of one block
-- a piece of x between these octets of its text
pub record Lies (x : Placed) (low high : ℕ) (k : Placed) : Type 0 where
  pub from : ℕ
  pub text : List ℕ
  pub is : k ≡ piece_at x from text
  pub some : has_text text ≡ true
  pub begins : low ≤ from
  pub ends : from + length text ≤ high

pub lies_in : (x : Placed) (n : ℕ) (ts : List (List ℕ)) (k : Placed) → HasTexts ts → In (Block k) (pieces_from x n ts) → Lies x n (n + length (concat ts)) k
lies_in x n [] k h i = absurd i
lies_in x n (t ∷ ts) k h (inl e) = record { from = n; text = t; is = block_same k (piece_at x n t) e; some = h.0; begins = omega arith; ends = omega (arith, length-append t (concat ts)) }
lies_in x n (t ∷ ts) k h (inr i) =
    let r = lies_in x (n + length t) ts k h.1 i in
    record { from = r.from; text = r.text; is = r.is; some = r.some; begins = omega (arith, r.begins); ends = omega (arith, r.ends, length-append t (concat ts)) }

no_marker_from : (x : Placed) (n : ℕ) (ts : List (List ℕ)) → In Marker (pieces_from x n ts) → ⊥
no_marker_from x n [] i = i
no_marker_from x n (t ∷ ts) (inl e) = cc e
no_marker_from x n (t ∷ ts) (inr i) = no_marker_from x (n + length t) ts i

-- the place of a piece is its address
at_place : (x : Placed) (low high : ℕ) (k : Placed) (r : Lies x low high k) → k.place ≡ 8192 * x.place + r.from
at_place x low high k r = ap (λ (z : Placed). z.place) r.is

at_text : (x : Placed) (low high : ℕ) (k : Placed) (r : Lies x low high k) → k.text ≡ r.text
at_text x low high k r = ap (λ (z : Placed). z.text) r.is

pub apart_from : (x : Placed) (n : ℕ) (ts : List (List ℕ)) → HasTexts ts → Apart (blocks_in (pieces_from x n ts))
apart_from x n [] h = tt
apart_from x n (t ∷ ts) h = (first, apart_from x (n + length t) ts h.1)
  where
    first : (m : Placed) → In m (blocks_in (pieces_from x (n + length t) ts)) → (8192 * x.place + n) + length t ≤ m.place
    first m i =
        let r = lies_in x (n + length t) ts m h.1 (in_blocks_in m (pieces_from x (n + length t) ts) i) in
        let p = at_place x (n + length t) ((n + length t) + length (concat ts)) m r in
        omega (arith, p, r.begins)

none_empty_from : (x : Placed) (n : ℕ) (ts : List (List ℕ)) → HasTexts ts → (rest : List Item) → NoneEmpty rest → NoneEmpty (pieces_from x n ts ++ rest)
none_empty_from x n [] h rest e = e
none_empty_from x n (t ∷ ts) h rest e = (some_octets t h.0, none_empty_from x (n + length t) ts h.1 rest e)

pub said_from : (x : Placed) (n : ℕ) (ts : List (List ℕ)) → texts (pieces_from x n ts) ≡ ts
said_from x n [] = refl
said_from x n (t ∷ ts) = ap (λ zs. t ∷ zs) (said_from x (n + length t) ts)

-- ---- all pieces
pub pieces_append : (cutting : List ℕ → List (List ℕ)) (xs ys : List Item) → in_pieces cutting (xs ++ ys) ≡ in_pieces cutting xs ++ in_pieces cutting ys
pieces_append cutting [] ys = refl
pieces_append cutting (Marker ∷ xs) ys = ap (λ zs. Marker ∷ zs) (pieces_append cutting xs ys)
pieces_append cutting (Block x ∷ xs) ys =
    ap (λ zs. pieces_of cutting x ++ zs) (pieces_append cutting xs ys) ∙ sym (append_assoc (pieces_of cutting x) (in_pieces cutting xs) (in_pieces cutting ys))

pub piece_from : (cutting : List ℕ → List (List ℕ)) (items : List Item) (k : Placed) → In (Block k) (in_pieces cutting items) → (x : Placed) × In (Block x) items × IsPieceOf cutting x k
piece_from cutting [] k i = absurd i
piece_from cutting (Marker ∷ items) k (inl e) = absurd (cc e)
piece_from cutting (Marker ∷ items) k (inr i) = let r = piece_from cutting items k i in (r.0, inr r.1, r.2)
piece_from cutting (Block x ∷ items) k i = elim (in_append (Block k) (pieces_of cutting x) (in_pieces cutting items) i) [
  | inl j ↦ (x, inl refl, j)
  | inr j ↦ let r = piece_from cutting items k j in (r.0, inr r.1, r.2)
]

pub from_piece : (cutting : List ℕ → List (List ℕ)) (items : List Item) (x k : Placed) → In (Block x) items → IsPieceOf cutting x k → In (Block k) (in_pieces cutting items)
from_piece cutting [] x k i j = absurd i
from_piece cutting (Marker ∷ items) x k (inl e) j = absurd (cc e)
from_piece cutting (Marker ∷ items) x k (inr i) j = inr (from_piece cutting items x k i j)
from_piece cutting (Block y ∷ items) x k (inl e) j =
    in_left (Block k) (pieces_of cutting y) (in_pieces cutting items) (subst (λ (z : Placed). IsPieceOf cutting z k) (block_same x y e) j)
from_piece cutting (Block y ∷ items) x k (inr i) j = in_right (Block k) (pieces_of cutting y) (in_pieces cutting items) (from_piece cutting items x k i j)

pub marker_of : (cutting : List ℕ → List (List ℕ)) (items : List Item) → In Marker (in_pieces cutting items) → In Marker items
marker_of cutting [] i = i
marker_of cutting (Marker ∷ items) (inl e) = inl refl
marker_of cutting (Marker ∷ items) (inr i) = inr (marker_of cutting items i)
marker_of cutting (Block x ∷ items) i = elim (in_append Marker (pieces_of cutting x) (in_pieces cutting items) i) [
  | inl j ↦ absurd (no_marker_from x 0 (cutting x.text) j)
  | inr j ↦ inr (marker_of cutting items j)
]

from_marker : (cutting : List ℕ → List (List ℕ)) (items : List Item) → In Marker items → In Marker (in_pieces cutting items)
from_marker cutting [] i = i
from_marker cutting (Marker ∷ items) (inl e) = inl refl
from_marker cutting (Marker ∷ items) (inr i) = inr (from_marker cutting items i)
from_marker cutting (Block x ∷ items) (inl e) = absurd (cc e)
from_marker cutting (Block x ∷ items) (inr i) = in_right Marker (pieces_of cutting x) (in_pieces cutting items) (from_marker cutting items i)

pub told_law : (cutting : List ℕ → List (List ℕ)) (items : List Item) → TellsPieces cutting items
told_law cutting items = record {
  pieces = λ k. (piece_from cutting items k, λ r. from_piece cutting items r.0 k r.1 r.2);
  markers = (marker_of cutting items, from_marker cutting items);
}

-- the texts of what is told in pieces are the pieces of its texts
pub texts_cut : (cutting : List ℕ → List (List ℕ)) → IsCutting cutting → (items : List Item) → texts (in_pieces cutting items) ≡ flat_map cutting (texts items)
texts_cut cutting c [] = refl
texts_cut cutting c (Marker ∷ items) = ap (λ ts. marker ∷ ts) (texts_cut cutting c items) ∙ ap (λ ts. ts ++ flat_map cutting (texts items)) (sym c.marker_whole)
texts_cut cutting c (Block x ∷ items) =
    items_append (pieces_of cutting x) (in_pieces cutting items)
    ∙ (ap (λ ts. ts ++ texts (in_pieces cutting items)) (said_from x 0 (cutting x.text)) ∙ ap (λ ts. cutting x.text ++ ts) (texts_cut cutting c items))

pub said_law : (cutting : List ℕ → List (List ℕ)) → IsCutting cutting → (items : List Item) → concat (texts (in_pieces cutting items)) ≡ concat (texts items)
said_law cutting c [] = refl
said_law cutting c (Marker ∷ items) = ap (λ zs. 239 ∷ 191 ∷ 189 ∷ zs) (said_law cutting c items)
said_law cutting c (Block x ∷ items) =
    ap concat (items_append (pieces_of cutting x) (in_pieces cutting items))
    ∙ (concat-append (texts (pieces_of cutting x)) (texts (in_pieces cutting items))
    ∙ (ap (λ zs. zs ++ concat (texts (in_pieces cutting items))) (ap concat (said_from x 0 (cutting x.text)) ∙ c.whole x.text)
    ∙ ap (λ zs. x.text ++ zs) (said_law cutting c items)))

pub pieces_none_empty : (cutting : List ℕ → List (List ℕ)) → IsCutting cutting → (items : List Item) → NoneEmpty (in_pieces cutting items)
pieces_none_empty cutting c [] = tt
pieces_none_empty cutting c (Marker ∷ items) = (omega arith, pieces_none_empty cutting c items)
pieces_none_empty cutting c (Block x ∷ items) = none_empty_from x 0 (cutting x.text) (c.some x.text) (in_pieces cutting items) (pieces_none_empty cutting c items)

-- ---- addresses
-- where a piece of x lies
pub record At (x k : Placed) : Type 0 where
  pub some : 0 < length k.text
  pub begins : 8192 * x.place ≤ k.place
  pub ends : k.place + length k.text ≤ 8192 * x.place + length x.text

pub piece_lies : (cutting : List ℕ → List (List ℕ)) → IsCutting cutting → (x k : Placed) → IsPieceOf cutting x k → At x k
piece_lies cutting c x k i =
    let r = lies_in x 0 (cutting x.text) k (c.some x.text) i in
    let p = at_place x 0 (0 + length (concat (cutting x.text))) k r in
    let t = ap (λ (xs : List ℕ). length xs) (at_text x 0 (0 + length (concat (cutting x.text))) k r) in
    let w = ap (λ (xs : List ℕ). length xs) (c.whole x.text) in
    let s = some_octets r.text r.some in
    record { some = omega arith; begins = omega (arith, r.begins); ends = omega (arith, r.ends) }

-- texts are short enough for their addresses
abbrev pub FitAddresses : List Item → Type 0
FitAddresses items = (x : Placed) → In (Block x) items → length x.text ≤ 8192

apart_append : (xs ys : List Placed) → Apart xs → Apart ys → ((a b : Placed) → In a xs → In b ys → a.place + length a.text ≤ b.place) → Apart (xs ++ ys)
apart_append [] ys p q f = q
apart_append (x ∷ xs) ys p q f = (
  λ m i. elim (in_append m xs ys i) [ inl j ↦ p.0 m j | inr j ↦ f x m (inl refl) j ],
  apart_append xs ys p.1 q (λ a b i j. f a b (inr i) j),
)

pub pieces_apart : (cutting : List ℕ → List (List ℕ)) → IsCutting cutting → (items : List Item) → Rising (blocks_in items) → FitAddresses items → Apart (blocks_in (in_pieces cutting items))
pieces_apart cutting c [] r f = tt
pieces_apart cutting c (Marker ∷ items) r f = pieces_apart cutting c items r (λ x i. f x (inr i))
pieces_apart cutting c (Block x ∷ items) r f =
    subst Apart (sym (blocks_in_append (pieces_of cutting x) (in_pieces cutting items)))
    (apart_append (blocks_in (pieces_of cutting x)) (blocks_in (in_pieces cutting items)) (apart_from x 0 (cutting x.text) (c.some x.text)) (pieces_apart cutting c items r.1 (λ y i. f y (inr i))) cross)
  where
    cross : (a b : Placed) → In a (blocks_in (pieces_of cutting x)) → In b (blocks_in (in_pieces cutting items)) → a.place + length a.text ≤ b.place
    cross a b i j =
        let q = piece_from cutting items b (in_blocks_in b (in_pieces cutting items) j) in
        let l = piece_lies cutting c x a (in_blocks_in a (pieces_of cutting x) i) in
        let m = piece_lies cutting c q.0 b q.2 in
        let u = r.0 q.0 (block_in q.0 items q.1) in
        let s = f x (inl refl) in
        omega (arith, l.ends, m.begins)

-- what is apart rises, where none is empty
pub rising_of : (ks : List Placed) → Apart ks → ((k : Placed) → In k ks → 0 < length k.text) → Rising ks
rising_of [] a f = tt
rising_of (k ∷ ks) a f = (λ m i. let l = a.0 m i in let s = f k (inl refl) in omega arith, rising_of ks a.1 (λ m i. f m (inr i)))

pub pieces_some : (cutting : List ℕ → List (List ℕ)) → IsCutting cutting → (items : List Item) (k : Placed) → In k (blocks_in (in_pieces cutting items)) → 0 < length k.text
pieces_some cutting c items k i = let q = piece_from cutting items k (in_blocks_in k (in_pieces cutting items) i) in (piece_lies cutting c q.0 k q.2).some

pub pieces_rise : (cutting : List ℕ → List (List ℕ)) → IsCutting cutting → (items : List Item) → Rising (blocks_in items) → FitAddresses items → Rising (blocks_in (in_pieces cutting items))
pieces_rise cutting c items r f = rising_of (blocks_in (in_pieces cutting items)) (pieces_apart cutting c items r f) (pieces_some cutting c items)

-- two members of what is apart, the one below the other
member_apart : (ks : List Placed) (a b : Placed) → Apart ks → In a ks → In b ks → a.place < b.place → ((k : Placed) → In k ks → 0 < length k.text) → a.place + length a.text ≤ b.place
member_apart [] a b p i j l f = absurd i
member_apart (k ∷ ks) a b p (inl e) (inl q) l f = absurd (omega (arith, l, ap (λ (z : Placed). z.place) e, ap (λ (z : Placed). z.place) q))
member_apart (k ∷ ks) a b p (inl e) (inr j) l f = let m = p.0 b j in omega (arith, m, ap (λ (z : Placed). z.place) e, ap (λ (z : Placed). length z.text) e)
member_apart (k ∷ ks) a b p (inr i) (inl q) l f = let m = p.0 a i in let s = f k (inl refl) in absurd (omega (arith, l, m, s, ap (λ (z : Placed). z.place) q))
member_apart (k ∷ ks) a b p (inr i) (inr j) l f = member_apart ks a b p.1 i j l (λ m q. f m (inr q))

-- so what rises among them is apart
pub apart_within : (ks ms : List Placed) → Apart ks → ((k : Placed) → In k ks → 0 < length k.text) → Rising ms → ((m : Placed) → In m ms → In m ks) → Apart ms
apart_within ks [] p f r w = tt
apart_within ks (m ∷ ms) p f r w = (
  λ z i. member_apart ks m z p (w m (inl refl)) (w z (inr i)) (r.0 z i) f,
  apart_within ks ms p f r.1 (λ z i. w z (inr i)),
)

-- two blocks that have one piece have one place
pub one_block : (cutting : List ℕ → List (List ℕ)) → IsCutting cutting → (x y k : Placed) → length x.text ≤ 8192 → length y.text ≤ 8192 → IsPieceOf cutting x k → IsPieceOf cutting y k → y.place ≡ x.place
one_block cutting c x y k lx ly i j =
    let p = piece_lies cutting c x k i in
    let q = piece_lies cutting c y k j in
    omega (arith, p.some, p.begins, p.ends, q.begins, q.ends)

-- ---- marks
-- What parts the blocks around x parts the pieces around each of x.
pub parts_pieces : (cutting : List ℕ → List (List ℕ)) → IsCutting cutting → (items : List Item) (x k : Placed) → FitAddresses items → length x.text ≤ 8192 → IsPieceOf cutting x k → PartsAt x items → PartsAt k (in_pieces cutting items)
parts_pieces cutting c items x k f lx i r = (
  in_pieces cutting r.0,
  in_pieces cutting r.1,
  ap (in_pieces cutting) r.2 ∙ pieces_append cutting r.0 (Marker ∷ r.1),
  λ m j. let q = piece_from cutting r.0 m j in
      let s = piece_lies cutting c q.0 m q.2 in
      let u = r.3 q.0 q.1 in
      let n = f q.0 (subst (λ (zs : List Item). In (Block q.0) zs) (sym r.2) (in_left (Block q.0) r.0 (Marker ∷ r.1) q.1)) in
      let t = piece_lies cutting c x k i in
      omega (arith, s.some, s.ends, t.begins),
  λ m j. let q = piece_from cutting r.1 m j in
      let s = piece_lies cutting c q.0 m q.2 in
      let u = r.4 q.0 q.1 in
      let t = piece_lies cutting c x k i in
      omega (arith, t.some, t.ends, s.begins),
)

-- Items so many places later.
use Rattle.std.proofs.Common.{◌≡◌, ℕ, ◌+◌, ◌-◌, inl, inr, List, [], ◌∷◌, ◌++◌, refl, ap, subst, sym, ◌∙◌, arith}
use Rattle.std.specs.Prelude.{map}
use Rattle.stream_spec.specs.Lists.{In}
use Rattle.stream_spec.specs.Hearing.{marker}
use Rattle.stream_spec.specs.History.{Placed}
use Rattle.stream_spec.specs.Kept.{Item, Marker, Block, Rising, blocks_in, texts}
use Rattle.live_spec.specs.InTurn.{item_later, later}

-- ---- an entry
abbrev back : ℕ → Placed → Placed
back n x = record { place = x.place - n; index = x.index; source = x.source; media = x.media; text = x.text; generations = x.generations; reach = x.reach }

back_later : (n : ℕ) (k : Placed) → back n (later n k) ≡ k
back_later n k =
    let e : (n + k.place) - n ≡ k.place = omega arith in
    ap (λ (m : ℕ). record { place = m; index = k.index; source = k.source; media = k.media; text = k.text; generations = k.generations; reach = k.reach }) e

pub same_later : (n : ℕ) (a b : Placed) → later n a ≡ later n b → a ≡ b
same_later n a b e = sym (back_later n a) ∙ (ap (back n) e ∙ back_later n b)

-- ---- items
pub texts_later : (n : ℕ) (xs : List Item) → texts (map (item_later n) xs) ≡ texts xs
texts_later n [] = refl
texts_later n (Marker ∷ xs) = ap (λ ts. marker ∷ ts) (texts_later n xs)
texts_later n (Block k ∷ xs) = ap (λ ts. k.text ∷ ts) (texts_later n xs)

pub blocks_later : (n : ℕ) (xs : List Item) → blocks_in (map (item_later n) xs) ≡ map (later n) (blocks_in xs)
blocks_later n [] = refl
blocks_later n (Marker ∷ xs) = blocks_later n xs
blocks_later n (Block k ∷ xs) = ap (λ ks. later n k ∷ ks) (blocks_later n xs)

pub in_later : (n : ℕ) (xs : List Item) (x : Placed) → In (Block x) (map (item_later n) xs) → (k : Placed) × (x ≡ later n k) × In (Block k) xs
in_later n [] x i = absurd i
in_later n (Marker ∷ xs) x (inl e) = absurd (cc e)
in_later n (Marker ∷ xs) x (inr i) = let r = in_later n xs x i in (r.0, r.1, inr r.2)
in_later n (Block k ∷ xs) x (inl e) = (k, same x (later n k) e, inl refl)
  where
    same : (a b : Placed) → Block a ≡ Block b → a ≡ b
    same a b e = cc e
in_later n (Block k ∷ xs) x (inr i) = let r = in_later n xs x i in (r.0, r.1, inr r.2)

pub later_in : (n : ℕ) (xs : List Item) (k : Placed) → In (Block k) xs → In (Block (later n k)) (map (item_later n) xs)
later_in n [] k i = absurd i
later_in n (Marker ∷ xs) k (inl e) = absurd (cc e)
later_in n (Marker ∷ xs) k (inr i) = inr (later_in n xs k i)
later_in n (Block y ∷ xs) k (inl e) = inl (ap (item_later n) e)
later_in n (Block y ∷ xs) k (inr i) = inr (later_in n xs k i)

later_among : (n : ℕ) (ks : List Placed) (x : Placed) → In x (map (later n) ks) → (k : Placed) × (x ≡ later n k) × In k ks
later_among n [] x i = absurd i
later_among n (k ∷ ks) x (inl e) = (k, e, inl refl)
later_among n (k ∷ ks) x (inr i) = let r = later_among n ks x i in (r.0, r.1, inr r.2)

rising_map : (n : ℕ) (ks : List Placed) → Rising ks → Rising (map (later n) ks)
rising_map n [] r = tt
rising_map n (k ∷ ks) r = (
  λ y i. let a = later_among n ks y i in let l = r.0 a.0 a.2 in let q : y.place ≡ n + a.0.place = ap (λ (z : Placed). z.place) a.1 in omega (arith, l, q),
  rising_map n ks r.1,
)

pub rising_later : (n : ℕ) (xs : List Item) → Rising (blocks_in xs) → Rising (blocks_in (map (item_later n) xs))
rising_later n xs r = subst Rising (sym (blocks_later n xs)) (rising_map n (blocks_in xs) r)

-- a marker among them
pub later_append : (n : ℕ) (xs ys : List Item) → map (item_later n) (xs ++ ys) ≡ map (item_later n) xs ++ map (item_later n) ys
later_append n [] ys = refl
later_append n (x ∷ xs) ys = ap (λ zs. item_later n x ∷ zs) (later_append n xs ys)

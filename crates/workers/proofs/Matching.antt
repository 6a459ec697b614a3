-- Two lists that grow together.
use Rattle.std.proofs.Common.{◌≡◌, ℕ, zero, suc, ◌<◌, ◌≤◌, ◌⊎◌, inl, inr, Some, List, [], ◌∷◌, ◌++◌, length, refl, ap, sym, subst, ◌∙◌, ◌+◌, arith, append_assoc}
use Rattle.std.specs.Prelude.{slice_get}
use Rattle.std.specs.Global.{Vec}
use Rattle.std.specs.Vec.{vec_len, vec_capacity}
use Rattle.std.proofs.lemmas.List.{append-nil, length_push}
use Rattle.std.proofs.lemmas.Option.{slice_get_within}
use Rattle.workers.specs.Pairs.{Pairs}

-- ---- elements by number
get_push : {X : Type 0} (xs : List X) (x y : X) (j : ℕ) → slice_get (xs ++ x ∷ []) j ≡ Some y → (slice_get xs j ≡ Some y) ⊎ ((j ≡ length xs) × (x ≡ y))
get_push [] x y zero e = inr (refl, cc e)
get_push [] x y (suc j) e = absurd (cc e)
get_push (z ∷ xs) x y zero e = inl e
get_push (z ∷ xs) x y (suc j) e = elim (get_push xs x y j e) [ inl g ↦ inl g | inr p ↦ inr (ap suc p.0, p.1) ]

pub get_behind : {X : Type 0} (xs : List X) (x : X) (ys : List X) → slice_get (xs ++ x ∷ ys) (length xs) ≡ Some x
get_behind [] x ys = refl
get_behind (z ∷ xs) x ys = get_behind xs x ys

module _ {A B : Type 0} (holds : A → B → Type 0) where
  one_more : (xs : List A) (ys : List B) (x : A) (y : B) → Pairs holds xs ys → holds x y → Pairs holds (xs ++ x ∷ []) (ys ++ y ∷ [])
  one_more xs ys x y p h = record {
    many = length_push ys y ∙ (ap (λ n. n + 1) p.many ∙ sym (length_push xs x));
    are = λ j a b ea eb. elim (get_push ys y b j eb) [
      | inl fb ↦ elim (get_push xs x a j ea) [
        | inl fa ↦ p.are j a b fa fb
        | inr q ↦ absurd (let low = slice_get_within ys j b fb in let at = q.0 in let many = p.many in omega arith)
      ]
      | inr r ↦ elim (get_push xs x a j ea) [
        | inl fa ↦ absurd (let low = slice_get_within xs j a fa in let at = r.0 in let many = p.many in omega arith)
        | inr q ↦ subst (λ (u : A). holds u b) q.1 (subst (λ (v : B). holds x v) r.1 h)
      ]
    ];
  }

  -- the first of all have one each
  pub record Done (all rest : List A) (ys : List B) : Type 0 where
    pub first : List A
    pub whole : all ≡ first ++ rest
    pub pairs : Pairs holds first ys

  pub none_done : (all rest : List A) (ys : List B) → rest ≡ all → ys ≡ [] → Done all rest ys
  none_done all rest ys same none = record { first = []; whole = sym same; pairs = record { many = ap length none; are = λ j a b ea eb. absurd (cc ea) } }

  pub more_done : (all rest rest' : List A) (ys zs : List B) (x : A) (y : B) → Done all rest ys → rest ≡ x ∷ rest' → holds x y → zs ≡ ys ++ y ∷ [] → Done all rest' zs
  more_done all rest rest' ys zs x y d next h is = record {
    first = d.first ++ x ∷ [];
    whole = d.whole ∙ (ap (λ l. d.first ++ l) next ∙ sym (append_assoc d.first (x ∷ []) rest'));
    pairs = subst (λ (l : List B). Pairs holds (d.first ++ x ∷ []) l) (sym is) (one_more d.first ys x y d.pairs h);
  }

  -- the next of them has the next number
  pub next_at : (all rest rest' : List A) (ys : List B) (x : A) → Done all rest ys → rest ≡ x ∷ rest' → slice_get all (length ys) ≡ Some x
  next_at all rest rest' ys x d next =
      subst (λ (l : List A). slice_get l (length ys) ≡ Some x) (sym (d.whole ∙ ap (λ l. d.first ++ l) next))
      (subst (λ (n : ℕ). slice_get (d.first ++ x ∷ rest') n ≡ Some x) (sym d.pairs.many) (get_behind d.first x rest'))

  pub all_done : (all rest : List A) (ys : List B) → Done all rest ys → rest ≡ [] → Pairs holds all ys
  all_done all rest ys d none = subst (λ (l : List A). Pairs holds l ys) (sym (d.whole ∙ (ap (λ l. d.first ++ l) none ∙ append-nil d.first))) d.pairs

-- a list of no element
pub no_element : {X : Type 0} (xs : List X) (n : ℕ) → length xs ≡ n → n ≡ 0 → xs ≡ []
no_element [] n e z = refl
no_element (x ∷ xs) n e z = absurd (omega arith)

-- ---- a list whose elements go, one by one, into another
module _ {A B : Type 0} where
  -- so many are left, and there is room for them
  pub record Fits (rest : List A) (left : ℕ) (to : Vec B) : Type 0 where
    pub many : length rest ≡ left
    pub room : left + vec_len to ≤ vec_capacity to

  pub fits_first : (from : Vec A) (rest : List A) (left : ℕ) (to : Vec B) → rest ≡ from.items → left ≡ vec_len from → to.items ≡ [] → vec_len from ≤ vec_capacity to → Fits rest left to
  fits_first from rest left to same len none room =
      let many = ap (λ (l : List A). length l) same in
      let empty = ap (λ (l : List B). length l) none in
      record { many = omega (arith, many, len, from.ok.0); room = omega (arith, empty, len, room, to.ok.0) }

  pub fits_next : (rest rest' : List A) (left left' : ℕ) (x : A) (to to' : Vec B) → Fits rest left to → (rest ≡ x ∷ rest') × (left' + 1 ≡ left) → vec_len to' ≡ vec_len to + 1 → vec_capacity to' ≡ vec_capacity to → Fits rest' left' to'
  fits_next rest rest' left left' x to to' f next len capacity =
      let many = ap (λ (l : List A). length l) next.0 in
      let old = f.many in
      let room = f.room in
      let fewer = next.1 in
      record { many = omega (arith, many, old, fewer); room = omega (arith, room, fewer, len, capacity) }

  pub fits_one : (rest : List A) (left left' : ℕ) (to : Vec B) → Fits rest left to → left' + 1 ≡ left → vec_len to < vec_capacity to
  fits_one rest left left' to f fewer = let room = f.room in omega (arith, room, fewer)

  pub fits_none : (rest : List A) (left : ℕ) (to : Vec B) → Fits rest left to → left ≡ 0 → rest ≡ []
  fits_none rest left to f none = no_element rest left f.many none

module _ {A B : Type 0} (holds : A → B → Type 0) where
  -- the first of all have one each, and there is room for the others
  pub record Into (all rest : List A) (left : ℕ) (to : Vec B) : Type 0 where
    pub done : Done holds all rest to.items
    pub fits : Fits rest left to

  pub into_first : (from : Vec A) (rest : List A) (left : ℕ) (to : Vec B) → rest ≡ from.items → left ≡ vec_len from → to.items ≡ [] → vec_len from ≤ vec_capacity to → Into from.items rest left to
  into_first from rest left to same len none room = record {
    done = none_done holds from.items rest to.items same none;
    fits = fits_first from rest left to same len none room;
  }

  pub into_next : (all rest rest' : List A) (left left' : ℕ) (x : A) (y : B) (to to' : Vec B) → Into all rest left to → (rest ≡ x ∷ rest') × (left' + 1 ≡ left) → holds x y → to'.items ≡ to.items ++ y ∷ [] → vec_len to' ≡ vec_len to + 1 → vec_capacity to' ≡ vec_capacity to → Into all rest' left' to'
  into_next all rest rest' left left' x y to to' i next h items len capacity = record {
    done = more_done holds all rest rest' to.items to'.items x y i.done next.0 h items;
    fits = fits_next rest rest' left left' x to to' i.fits next len capacity;
  }

  pub into_all : (all rest : List A) (left : ℕ) (to : Vec B) → Into all rest left to → left ≡ 0 → Pairs holds all to.items
  into_all all rest left to i none = all_done holds all rest to.items i.done (fits_none rest left to i.fits none)

-- No more legs hold places than there are places.
use Rattle.std.proofs.Common.{◌≡◌, ℕ, zero, suc, ◌+◌, ◌<◌, ◌≤◌, Bool, true, false, cond, inl, inr, Option, Some, None, List, get_or, length, length-set, replicate, set, refl, ap, sym, ◌∙◌, arith}
use Rattle.std.specs.Prelude.{◌==◌, not, is_some, slice_get, unwrap_or, if◌then◌else◌}
use Rattle.std.proofs.lemmas.Bool.{cases_eq, eq-eqb, ne_eqb}
use Rattle.std.proofs.lemmas.Option.{slice_get_within, slice_get-get_or}
use Rattle.mixer_spec.specs.Rounds.{count_below, first_from}
use Rattle.mixer_spec.specs.Table.{Seats, is_at, is_seated, leg_in}
use Rattle.mixer_spec.proofs.Rounds.{count_all, first_some}
use Rattle.mixer_spec.proofs.Seats.{leg_in_some}
use Rattle.mixer_places.specs.declared.seats.Seat.{Seat}
use Rattle.mixer_places.specs.Places.{is_vacant, place_on, has_place}
use Rattle.mixer_places.specs.States.{State}
use Rattle.mixer_places.proofs.Keeping.{all_same}
use Rattle.mixer_spec.proofs.Lists.{get_set_other}
use Rattle.stream_spec.proofs.Plain.{get_set_same}

-- ---- the place of each seat is held by its leg
-- each of these seats whose place is known is there
abbrev pub HoldsEach : List Seat → List (Option ℕ) → Type 0
HoldsEach xs ys = (k : ℕ) (x : Seat) (p : ℕ) → slice_get xs k ≡ Some x → x.place ≡ Some p → slice_get ys p ≡ Some (Some k)

seat_at : (xs : List Seat) (i : ℕ) (x y : Seat) → slice_get (set xs i y) i ≡ Some x → i < length xs → x ≡ y
seat_at xs i x y e l = let g : Some x ≡ Some y = sym e ∙ get_set_same xs i y l in cc g

seat_within : (xs : List Seat) (i k : ℕ) (x y : Seat) → slice_get (set xs i y) k ≡ Some x → k ≡ i → i < length xs
seat_within xs i k x y e same = omega (arith, same, slice_get_within (set xs i y) k x e, length-set xs i y)

-- the leg i comes to a place that none holds
pub holds_come : (xs : List Seat) (ys : List (Option ℕ)) (i q : ℕ) (y : Seat) → HoldsEach xs ys → slice_get ys q ≡ Some None → y.place ≡ Some q → HoldsEach (set xs i y) (set ys q (Some i))
holds_come xs ys i q y h none here k x p e f = elim (cases_eq k i) [
  | inl same ↦
      let is : x ≡ y = seat_at xs i x y (ap (slice_get (set xs i y)) (sym same) ∙ e) (seat_within xs i k x y e same) in
      let at : Some p ≡ Some q = sym f ∙ (ap (λ (z : Seat). z.place) is ∙ here) in
      let place : p ≡ q = cc at in
      ap (slice_get (set ys q (Some i))) place ∙ (get_set_same ys q (Some i) (slice_get_within ys q None none) ∙ ap (λ n. Some (Some n)) (sym same))
  | inr other ↦
      let was = h k x p (sym (get_set_other xs i k y other) ∙ e) f in
      get_set_other ys q p (Some i) (λ s. let z : Some None ≡ Some (Some k) = sym none ∙ (ap (slice_get ys) (sym s) ∙ was) in cc z) ∙ was
]

none_vacant : (ys : List (Option ℕ)) (p : ℕ) → p < length ys → is_vacant ys p ≡ true → slice_get ys p ≡ Some None
none_vacant ys p l v = go (slice_get ys p) refl v
  where
    go : (o : Option (Option ℕ)) → slice_get ys p ≡ o → not (is_some (unwrap_or o None)) ≡ true → slice_get ys p ≡ Some None
    go None e v = let z = slice_get-get_or ys p None l in let n : None ≡ Some (get_or ys p None) = sym e ∙ z in absurd (cc n)
    go (Some None) e v = e
    go (Some (Some k)) e v = cc v

pub vacant_at : (ys : List (Option ℕ)) (p : ℕ) → Some p ≡ first_from (is_vacant ys) 0 (length ys) → slice_get ys p ≡ Some None
vacant_at ys p e = let f = first_some (is_vacant ys) 0 (length ys) p (sym e) in none_vacant ys p (omega (arith, f.2)) f.0

-- it leaves the place
pub holds_left : (xs : List Seat) (ys : List (Option ℕ)) (i q : ℕ) (w y : Seat) → HoldsEach xs ys → slice_get xs i ≡ Some w → w.place ≡ Some q → y.place ≡ None → HoldsEach (set xs i y) (set ys q None)
holds_left xs ys i q w y h there held none k x p e f = elim (cases_eq k i) [
  | inl same ↦
      let is : x ≡ y = seat_at xs i x y (ap (slice_get (set xs i y)) (sym same) ∙ e) (seat_within xs i k x y e same) in
      let z : None ≡ Some p = sym none ∙ (ap (λ (z : Seat). z.place) (sym is) ∙ f) in
      absurd (cc z)
  | inr other ↦
      let was = h k x p (sym (get_set_other xs i k y other) ∙ e) f in
      get_set_other ys q p None (λ s. let z : Some (Some k) ≡ Some (Some i) = sym was ∙ (ap (slice_get ys) s ∙ h i w q there held) in let n : k ≡ i = cc z in other n) ∙ was
]

-- its place stays
pub holds_kept : (xs : List Seat) (ys : List (Option ℕ)) (i : ℕ) (w y : Seat) → HoldsEach xs ys → slice_get xs i ≡ Some w → y.place ≡ w.place → HoldsEach (set xs i y) ys
holds_kept xs ys i w y h there same_place k x p e f = elim (cases_eq k i) [
  | inl same ↦
      let is : x ≡ y = seat_at xs i x y (ap (slice_get (set xs i y)) (sym same) ∙ e) (seat_within xs i k x y e same) in
      h k w p (ap (slice_get xs) same ∙ there) (sym same_place ∙ (ap (λ (z : Seat). z.place) (sym is) ∙ f))
  | inr other ↦ h k x p (sym (get_set_other xs i k y other) ∙ e) f
]

-- at first none has one
pub none_replicated : (n : ℕ) (xs : List Seat) → xs ≡ replicate n (record { place = None; came = false; listens = false }) → (k : ℕ) (x : Seat) (p : ℕ) → slice_get xs k ≡ Some x → x.place ≡ Some p → ⊥
none_replicated n xs all k x p g e =
    let is = all_same n (record { place = None; came = false; listens = false }) k x (sym (ap (λ (ys : List Seat). slice_get ys k) all) ∙ g) in
    let z : None ≡ Some p = sym (ap (λ (y : Seat). y.place) is) ∙ e in
    cc z

pub vacant_replicated : (n p k : ℕ) → slice_get (replicate n None) p ≡ Some (Some k) → ⊥
vacant_replicated n p k e = let is : Some k ≡ None = all_same n None p (Some k) e in cc is

-- ---- how many legs hold places
abbrev one_if : Bool → ℕ
one_if b = if b then 1 else 0

-- one of these numbers passes more
count_one : (p q : ℕ → Bool) (n u : ℕ) → ((x : ℕ) → (x ≡ u → ⊥) → p x ≡ q x) → u < n → p u ≡ false → q u ≡ true → count_below q n ≡ suc (count_below p n)
count_one p q zero u same l a b = absurd (omega arith)
count_one p q (suc n) u same l a b = elim (cases_eq u n) [
  | inl e ↦
      let one : one_if (q n) ≡ 1 = ap one_if (ap q (sym e) ∙ b) in
      let none : one_if (p n) ≡ 0 = ap one_if (ap p (sym e) ∙ a) in
      let rest = count_same p q n (λ x m. same x (λ z. omega (arith, z, e, m))) in
      omega (arith, one, none, rest)
  | inr ne ↦
      let here : one_if (p n) ≡ one_if (q n) = ap one_if (same n (λ z. ne (sym z))) in
      let rest = count_one p q n u same (omega (arith, l, ne)) a b in
      omega (arith, here, rest)
]
  where
    count_same : (p q : ℕ → Bool) (n : ℕ) → ((x : ℕ) → x < n → p x ≡ q x) → count_below p n ≡ count_below q n
    count_same p q zero f = refl
    count_same p q (suc n) f =
        let here : one_if (p n) ≡ one_if (q n) = ap one_if (f n (omega arith)) in
        let rest = count_same p q n (λ x l. f x (omega (arith, l))) in
        omega (arith, here, rest)

-- each place that is held is below `places`, and one leg holds it
record HeldOnce (places : ℕ) (seats : Seats) : Type 0 where
  below : (a p : ℕ) → seats.place a ≡ Some p → p < places
  one : (a b p : ℕ) → seats.place a ≡ Some p → seats.place b ≡ Some p → a ≡ b

-- as many places are held by the first n legs as of these hold one
held : (places : ℕ) (seats : Seats) (n : ℕ) → HeldOnce places seats → count_below (λ p. is_some (leg_in seats n p)) places ≡ count_below (is_seated seats) n
held places seats zero h = none places
  where
    none : (m : ℕ) → count_below (λ p. false) m ≡ 0
    none zero = refl
    none (suc m) = let rest = none m in omega (arith, rest)
held places seats (suc n) h = go (seats.place n) refl (held places seats n h)
  where
    go : (o : Option ℕ) → seats.place n ≡ o → count_below (λ p. is_some (leg_in seats n p)) places ≡ count_below (is_seated seats) n
        → count_below (λ p. is_some (cond (is_at p o) (Some n) (leg_in seats n p))) places ≡ one_if (is_some o) + count_below (is_seated seats) n
    go None e ih = let same : count_below (λ p. is_some (cond (is_at p None) (Some n) (leg_in seats n p))) places ≡ count_below (is_seated seats) n = ih in omega (arith, same)
    go (Some q) e ih =
        let free : is_some (leg_in seats n q) ≡ false = none_there (leg_in seats n q) refl in
        let more = count_one (λ p. is_some (leg_in seats n p)) (λ p. is_some (cond (q == p) (Some n) (leg_in seats n p))) places q
        (λ x ne. sym (ap (λ b. is_some (cond b (Some n) (leg_in seats n x))) (ne_eqb q x (λ z. ne (sym z)))))
        (h.below n q e) free (ap (λ b. is_some (cond b (Some n) (leg_in seats n q))) (eq-eqb q q refl)) in
        omega (arith, more, ih)
      where
        none_there : (o : Option ℕ) → leg_in seats n q ≡ o → is_some (leg_in seats n q) ≡ false
        none_there None g = ap is_some g
        none_there (Some a) g =
            let r = leg_in_some seats n q a g in
            let same : a ≡ n = h.one a n q r.1 e in
            absurd (omega (arith, r.0, same))

abbrev seats_of : State → Seats
seats_of m = record { place = λ i. place_on (slice_get m.legs i); came = λ i. false; listens = λ i. false }

some_on : (o : Option Seat) (p : ℕ) → place_on o ≡ Some p → (x : Seat) × (o ≡ Some x) × (x.place ≡ Some p)
some_on None p e = cc e
some_on (Some x) p e = (x, refl, e)

pub few_places : (m : State) → HoldsEach m.legs m.places → count_below (has_place m) (length m.legs) ≤ length m.places
few_places m h =
    let once : HeldOnce (length m.places) (seats_of m) = record {
      below = λ a p e. let x = some_on (slice_get m.legs a) p e in slice_get_within m.places p (Some a) (h a x.0 p x.1 x.2);
      one = λ a b p e f.
          let x = some_on (slice_get m.legs a) p e in
          let y = some_on (slice_get m.legs b) p f in
          let z : Some (Some a) ≡ Some (Some b) = sym (h a x.0 p x.1 x.2) ∙ h b y.0 p y.1 y.2 in
          cc z;
    } in
    let all : count_below (λ p. is_some (leg_in (seats_of m) (length m.legs) p)) (length m.places) ≤ length m.places = count_all (λ p. is_some (leg_in (seats_of m) (length m.legs) p)) (length m.places) in
    omega (arith, all, held (length m.places) (seats_of m) (length m.legs) once)

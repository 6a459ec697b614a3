-- What each call changes of what places stand for.
use Rattle.std.proofs.Common.{◌≡◌, ℕ, zero, suc, ◌+◌, ◌-◌, ◌<◌, ◌≤◌, Bool, true, false, cond, not, inl, inr, Option, Some, None, List, length, length-set, set, get_or, replicate, refl, ap, subst, sym, ◌∙◌, arith}
use Rattle.std.specs.Prelude.{slice_get, slice_index_or, is_some, unwrap_or, IfSome}
use Rattle.std.proofs.lemmas.Bool.{cases_eq, ne_eqb}
use Rattle.std.proofs.lemmas.Option.{slice_get_within, slice_get-get_or, unwrap_or-slice_get}
use Rattle.mixer_spec.specs.Rounds.{first_from, set_at}
use Rattle.mixer_spec.proofs.Rounds.{first_some}
use Rattle.mixer_spec.proofs.Lists.{set_same, set_other, get_set_other}
use Rattle.mixer_spec.proofs.Seats.{leg_in_found, leg_in_some}
use Rattle.mixer_spec.specs.Setups.{Setup}
use Rattle.mixer_spec.specs.Table.{Seats, Table, no_seats, is_at, leg_in, is_free, free_place, come_to, admitted, hushed, freed}
use Rattle.mixer_places.specs.declared.seats.Seat.{Seat}
use Rattle.mixer_places.specs.States.{State}
use Rattle.mixer_places.specs.Places.{is_vacant}
use Rattle.mixer_places.specs.SeatStanding.{SeatingStandsFor, seat_of}
use Rattle.stream_spec.proofs.Plain.{get_set_same}

-- ---- what holds of all places
pub places_set : (xs : List Seat) (i : ℕ) (y : Seat) → ((k : ℕ) (x : Seat) (p : ℕ) → slice_get xs k ≡ Some x → x.place ≡ Some p → p < 16) → ((p : ℕ) → y.place ≡ Some p → p < 16)
    → (k : ℕ) (x : Seat) (p : ℕ) → slice_get (set xs i y) k ≡ Some x → x.place ≡ Some p → p < 16
places_set xs i y all here k x p e f = elim (cases_eq k i) [
  | inl same ↦
      let l : i < length xs = omega (arith, slice_get_within (set xs i y) k x e, length-set xs i y) in
      let g : Some x ≡ Some y = sym e ∙ (ap (slice_get (set xs i y)) same ∙ get_set_same xs i y l) in
      let z : x ≡ y = cc g in
      here p (sym (ap (λ (a : Seat). a.place) z) ∙ f)
  | inr other ↦ all k x p (sym (get_set_other xs i k y other) ∙ e) f
]

pub legs_set : (ys : List (Option ℕ)) (q n m : ℕ) (o : Option ℕ) → m ≡ n → ((p k : ℕ) → slice_get ys p ≡ Some (Some k) → k < n) → ((k : ℕ) → o ≡ Some k → k < n)
    → (p k : ℕ) → slice_get (set ys q o) p ≡ Some (Some k) → k < m
legs_set ys q n m o same all here p k e = elim (cases_eq p q) [
  | inl at ↦
      let l : q < length ys = omega (arith, slice_get_within (set ys q o) p (Some k) e, length-set ys q o) in
      let g : Some o ≡ Some (Some k) = sym (ap (slice_get (set ys q o)) at ∙ get_set_same ys q o l) ∙ e in
      let z : o ≡ Some k = cc g in
      omega (arith, here k z)
  | inr other ↦ omega (arith, all p k (sym (get_set_other ys q p o other) ∙ e))
]

-- one place is held by another leg, or by none
pub reach_set : (ys : List (Option ℕ)) (q n m : ℕ) (o : Option ℕ) → n ≤ m → ((p k : ℕ) → slice_get ys p ≡ Some (Some k) → p < n) → ((k : ℕ) → o ≡ Some k → q < m)
    → (p k : ℕ) → slice_get (set ys q o) p ≡ Some (Some k) → p < m
reach_set ys q n m o more all here p k e = elim (cases_eq p q) [
  | inl at ↦
      let l : q < length ys = omega (arith, slice_get_within (set ys q o) p (Some k) e, length-set ys q o) in
      let g : Some o ≡ Some (Some k) = sym (ap (slice_get (set ys q o)) at ∙ get_set_same ys q o l) ∙ e in
      let z : o ≡ Some k = cc g in
      omega (arith, here k z)
  | inr other ↦ omega (arith, all p k (sym (get_set_other ys q p o other) ∙ e))
]

-- no leg holds a place from some place on
pub vacant_from : (s : Setup) (m : State) (table : Table) (n : ℕ) → SeatingStandsFor s m table.seats → ((p k : ℕ) → slice_get m.places p ≡ Some (Some k) → p < n)
    → (p : ℕ) → n ≤ p → p < 16 → leg_in table.seats s.legs p ≡ None
vacant_from s m table n h all p l w = go (leg_in table.seats s.legs p) (h.holder p w)
  where
    go : (o : Option ℕ) → slice_get m.places p ≡ Some o → o ≡ None
    go None e = refl
    go (Some k) e = absurd (omega (arith, l, all p k e))

pub some_within : (ys : List (Option ℕ)) (p n : ℕ) → ((q k : ℕ) → slice_get ys q ≡ Some (Some k) → k < n) → p < length ys → IfSome (slice_index_or ys p None) (λ k. k < n)
some_within ys p n all l = go (slice_index_or ys p None) (slice_get-get_or ys p None l)
  where
    go : (o : Option ℕ) → slice_get ys p ≡ Some o → IfSome o (λ k. k < n)
    go None e = tt
    go (Some k) e = all p k e

-- ---- who is found at a place
pub leg_in_same : (v w : Seats) (n q : ℕ) → ((k : ℕ) → k < n → is_at q (v.place k) ≡ is_at q (w.place k)) → leg_in v n q ≡ leg_in w n q
leg_in_same v w zero q e = refl
leg_in_same v w (suc n) q e =
    ap (λ b. cond b (Some n) (leg_in v n q)) (e n (omega arith)) ∙ ap (λ o. cond (is_at q (w.place n)) (Some n) o) (leg_in_same v w n q (λ k l. e k (omega arith)))

-- the place of the leg i alone is another one, and neither is q
at_other : (f : ℕ → Option ℕ) (i : ℕ) (o : Option ℕ) (q k : ℕ) → is_at q (f i) ≡ false → is_at q o ≡ false → is_at q (set_at f i o k) ≡ is_at q (f k)
at_other f i o q k was is = elim (cases_eq k i) [
  | inl same ↦ ap (is_at q) (set_same f i o k same) ∙ (is ∙ sym (ap (λ x. is_at q (f x)) same ∙ was))
  | inr other ↦ ap (is_at q) (set_other f i o k other)
]

not_at : (o : Option ℕ) (p q : ℕ) → o ≡ Some p → (q ≡ p → ⊥) → is_at q o ≡ false
not_at o p q e n = ap (is_at q) e ∙ ne_eqb p q (λ s. n (sym s))

none_at : (o : Option ℕ) (q : ℕ) → o ≡ None → is_at q o ≡ false
none_at o q e = ap (is_at q) e

-- whoever is found at q is one that holds it
none_found : (v : Seats) (n q : ℕ) → ((k : ℕ) → k < n → v.place k ≡ Some q → ⊥) → leg_in v n q ≡ None
none_found v n q none = go (leg_in v n q) refl
  where
    go : (o : Option ℕ) → leg_in v n q ≡ o → leg_in v n q ≡ None
    go None e = e
    go (Some a) e = let r = leg_in_some v n q a e in absurd (none a r.0 r.1)

-- ---- the lowest free place
first_same : (f g : ℕ → Bool) (low n : ℕ) → ((k : ℕ) → k < low + n → f k ≡ g k) → first_from f low n ≡ first_from g low n
first_same f g low zero e = refl
first_same f g low (suc n) e =
    ap (λ b. cond b (Some low) (first_from f (suc low) n)) (e low (omega arith)) ∙ ap (λ o. cond (g low) (Some low) o) (first_same f g (suc low) n (λ k l. e k (omega arith)))

pub free_is : (s : Setup) (m : State) (seats : Seats) → SeatingStandsFor s m seats → length m.places ≡ 16 → first_from (is_vacant m.places) 0 (length m.places) ≡ free_place s seats
free_is s m seats h n =
    ap (first_from (is_vacant m.places) 0) (n ∙ sym h.sixteen)
    ∙ first_same (is_vacant m.places) (is_free s seats) 0 s.places (λ k l. ap (λ o. not (is_some (unwrap_or o None))) (h.holder k (omega (arith, h.sixteen))))

-- ---- calls
pub stands_new : (s : Setup) (m : State) → s.places ≡ 16 → length m.legs ≡ s.legs → ((i : ℕ) (x : Seat) → slice_get m.legs i ≡ Some x → x ≡ seat_of no_seats i) → ((p : ℕ) → p < 16 → slice_get m.places p ≡ Some None) → SeatingStandsFor s m no_seats
stands_new s m e l seats places = record {
  sixteen = e;
  all = l;
  seat = seats;
  holder = λ p k. places p k ∙ ap Some (sym (none_found no_seats s.legs p (λ a b c. cc c)));
  one = λ a b p la lb ea eb. cc ea;
}

-- the seat of one leg is another one
seat_set : (xs : List Seat) (i : ℕ) (y : Seat) (v w : Seats) → ((k : ℕ) (x : Seat) → slice_get xs k ≡ Some x → x ≡ seat_of v k) → y ≡ seat_of w i → ((k : ℕ) → (k ≡ i → ⊥) → seat_of w k ≡ seat_of v k)
    → i < length xs → (k : ℕ) (x : Seat) → slice_get (set xs i y) k ≡ Some x → x ≡ seat_of w k
seat_set xs i y v w all here others l k x e = elim (cases_eq k i) [
  | inl same ↦ let f : Some x ≡ Some y = sym e ∙ (ap (slice_get (set xs i y)) same ∙ get_set_same xs i y l) in
      let g : x ≡ y = cc f in g ∙ (here ∙ ap (seat_of w) (sym same))
  | inr other ↦ all k x (sym (get_set_other xs i k y other) ∙ e) ∙ sym (others k other)
]

abbrev seat_with : Option ℕ → Bool → Bool → Seat
seat_with p a b = record { place = p; came = a; listens = b }

seat_from : {p q : Option ℕ} {a b c d : Bool} → p ≡ q → a ≡ b → c ≡ d → seat_with p a c ≡ seat_with q b d
seat_from e f g = cc

came_stands : (s : Setup) (m : State) (table : Table) (leg p : ℕ) (l : Bool) → SeatingStandsFor s m table.seats → table.seats.place leg ≡ None → leg < length m.legs → length m.places ≡ 16 → free_place s table.seats ≡ Some p
    → SeatingStandsFor s (record { legs = set m.legs leg (record { place = Some p; came = true; listens = l }); places = set m.places p (Some leg) }) (come_to leg l table (Some p)).seats
came_stands s m table leg p l h none there n free =
    let f = first_some (is_free s table.seats) 0 s.places p free in
    let within : p < 16 = omega (arith, f.2, h.sixteen) in
    let empty : leg_in table.seats s.legs p ≡ None = none_of (leg_in table.seats s.legs p) f.0 in
    record {
      sixteen = h.sixteen;
      all = length_kept ∙ h.all;
      seat = seat_set m.legs leg (record { place = Some p; came = true; listens = l }) table.seats new h.seat (sym (seat_here refl)) seat_others there;
      holder = λ q k. elim (cases_eq q p) [
        | inl same ↦ ap (slice_get (set m.places p (Some leg))) same ∙ (get_set_same m.places p (Some leg) (omega arith) ∙ ap Some (sym (ap (leg_in new s.legs) same ∙ found empty)))
        | inr other ↦ get_set_other m.places p q (Some leg) other ∙ (h.holder q k ∙ ap Some (sym (leg_in_same new table.seats s.legs q (λ x lx. at_other table.seats.place leg (Some p) q x (none_at (table.seats.place leg) q none) (not_at (Some p) p q refl other)))))
      ];
      one = λ a b q la lb ea eb. elim (cases_eq a leg) [
        | inl u ↦ elim (cases_eq b leg) [ inl v ↦ u ∙ sym v | inr v ↦ absurd (held empty b q lb v (sym (set_same table.seats.place leg (Some p) a u) ∙ ea) (sym (set_other table.seats.place leg (Some p) b v) ∙ eb)) ]
        | inr u ↦ elim (cases_eq b leg) [
          | inl v ↦ absurd (held empty a q la u (sym (set_same table.seats.place leg (Some p) b v) ∙ eb) (sym (set_other table.seats.place leg (Some p) a u) ∙ ea))
          | inr v ↦ h.one a b q la lb (sym (set_other table.seats.place leg (Some p) a u) ∙ ea) (sym (set_other table.seats.place leg (Some p) b v) ∙ eb)
        ]
      ];
    }
  where
    new : Seats
    new = record { place = set_at table.seats.place leg (Some p); came = set_at table.seats.came leg true; listens = set_at table.seats.listens leg l }

    length_kept : length (set m.legs leg (record { place = Some p; came = true; listens = l })) ≡ length m.legs
    length_kept = simp length-set

    none_of : (o : Option ℕ) → not (is_some o) ≡ true → o ≡ None
    none_of None e = refl
    none_of (Some a) e = cc e

    seat_here : leg ≡ leg → seat_of new leg ≡ record { place = Some p; came = true; listens = l }
    seat_here e =
        let a : set_at table.seats.place leg (Some p) leg ≡ Some p = set_same table.seats.place leg (Some p) leg e in
        let b : set_at table.seats.came leg true leg ≡ true = set_same table.seats.came leg true leg e in
        let c : set_at table.seats.listens leg l leg ≡ l = set_same table.seats.listens leg l leg e in
        seat_from a b c

    seat_others : (k : ℕ) → (k ≡ leg → ⊥) → seat_of new k ≡ seat_of table.seats k
    seat_others k o = seat_from (set_other table.seats.place leg (Some p) k o) (set_other table.seats.came leg true k o) (set_other table.seats.listens leg l k o)

    held : leg_in table.seats s.legs p ≡ None → (b q : ℕ) → b < s.legs → (b ≡ leg → ⊥) → Some p ≡ Some q → table.seats.place b ≡ Some q → ⊥
    held empty b q lb o e eb = let r = leg_in_found table.seats s.legs p b lb (eb ∙ sym e) in cc (sym empty ∙ r.1)

    found : leg_in table.seats s.legs p ≡ None → leg_in new s.legs p ≡ Some leg
    found empty =
        let r = leg_in_found new s.legs p leg (omega (arith, h.all)) (set_same table.seats.place leg (Some p) leg refl) in
        let t = leg_in_some new s.legs p r.0 r.1 in
        r.1 ∙ ap Some (elim (cases_eq r.0 leg) [ inl same ↦ same | inr other ↦ absurd (held empty r.0 p t.0 other refl (sym (set_other table.seats.place leg (Some p) r.0 other) ∙ t.1)) ])

pub stands_admitted : (s : Setup) (m : State) (table : Table) (leg p : ℕ) (l : Bool) → SeatingStandsFor s m table.seats → table.seats.place leg ≡ None → leg < length m.legs → length m.places ≡ 16
    → Some p ≡ first_from (is_vacant m.places) 0 (length m.places)
    → SeatingStandsFor s (record { legs = set m.legs leg (record { place = Some p; came = true; listens = l }); places = set m.places p (Some leg) }) (admitted s leg l table).seats
stands_admitted s m table leg p l h none there n e =
    let free : free_place s table.seats ≡ Some p = sym (e ∙ free_is s m table.seats h n) in
    subst (λ (o : Option ℕ). SeatingStandsFor s (record { legs = set m.legs leg (record { place = Some p; came = true; listens = l }); places = set m.places p (Some leg) }) (come_to leg l table o).seats) (sym free)
    (came_stands s m table leg p l h none there n free)

pub stands_full : (s : Setup) (m : State) (table : Table) (leg : ℕ) (l : Bool) → SeatingStandsFor s m table.seats → length m.places ≡ 16 → None ≡ first_from (is_vacant m.places) 0 (length m.places)
    → SeatingStandsFor s m (admitted s leg l table).seats
stands_full s m table leg l h n e =
    subst (λ (o : Option ℕ). SeatingStandsFor s m (come_to leg l table o).seats) (e ∙ free_is s m table.seats h n) h

pub stands_hushed : (s : Setup) (m : State) (table : Table) (leg : ℕ) (x y : Seat) → SeatingStandsFor s m table.seats → slice_get m.legs leg ≡ Some x → y ≡ record { place = x.place; came = x.came; listens = false }
    → SeatingStandsFor s (record { legs = set m.legs leg y; places = m.places }) (hushed leg table).seats
stands_hushed s m table leg x y h g e = record {
  sixteen = h.sixteen;
  all = length-set m.legs leg y ∙ h.all;
  seat = seat_set m.legs leg y table.seats new h.seat here (λ k o. seat_from refl refl (set_other table.seats.listens leg false k o)) (slice_get_within m.legs leg x g);
  holder = λ p k. h.holder p k ∙ ap Some (leg_in_same table.seats new s.legs p (λ q l. refl));
  one = h.one;
}
  where
    new : Seats
    new = record { place = table.seats.place; came = table.seats.came; listens = set_at table.seats.listens leg false }

    here : y ≡ seat_of new leg
    here = let f = h.seat leg x g in e ∙ seat_from (ap (λ (z : Seat). z.place) f) (ap (λ (z : Seat). z.came) f) (sym (set_same table.seats.listens leg false leg refl))

pub stands_freed : (s : Setup) (m : State) (table : Table) (leg p : ℕ) (x y : Seat) → SeatingStandsFor s m table.seats → slice_get m.legs leg ≡ Some x → x.place ≡ Some p → p < 16 → length m.places ≡ 16
    → y ≡ record { place = None; came = x.came; listens = x.listens } → SeatingStandsFor s (record { legs = set m.legs leg y; places = set m.places p None }) (freed leg table).seats
stands_freed s m table leg p x y h g held within n e = record {
  sixteen = h.sixteen;
  all = length-set m.legs leg y ∙ h.all;
  seat = seat_set m.legs leg y table.seats new h.seat here (λ k o. seat_from (set_other table.seats.place leg None k o) refl refl) (slice_get_within m.legs leg x g);
  holder = λ q k. elim (cases_eq q p) [
    | inl same ↦ ap (slice_get (set m.places p None)) same ∙ (get_set_same m.places p None (omega arith) ∙ ap Some (sym (ap (leg_in new s.legs) same ∙ none_found new s.legs p gone)))
    | inr other ↦ get_set_other m.places p q None other ∙ (h.holder q k ∙ ap Some (sym (leg_in_same new table.seats s.legs q (λ z lz. at_other table.seats.place leg None q z (not_at (table.seats.place leg) p q was other) refl))))
  ];
  one = λ a b q la lb ea eb. h.one a b q la lb (kept a q ea) (kept b q eb);
}
  where
    new : Seats
    new = record { place = set_at table.seats.place leg None; came = table.seats.came; listens = table.seats.listens }

    was : table.seats.place leg ≡ Some p
    was = sym (ap (λ (z : Seat). z.place) (h.seat leg x g)) ∙ held

    here : y ≡ seat_of new leg
    here = let f = h.seat leg x g in e ∙ seat_from (sym (set_same table.seats.place leg None leg refl)) (ap (λ (z : Seat). z.came) f) (ap (λ (z : Seat). z.listens) f)

    other_of : (a q : ℕ) → set_at table.seats.place leg None a ≡ Some q → a ≡ leg → ⊥
    other_of a q ea same = cc (sym (set_same table.seats.place leg None a same) ∙ ea)

    kept : (a q : ℕ) → set_at table.seats.place leg None a ≡ Some q → table.seats.place a ≡ Some q
    kept a q ea = sym (set_other table.seats.place leg None a (λ same. other_of a q ea same)) ∙ ea

    gone : (k : ℕ) → k < s.legs → set_at table.seats.place leg None k ≡ Some p → ⊥
    gone k l ek =
        let there : leg < s.legs = omega (arith, slice_get_within m.legs leg x g, h.all) in
        other_of k p ek (h.one k leg p l there (kept k p ek) was)

-- a leg that holds no place has none to give back
pub stands_placeless : (s : Setup) (m : State) (table : Table) (leg : ℕ) (x : Seat) → SeatingStandsFor s m table.seats → slice_get m.legs leg ≡ Some x → x.place ≡ None → SeatingStandsFor s m (freed leg table).seats
stands_placeless s m table leg x h g none = record {
  sixteen = h.sixteen;
  all = h.all;
  seat = λ k z e. h.seat k z e ∙ seat_from (sym (same k)) refl refl;
  holder = λ q k. h.holder q k ∙ ap Some (leg_in_same table.seats new s.legs q (λ z l. ap (is_at q) (sym (same z))));
  one = λ a b q la lb ea eb. h.one a b q la lb (sym (same a) ∙ ea) (sym (same b) ∙ eb);
}
  where
    new : Seats
    new = record { place = set_at table.seats.place leg None; came = table.seats.came; listens = table.seats.listens }

    was : table.seats.place leg ≡ None
    was = sym (ap (λ (z : Seat). z.place) (h.seat leg x g)) ∙ none

    same : (k : ℕ) → set_at table.seats.place leg None k ≡ table.seats.place k
    same k = elim (cases_eq k leg) [ inl e ↦ set_same table.seats.place leg None k e ∙ (sym was ∙ ap table.seats.place (sym e)) | inr o ↦ set_other table.seats.place leg None k o ]

-- ---- the loop over all places
pub vacant_read : (ys : List (Option ℕ)) (p : ℕ) → p < length ys → is_vacant ys p ≡ not (is_some (get_or ys p None))
vacant_read ys p l = ap (λ o. not (is_some o)) (unwrap_or-slice_get ys p None)

pub first_more : (f : ℕ → Bool) (p n : ℕ) → p < n → f p ≡ false → first_from f (p + 1) (n - (p + 1)) ≡ first_from f p (n - p)
first_more f p n l e = go (n - p) (n - (p + 1)) (omega arith)
  where
    go : (k j : ℕ) → k ≡ suc j → first_from f (p + 1) j ≡ first_from f p k
    go k j q = rw q (rw e (ap (λ x. first_from f x j) (omega arith)))

pub first_here : (f : ℕ → Bool) (p n : ℕ) → p < n → f p ≡ true → Some p ≡ first_from f p (n - p)
first_here f p n l e = go (n - p) (n - (p + 1)) (omega arith)
  where
    go : (k j : ℕ) → k ≡ suc j → Some p ≡ first_from f p k
    go k j q = rw q (rw e refl)

pub first_within : (f : ℕ → Bool) (n p : ℕ) → Some p ≡ first_from f 0 n → p < n
first_within f n p e = let r = first_some f 0 n p (sym e) in omega (arith, r.2)

pub get_replicated : {X : Type 0} (n p : ℕ) (x : X) → p < n → slice_get (replicate n x) p ≡ Some x
get_replicated zero p x l = absurd (omega arith)
get_replicated (suc n) zero x l = refl
get_replicated (suc n) (suc p) x l = get_replicated n p x (omega arith)

pub all_same : {X : Type 0} (n : ℕ) (y : X) (p : ℕ) (x : X) → slice_get (replicate n y) p ≡ Some x → x ≡ y
all_same zero y p x e = absurd (cc e)
all_same (suc n) y zero x e = cc e
all_same (suc n) y (suc p) x e = all_same n y p x e

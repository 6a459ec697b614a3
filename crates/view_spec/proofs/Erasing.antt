-- One more sign: what survives by counting is what a stack holds.
use Rattle.std.proofs.Common.{◌≡◌, ℕ, zero, suc, ◌+◌, ◌-◌, ◌<◌, ◌≤◌, Bool, true, false, ◌||◌, ◌&&◌, not, cond, nat_lt, List, [], ◌∷◌, ◌++◌, map, ◌⊎◌, inl, inr, refl, sym, ap, ap₂, ◌∙◌, arith, zero-add, append-nil}
use Rattle.std.specs.List.{list_any}
use Rattle.std.proofs.lemmas.Bool.{cases_lt}
use Rattle.std.proofs.lemmas.Bool.Decides.{nat_tests}
use Rattle.view_spec.specs.declared.classes.CharClass.{CharClass}
use Rattle.view_spec.specs.declared.classes.CharClass.TheVariants.{Erase, Bell, NewLine, Silent, Marker, Print}
use Rattle.view_spec.specs.Characters.{class_of, is_erasure, is_erasable, is_marker}
use Rattle.view_spec.specs.Shown.{erasures, erasables, fronts, loose, loose_behind, one_back, stays, survivors, takes_back, to_marker}

-- a character erases, or can be erased, or is a marker, or nothing of these
pub record Erases (k : CharClass) : Type 0 where
  pub unmarked : is_marker k ≡ false
  pub erases : is_erasure k ≡ true
  pub stays : is_erasable k ≡ false

pub record Stands (k : CharClass) : Type 0 where
  pub unmarked : is_marker k ≡ false
  pub stays : is_erasure k ≡ false
  pub stands : is_erasable k ≡ true

pub record Passes (k : CharClass) : Type 0 where
  pub unmarked : is_marker k ≡ false
  pub stays : is_erasure k ≡ false
  pub passes : is_erasable k ≡ false

pub record Markers (k : CharClass) : Type 0 where
  pub markers : is_marker k ≡ true
  pub stays : is_erasure k ≡ false
  pub passes : is_erasable k ≡ false

pub kinds : (k : CharClass) → Erases k ⊎ (Stands k ⊎ (Passes k ⊎ Markers k))
kinds Erase = inl (record { unmarked = refl; erases = refl; stays = refl })
kinds Bell = inr (inr (inl (record { unmarked = refl; stays = refl; passes = refl })))
kinds NewLine = inr (inl (record { unmarked = refl; stays = refl; stands = refl }))
kinds Silent = inr (inr (inl (record { unmarked = refl; stays = refl; passes = refl })))
kinds Marker = inr (inr (inr (record { markers = refl; stays = refl; passes = refl })))
kinds Print = inr (inl (record { unmarked = refl; stays = refl; stands = refl }))

any_same : (p q : List ℕ → Bool) (h : (x : List ℕ) → p x ≡ q x) (xs : List (List ℕ)) → list_any p xs ≡ list_any q xs
any_same p q h [] = refl
any_same p q h (x ∷ xs) = rw (h x, any_same p q h xs) refl

any_map : (p : List ℕ → Bool) (f : List ℕ → List ℕ) (xs : List (List ℕ)) → list_any p (map f xs) ≡ list_any (λ x. p (f x)) xs
any_map p f [] = refl
any_map p f (x ∷ xs) = ap (λ r. p (f x) || r) (any_map p f xs)

any_front : (p : List ℕ → Bool) (cs : List ℕ) → p [] ≡ true → list_any p (fronts cs) ≡ true
any_front p [] e = rw e refl
any_front p (c ∷ cs) e = rw e refl

pub cond_append : (b : Bool) (c : ℕ) (xs ys : List ℕ) → cond b (c ∷ (xs ++ ys)) (xs ++ ys) ≡ cond b (c ∷ xs) xs ++ ys
cond_append true c xs ys = refl
cond_append false c xs ys = refl

-- how many erasures pass over the front of the list
abbrev pub reach : List ℕ → ℕ
reach [] = 0
reach (c ∷ cs) = cond (is_marker (class_of c)) 0 (cond (is_erasure (class_of c)) (suc (reach cs)) (cond (is_erasable (class_of c)) (reach cs - 1) (reach cs)))

abbrev exceeds : ℕ → List ℕ → Bool
exceeds k front = nat_lt (k + erasables front) (erasures front)

none_below : (k : ℕ) → nat_lt (k + 0) 0 ≡ false
none_below k = grind (arith, nat_tests)

at_erasure : (k c : ℕ) (cs : List ℕ) → Erases (class_of c) → ((j : ℕ) → list_any (exceeds j) (fronts (to_marker cs)) ≡ nat_lt j (reach cs)) → list_any (λ f. exceeds k (c ∷ f)) (fronts (to_marker cs)) ≡ nat_lt k (suc (reach cs))
at_erasure zero c cs h again = any_front (λ f. exceeds 0 (c ∷ f)) (to_marker cs) (rw (h.erases, h.stays) refl) ∙ (grind (arith, nat_tests))
at_erasure (suc k) c cs h again =
    any_same (λ f. exceeds (suc k) (c ∷ f)) (exceeds k) (λ f. rw (h.erases, h.stays) (grind (arith, nat_tests))) (fronts (to_marker cs))
    ∙ (again k ∙ grind (arith, nat_tests))

at_erasable : (k c : ℕ) (cs : List ℕ) → Stands (class_of c) → ((j : ℕ) → list_any (exceeds j) (fronts (to_marker cs)) ≡ nat_lt j (reach cs)) → list_any (λ f. exceeds k (c ∷ f)) (fronts (to_marker cs)) ≡ nat_lt k (reach cs - 1)
at_erasable k c cs h again =
    any_same (λ f. exceeds k (c ∷ f)) (exceeds (suc k)) (λ f. rw (h.stays, h.stands) (grind (arith, nat_tests))) (fronts (to_marker cs))
    ∙ (again (suc k) ∙ grind (arith, nat_tests))

at_other : (k c : ℕ) (cs : List ℕ) → Passes (class_of c) → ((j : ℕ) → list_any (exceeds j) (fronts (to_marker cs)) ≡ nat_lt j (reach cs)) → list_any (λ f. exceeds k (c ∷ f)) (fronts (to_marker cs)) ≡ nat_lt k (reach cs)
at_other k c cs h again =
    any_same (λ f. exceeds k (c ∷ f)) (exceeds k) (λ f. rw (h.stays, h.passes) refl) (fronts (to_marker cs)) ∙ again k

pub reach_erases : (c : ℕ) (cs : List ℕ) → Erases (class_of c) → reach (c ∷ cs) ≡ suc (reach cs)
reach_erases c cs h = rw (h.unmarked, h.erases) refl

pub reach_stands : (c : ℕ) (cs : List ℕ) → Stands (class_of c) → reach (c ∷ cs) ≡ reach cs - 1
reach_stands c cs h = rw (h.unmarked, h.stays, h.stands) refl

pub reach_passes : (c : ℕ) (cs : List ℕ) → Passes (class_of c) → reach (c ∷ cs) ≡ reach cs
reach_passes c cs h = rw (h.unmarked, h.stays, h.passes) refl

pub reach_markers : (c : ℕ) (cs : List ℕ) → Markers (class_of c) → reach (c ∷ cs) ≡ 0
reach_markers c cs h = rw h.markers refl

-- the fronts up to a marker
no_front : (k : ℕ) → list_any (exceeds k) (fronts []) ≡ nat_lt k 0
no_front k = rw (none_below k) (grind (arith, nat_tests))

more_fronts : (k c : ℕ) (cs : List ℕ) → is_marker (class_of c) ≡ false → list_any (exceeds k) (fronts (to_marker (c ∷ cs))) ≡ list_any (λ f. exceeds k (c ∷ f)) (fronts (to_marker cs))
more_fronts k c cs e = rw (e, none_below k) (any_map (exceeds k) (λ f. c ∷ f) (fronts (to_marker cs)))

exceeds_reach : (cs : List ℕ) (k : ℕ) → list_any (exceeds k) (fronts (to_marker cs)) ≡ nat_lt k (reach cs)
exceeds_reach [] k = no_front k
exceeds_reach (c ∷ cs) k = elim (kinds (class_of c)) [
  | inl h ↦ more_fronts k c cs h.unmarked ∙ (at_erasure k c cs h (exceeds_reach cs) ∙ ap (λ n. nat_lt k n) (sym (reach_erases c cs h)))
  | inr r ↦ elim r [
    | inl h ↦ more_fronts k c cs h.unmarked ∙ (at_erasable k c cs h (exceeds_reach cs) ∙ ap (λ n. nat_lt k n) (sym (reach_stands c cs h)))
    | inr q ↦ elim q [
      | inl h ↦ more_fronts k c cs h.unmarked ∙ (at_other k c cs h (exceeds_reach cs) ∙ ap (λ n. nat_lt k n) (sym (reach_passes c cs h)))
      | inr h ↦ rw h.markers (no_front k)
    ]
  ]
]

pub takes_back_reach : (cs : List ℕ) → takes_back cs ≡ nat_lt 0 (reach cs)
takes_back_reach cs = any_same _ (exceeds 0) (λ f. rw (zero-add (erasables f)) refl) (fronts (to_marker cs)) ∙ exceeds_reach cs 0

-- the four ways in which a sign adds to the survivors
pub survivors_without : (c : ℕ) (cs : List ℕ) → is_marker (class_of c) ≡ false → is_erasable (class_of c) ≡ false → survivors (c ∷ cs) ≡ survivors cs
survivors_without c cs m e = rw (m, e) refl

pub survivors_marked : (c : ℕ) (cs : List ℕ) → is_marker (class_of c) ≡ true → survivors (c ∷ cs) ≡ c ∷ survivors cs
survivors_marked c cs m = rw m refl

pub survivors_with : (c : ℕ) (cs : List ℕ) → Stands (class_of c) → reach cs ≡ 0 → survivors (c ∷ cs) ≡ c ∷ survivors cs
survivors_with c cs h e =
    let kept : takes_back cs ≡ false = takes_back_reach cs ∙ ap (λ n. nat_lt 0 n) e in
    rw (h.unmarked, h.stands, kept) refl

pub survivors_taken : (c : ℕ) (cs : List ℕ) → Stands (class_of c) → 0 < reach cs → survivors (c ∷ cs) ≡ survivors cs
survivors_taken c cs h e =
    let some : nat_lt 0 (reach cs) ≡ true = grind (arith, nat_tests) in
    let taken : takes_back cs ≡ true = takes_back_reach cs ∙ some in
    rw (h.unmarked, h.stands, taken) refl

-- a sign that doesn't erase, at the end
pub reach_stays : (cs : List ℕ) (x : ℕ) → is_erasure (class_of x) ≡ false → reach (cs ++ x ∷ []) ≡ reach cs
reach_stays [] x e = elim (kinds (class_of x)) [
  | inl h ↦ absurd (cc)
  | inr r ↦ elim r [
    | inl h ↦ reach_stands x [] h ∙ omega arith
    | inr q ↦ elim q [
      | inl h ↦ reach_passes x [] h
      | inr h ↦ reach_markers x [] h
    ]
  ]
]
reach_stays (c ∷ cs) x e = rw (reach_stays cs x e) refl

takes_back_stays : (cs : List ℕ) (x : ℕ) → is_erasure (class_of x) ≡ false → takes_back (cs ++ x ∷ []) ≡ takes_back cs
takes_back_stays cs x e = takes_back_reach (cs ++ x ∷ []) ∙ (ap (λ n. nat_lt 0 n) (reach_stays cs x e) ∙ sym (takes_back_reach cs))

pub survivors_stays : (cs : List ℕ) (x : ℕ) → is_erasure (class_of x) ≡ false → survivors (cs ++ x ∷ []) ≡ survivors cs ++ survivors (x ∷ [])
survivors_stays [] x e = refl
survivors_stays (c ∷ cs) x e =
    ap₂ (λ b l. cond (is_marker (class_of c) || (is_erasable (class_of c) && not b)) (c ∷ l) l) (takes_back_stays cs x e) (survivors_stays cs x e)
    ∙ cond_append (stays c cs) c (survivors cs) (survivors (x ∷ []))

-- an erasure at the end
abbrev pub one_of : List ℕ → ℕ
one_of [] = 0
one_of (c ∷ cs) = 1

one_of_le : (cs : List ℕ) → one_of cs ≤ 1
one_of_le [] = omega arith
one_of_le (c ∷ cs) = omega arith

one_of_stands : (c : ℕ) (cs : List ℕ) → Stands (class_of c) → (reach cs ≡ 0) × (one_of (survivors (c ∷ cs)) ≡ 1) ⊎ ((0 < reach cs) × (one_of (survivors (c ∷ cs)) ≡ one_of (survivors cs)))
one_of_stands c cs h = elim (cases_lt 0 (reach cs)) [
  | inl more ↦ inr (more, ap one_of (survivors_taken c cs h more))
  | inr none ↦ let e : reach cs ≡ 0 = omega arith in inl (e, ap one_of (survivors_with c cs h e))
]

pub reach_erased : (cs : List ℕ) (x : ℕ) → Erases (class_of x) → reach (cs ++ x ∷ []) + one_of (survivors cs) ≡ suc (reach cs)
reach_erased [] x h = rw (reach_erases x [] h) (omega arith)
reach_erased (c ∷ cs) x h =
    let again = reach_erased cs x h in
    elim (kinds (class_of c)) [
      | inl k ↦ rw (survivors_without c cs k.unmarked k.stays, reach_erases c cs k, reach_erases c (cs ++ x ∷ []) k) (omega arith)
      | inr r ↦ elim r [
        | inl k ↦ elim (one_of_stands c cs k) [
          | inl p ↦ rw (p.1, reach_stands c cs k, reach_stands c (cs ++ x ∷ []) k) (omega (arith, p.0))
          | inr p ↦ rw (p.1, reach_stands c cs k, reach_stands c (cs ++ x ∷ []) k) (omega (arith, p.0, one_of_le (survivors cs)))
        ]
        | inr q ↦ elim q [
          | inl k ↦ rw (survivors_without c cs k.unmarked k.passes, reach_passes c cs k, reach_passes c (cs ++ x ∷ []) k) again
          | inr k ↦ rw (survivors_marked c cs k.markers, reach_markers c cs k, reach_markers c (cs ++ x ∷ []) k) (omega arith)
        ]
      ]
    ]

last_of_one : (c : ℕ) (cs ls : List ℕ) → cs ≡ ls → one_of ls ≡ 1 → c ∷ one_back cs ≡ one_back (c ∷ cs)
last_of_one c [] ls e h = absurd (omega (arith, ap one_of e))
last_of_one c (d ∷ cs) ls e h = refl

none_of_zero : (cs : List ℕ) → one_of cs ≡ 0 → cs ≡ []
none_of_zero [] e = refl
none_of_zero (c ∷ cs) e = absurd (omega arith)

-- c survives what follows it
erased_after : (c x : ℕ) (cs : List ℕ) → Stands (class_of c) → reach cs ≡ 0 → reach (cs ++ x ∷ []) + one_of (survivors cs) ≡ suc (reach cs) → survivors (cs ++ x ∷ []) ≡ one_back (survivors cs) → survivors (c ∷ cs ++ x ∷ []) ≡ one_back (c ∷ survivors cs)
erased_after c x cs k e one again = elim (cases_lt 0 (one_of (survivors cs))) [
  | inl some ↦
      let zero_after : reach (cs ++ x ∷ []) ≡ 0 = omega (arith, one_of_le (survivors cs)) in
      let single : one_of (survivors cs) ≡ 1 = omega (arith, one_of_le (survivors cs)) in
      survivors_with c (cs ++ x ∷ []) k zero_after ∙ (ap (λ l. c ∷ l) again ∙ last_of_one c (survivors cs) (survivors cs) refl single)
  | inr none ↦
      let more : 0 < reach (cs ++ x ∷ []) = omega arith in
      let nothing : survivors cs ≡ [] = none_of_zero (survivors cs) (omega arith) in
      survivors_taken c (cs ++ x ∷ []) k more ∙ (again ∙ rw (nothing, k.unmarked) refl)
]

back_to_marker : (c : ℕ) (cs : List ℕ) → is_marker (class_of c) ≡ true → c ∷ one_back cs ≡ one_back (c ∷ cs)
back_to_marker c [] m = rw m refl
back_to_marker c (d ∷ cs) m = refl

pub survivors_erased : (cs : List ℕ) (x : ℕ) → Erases (class_of x) → survivors (cs ++ x ∷ []) ≡ one_back (survivors cs)
survivors_erased [] x h = survivors_without x [] h.unmarked h.stays
survivors_erased (c ∷ cs) x h =
    let again = survivors_erased cs x h in
    elim (kinds (class_of c)) [
      | inl k ↦ rw (survivors_without c cs k.unmarked k.stays, survivors_without c (cs ++ x ∷ []) k.unmarked k.stays) again
      | inr r ↦ elim r [
        | inl k ↦ elim (cases_lt 0 (reach cs)) [
          | inl more ↦
              let still : 0 < reach (cs ++ x ∷ []) = omega (arith, reach_erased cs x h, one_of_le (survivors cs)) in
              survivors_taken c (cs ++ x ∷ []) k still ∙ (again ∙ ap one_back (sym (survivors_taken c cs k more)))
          | inr none ↦
              let e : reach cs ≡ 0 = omega arith in
              erased_after c x cs k e (reach_erased cs x h) again ∙ ap one_back (sym (survivors_with c cs k e))
        ]
        | inr q ↦ elim q [
          | inl k ↦ rw (survivors_without c cs k.unmarked k.passes, survivors_without c (cs ++ x ∷ []) k.unmarked k.passes) again
          | inr k ↦ survivors_marked c (cs ++ x ∷ []) k.markers ∙ (ap (λ l. c ∷ l) again ∙ (back_to_marker c (survivors cs) k.markers ∙ ap one_back (sym (survivors_marked c cs k.markers))))
        ]
      ]
    ]

-- the last one, a marker or not
pub one_back-append : (cs : List ℕ) (c : ℕ) → one_back (cs ++ c ∷ []) ≡ cs ++ cond (is_marker (class_of c)) (c ∷ []) []
one_back-append [] c = refl
one_back-append (b ∷ []) c = refl
one_back-append (b ∷ d ∷ cs) c = ap (λ l. b ∷ l) (one_back-append (d ∷ cs) c)

-- how many can still be taken back
pub loose-append : (n : ℕ) (cs : List ℕ) (c : ℕ) → loose_behind n (cs ++ c ∷ []) ≡ cond (is_marker (class_of c)) 0 (loose_behind n cs + 1)
loose-append n [] c = refl
loose-append n (b ∷ cs) c = loose-append (cond (is_marker (class_of b)) 0 (n + 1)) cs c

pub loose-one_back : (cs : List ℕ) → loose (one_back cs) ≡ loose cs - 1
loose-one_back [] = refl
loose-one_back (c ∷ cs) = go 0 c cs
  where
    one : (n : ℕ) (b : Bool) (c : ℕ) → is_marker (class_of c) ≡ b → loose_behind n (cond b (c ∷ []) []) ≡ cond b 0 (n + 1) - 1
    one n true c e = rw e refl
    one n false c e = omega arith

    go : (n c : ℕ) (cs : List ℕ) → loose_behind n (one_back (c ∷ cs)) ≡ loose_behind n (c ∷ cs) - 1
    go n c [] = one n (is_marker (class_of c)) c refl
    go n c (d ∷ cs) = go (cond (is_marker (class_of c)) 0 (n + 1)) d cs

-- the same by the class of the last sign
pub erased : (cs : List ℕ) (c : ℕ) → class_of c ≡ Erase → survivors (cs ++ c ∷ []) ≡ one_back (survivors cs)
erased cs c e = survivors_erased cs c (record { unmarked = rw e refl; erases = rw e refl; stays = rw e refl })

stands : (k : CharClass) → is_erasable k ≡ true → Stands k
stands k e = elim (kinds k) [
  | inl h ↦ absurd (let f : is_erasable k ≡ false = h.stays in cc)
  | inr r ↦ elim r [
    | inl h ↦ h
    | inr q ↦ elim q [
      | inl h ↦ absurd (let f : is_erasable k ≡ false = h.passes in cc)
      | inr h ↦ absurd (let f : is_erasable k ≡ false = h.passes in cc)
    ]
  ]
]

pub appended : (cs : List ℕ) (c : ℕ) → is_erasable (class_of c) ≡ true → survivors (cs ++ c ∷ []) ≡ survivors cs ++ c ∷ []
appended cs c e =
    let h = stands (class_of c) e in
    survivors_stays cs c h.stays ∙ ap (λ l. survivors cs ++ l) (survivors_with c [] h refl)

pub marked : (cs : List ℕ) (c : ℕ) → class_of c ≡ Marker → survivors (cs ++ c ∷ []) ≡ survivors cs ++ c ∷ []
marked cs c e = survivors_stays cs c (rw e refl) ∙ ap (λ l. survivors cs ++ l) (survivors_marked c [] (rw e refl))

pub passed : (cs : List ℕ) (c : ℕ) → is_marker (class_of c) ≡ false → is_erasable (class_of c) ≡ false → is_erasure (class_of c) ≡ false → survivors (cs ++ c ∷ []) ≡ survivors cs
passed cs c m e f = survivors_stays cs c f ∙ (ap (λ l. survivors cs ++ l) (survivors_without c [] m e) ∙ append-nil (survivors cs))

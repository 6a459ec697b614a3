-- A crowd is seen where one of its legs comes.
use Rattle.std.proofs.Common.{◌≡◌, ℕ, ◌≤◌, Bool, true, false, cond, Option, Some, None, List, [], ◌∷◌, length, inl, inr, refl, sym, ◌∙◌, arith}
use Rattle.std.specs.Prelude.{◌⊎◌, nat_lt, nat_le, count_by, filter}
use Rattle.std.specs.List.{list_any}
use Rattle.std.proofs.lemmas.Bool.{cases_Bool, true≢false, and_parts, or_parts, or_cases, leb-true, le-leb, ltb-true, ltb-false, lt-ltb, cases_lt}
use Rattle.std.proofs.lemmas.List.Sums.{length-filter}
use Rattle.file_spec.specs.declared.limits.TheConstants.{MOST_STAYING}
use Rattle.file_spec.specs.declared.conference_lines.Stay.{Stay}
use Rattle.file_spec.specs.declared.conference_lines.LegLine.{LegLine}
use Rattle.file_spec.specs.Stays.{is_before_end, stays_at, staying, is_crowd, NeverCrowd, HasCrowd}

-- each of the legs
abbrev Each : (LegLine → Type 0) → List LegLine → Type 0
Each P [] = Unit {0}
Each P (l ∷ ls) = P l × Each P ls

none : (p : LegLine → Bool) (ls : List LegLine) → list_any p ls ≡ false → Each (λ l. p l ≡ false) ls
none p [] e = tt
none p (l ∷ ls) e = let r = or_parts (p l) (list_any p ls) e in (r.0, none p ls r.1)

some : (p : LegLine → Bool) (ls : List LegLine) → list_any p ls ≡ true → (l : LegLine) × (p l ≡ true)
some p [] e = absurd (true≢false (sym e))
some p (l ∷ ls) e = elim (or_cases (p l) (list_any p ls) e) [ inl q ↦ (l, q) | inr q ↦ some p ls q ]

counts_none : (p : LegLine → Bool) (ls : List LegLine) → Each (λ l. p l ≡ false) ls → count_by p ls ≡ 0
counts_none p [] e = refl
counts_none p (l ∷ ls) e = rw e.0 (counts_none p ls e.1)

-- who passes the first test passes the second
passing : (p q : LegLine → Bool) (ls : List LegLine) → Each (λ l. p l ≡ true → q l ≡ true) ls → length (filter p ls) ≤ length (filter q ls)
passing p q [] e = omega arith
passing p q (l ∷ ls) e = go (p l) (q l) (passing p q ls e.1) e.0
  where
    go : (a b : Bool) → length (filter p ls) ≤ length (filter q ls) → (a ≡ true → b ≡ true) → length (cond a (l ∷ filter p ls) (filter p ls)) ≤ length (cond b (l ∷ filter q ls) (filter q ls))
    go false false m f = m
    go false true m f = omega arith
    go true false m f = absurd (true≢false (sym (f refl)))
    go true true m f = omega arith

counts : (p q : LegLine → Bool) (ls : List LegLine) → Each (λ l. p l ≡ true → q l ≡ true) ls → count_by p ls ≤ count_by q ls
counts p q ls e = let m = passing p q ls e in omega (arith, length-filter p ls, length-filter q ls)

each_map : (P Q : LegLine → Type 0) (ls : List LegLine) → ((l : LegLine) → P l → Q l) → Each P ls → Each Q ls
each_map P Q [] f e = tt
each_map P Q (l ∷ ls) f e = (f l e.0, each_map P Q ls f e.1)

-- of the legs that stay at t the one that came last
record IsLast (t : ℕ) (ls : List LegLine) (m : LegLine) : Type 0 where
  stays : stays_at t m.stay ≡ true
  last : Each (λ l. stays_at t l.stay ≡ true → l.stay.from ≤ m.stay.from) ls

abbrev NoneStays : ℕ → List LegLine → Type 0
NoneStays t ls = Each (λ l. stays_at t l.stay ≡ false) ls

last_of : (t : ℕ) (P : LegLine → Type 0) (ls : List LegLine) → Each P ls → NoneStays t ls ⊎ ((m : LegLine) × P m × IsLast t ls m)
last_of t P [] e = inl tt
last_of t P (l ∷ ls) e = go (last_of t P ls e.1)
  where
    go : NoneStays t ls ⊎ ((m : LegLine) × P m × IsLast t ls m) → NoneStays t (l ∷ ls) ⊎ ((m : LegLine) × P m × IsLast t (l ∷ ls) m)
    go (inl away) = elim (cases_Bool (stays_at t l.stay)) [
      | inl s ↦ inr (l, e.0, record { stays = s; last = (λ _. omega arith, each_map (λ x. stays_at t x.stay ≡ false) (λ x. stays_at t x.stay ≡ true → x.stay.from ≤ l.stay.from) ls (λ x f g. absurd (true≢false (sym g ∙ f))) away) })
      | inr s ↦ inl (s, away)
    ]
    go (inr r) = elim (cases_Bool (stays_at t l.stay)) [
      | inr s ↦ inr (r.0, r.1, record { stays = r.2.stays; last = (λ g. absurd (true≢false (sym g ∙ s)), r.2.last) })
      | inl s ↦ elim (cases_lt r.0.stay.from l.stay.from) [
        | inl later ↦ inr (l, e.0, record { stays = s; last = (λ _. omega arith, each_map (λ x. stays_at t x.stay ≡ true → x.stay.from ≤ r.0.stay.from) (λ x. stays_at t x.stay ≡ true → x.stay.from ≤ l.stay.from) ls (λ x f g. let b = f g in omega arith) r.2.last) })
        | inr sooner ↦ inr (r.0, r.1, record { stays = r.2.stays; last = (λ _. sooner, r.2.last) })
      ]
    ]

sooner : (s t : ℕ) (o : Option ℕ) → s ≤ t → is_before_end t o ≡ true → is_before_end s o ≡ true
sooner s t None h e = refl
sooner s t (Some end) h e = let b = ltb-true t end e in lt-ltb s end (omega arith)

-- who stays at t and came before m stays when m comes
stays_then : (s t : ℕ) (l : Stay) → s ≤ t → l.from ≤ s → stays_at t l ≡ true → stays_at s l ≡ true
stays_then s t l h f e =
    let p = and_parts (nat_le l.from t) (is_before_end t l.until) e in
    rw (le-leb l.from s f) (sooner s t l.until h p.1)

abbrev HasRoom : List LegLine → LegLine → Type 0
HasRoom legs m = nat_lt MOST_STAYING (staying m.stay.from legs) ≡ false

pub crowds_seen : (legs : List LegLine) → is_crowd legs ≡ false → NeverCrowd legs
crowds_seen legs e t = elim (last_of t (HasRoom legs) legs (none (λ m. nat_lt MOST_STAYING (staying m.stay.from legs)) legs e)) [
  | inl away ↦ let z = counts_none (λ l. stays_at t l.stay) legs away in omega arith
  | inr r ↦
      let here = leb-true r.0.stay.from t (and_parts (nat_le r.0.stay.from t) (is_before_end t r.0.stay.until) r.2.stays).0 in
      let fewer = counts (λ l. stays_at t l.stay) (λ l. stays_at r.0.stay.from l.stay) legs
      (each_map (λ l. stays_at t l.stay ≡ true → l.stay.from ≤ r.0.stay.from) (λ l. stays_at t l.stay ≡ true → stays_at r.0.stay.from l.stay ≡ true) legs (λ l f g. stays_then r.0.stay.from t l.stay here (f g) g) r.2.last) in
      let room = ltb-false MOST_STAYING (staying r.0.stay.from legs) r.1 in
      omega arith
]

pub crowds_only : (legs : List LegLine) → is_crowd legs ≡ true → HasCrowd legs
crowds_only legs e = let r = some (λ l. nat_lt MOST_STAYING (staying l.stay.from legs)) legs e in (r.0.stay.from, ltb-true MOST_STAYING (staying r.0.stay.from legs) r.1)

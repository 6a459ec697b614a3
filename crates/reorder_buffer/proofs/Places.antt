-- Where a number belongs among those that are held.
use Rattle.std.proofs.Common.{◌≡◌, ℕ, zero, suc, ◌+◌, ◌-◌, ◌^◌, ◌<◌, ◌≤◌, ◌⊎◌, true, false, inl, inr, List, [], ◌∷◌, ◌++◌, length, get_or, drop, refl, ap, subst, ◌∙◌, arith}
use Rattle.std.specs.Prelude.{map, max, insert, Some, ◌==◌}
use Rattle.std.proofs.lemmas.Bool.{eq-eqb, ne_eqb, lt-ltb, le-ltb, or_left, or_right}
use Rattle.stream_spec.specs.Numbering.{Numbered, has_number, by_number, RisingNumbers}
use Rattle.stream_spec.specs.Lists.{In}
use Rattle.rtt_base.specs.declared.text_packets.TextPacket.{TextPacket}
use Rattle.reorder_buffer.specs.States.{State, AllAbove, IsPlace, next_latest, latest_from, put_at}
use Rattle.reorder_buffer.specs.Views.{numbered_in, AreSmall}
use Rattle.reorder_buffer.specs.declared.holds.HeldPacket.{HeldPacket}

-- one more that is above
pub above_more : (ps : List TextPacket) (n : ℕ) (xs : List HeldPacket) (place : ℕ) (d : HeldPacket) → 0 < place → place ≤ length xs → n < (get_or xs (place - 1) d).number → AllAbove n (drop place (map (numbered_in ps) xs)) → AllAbove n (drop (place - 1) (map (numbered_in ps) xs))
above_more ps n xs zero d p l a h = absurd (omega arith)
above_more ps n xs (suc k) d p l a h =
    let e : suc k - 1 ≡ k = omega arith in
    rw e (go n xs k (omega arith) (subst (λ (j : ℕ). n < (get_or xs j d).number) e a) h)
  where
    go : (n : ℕ) (xs : List HeldPacket) (k : ℕ) → k < length xs → n < (get_or xs k d).number → AllAbove n (drop (suc k) (map (numbered_in ps) xs)) → AllAbove n (drop k (map (numbered_in ps) xs))
    go n [] k l a h = absurd (omega arith)
    go n (x ∷ xs) zero l a h = (a, h)
    go n (x ∷ xs) (suc k) l a h = go n xs k (omega arith) a h

pub number_at : (ps : List TextPacket) (xs : List HeldPacket) (k : ℕ) (d : HeldPacket) (e : Numbered) → k < length xs → (get_or (map (numbered_in ps) xs) k e).number ≡ (get_or xs k d).number
number_at ps [] k d e l = absurd (omega arith)
number_at ps (x ∷ xs) zero d e l = refl
number_at ps (x ∷ xs) (suc k) d e l = number_at ps xs k d e (omega arith)

-- the first is below the number, and the place of the number among the rest is one less
first_below : (n : ℕ) (x : Numbered) (xs : List Numbered) (k : ℕ) → RisingNumbers (x ∷ xs) → IsPlace n (x ∷ xs) (suc k) → (x.number < n) × IsPlace n xs k
first_below n x xs k r p = (
  head k (omega (arith, p.within)) last,
  record { within = omega (arith, p.within); above = p.above; behind = λ d q. behind k d q last },
)
  where
    last : (d : Numbered) → (get_or (x ∷ xs) k d).number < n
    last d = let e : suc k - 1 ≡ k = omega arith in subst (λ (j : ℕ). (get_or (x ∷ xs) j d).number < n) e (p.behind d (omega arith))

    member : (ys : List Numbered) (j : ℕ) → j < length ys → In (get_or ys j x) ys
    member [] j l = absurd (omega arith)
    member (y ∷ ys) zero l = inl refl
    member (y ∷ ys) (suc j) l = inr (member ys j (omega arith))

    head : (k : ℕ) → k ≤ length xs → ((d : Numbered) → (get_or (x ∷ xs) k d).number < n) → x.number < n
    head zero w f = f x
    head (suc j) w f = let b = r.0 (get_or xs j x) (member xs j (omega arith)) in let l = f x in omega arith

    behind : (k : ℕ) (d : Numbered) → 0 < k → ((d : Numbered) → (get_or (x ∷ xs) k d).number < n) → (get_or xs (k - 1) d).number < n
    behind zero d q f = absurd (omega arith)
    behind (suc j) d q f = let e : suc j - 1 ≡ j = omega arith in rw e (f d)

-- the packet is put where the definition puts it
pub put_is : (e : Numbered) (held : List Numbered) (place : ℕ) → RisingNumbers held → IsPlace e.number held place → by_number e held ≡ insert held place e
put_is e held zero r p = front held p.above
  where
    front : (xs : List Numbered) → AllAbove e.number xs → by_number e xs ≡ e ∷ xs
    front [] a = refl
    front (x ∷ xs) a = rw (lt-ltb e.number x.number a.0) refl
put_is e [] (suc k) r p = let w = p.within in absurd (omega arith)
put_is e (x ∷ xs) (suc k) r p =
    let f = first_below e.number x xs k r p in
    rw (le-ltb e.number x.number (omega (arith, f.0))) (ap (λ us. x ∷ us) (put_is e xs k r.1 f.1))

-- what stands before the place tells whether the number is held
pub held_there : (n : ℕ) (held : List Numbered) (k : ℕ) (d : Numbered) → k < length held → (get_or held k d).number ≡ n → has_number held n ≡ true
held_there n [] k d w e = absurd (omega arith)
held_there n (x ∷ xs) zero d w e = or_left (x.number == n) (has_number xs n) (eq-eqb x.number n e)
held_there n (x ∷ xs) (suc k) d w e = or_right (x.number == n) (has_number xs n) (held_there n xs k d (omega arith) e)

pub not_held : (n : ℕ) (held : List Numbered) (place : ℕ) → RisingNumbers held → IsPlace n held place → has_number held n ≡ false
not_held n held zero r p = none held p.above
  where
    none : (xs : List Numbered) → AllAbove n xs → has_number xs n ≡ false
    none [] a = refl
    none (x ∷ xs) a = rw (ne_eqb x.number n (omega (arith, a.0))) (none xs a.1)
not_held n [] (suc k) r p = refl
not_held n (x ∷ xs) (suc k) r p = let f = first_below n x xs k r p in rw (ne_eqb x.number n (omega (arith, f.0))) (not_held n xs k r.1 f.1)

-- the code's place is the number's
pub is_place : (ps : List TextPacket) (n place : ℕ) (xs : List HeldPacket) → place ≤ length xs → AllAbove n (drop place (map (numbered_in ps) xs)) → ((0 < place) → (d : HeldPacket) × ((get_or xs (place - 1) d).number < n)) → IsPlace n (map (numbered_in ps) xs) place
is_place ps n place xs l a b = record {
  within = omega (arith, length_all xs);
  above = a;
  behind = λ d p. let r = b p in let e = number_at ps xs (place - 1) r.0 d (omega arith) in omega (arith, r.1);
}
  where
    length_all : (xs : List HeldPacket) → length (map (numbered_in ps) xs) ≡ length xs
    length_all [] = refl
    length_all (x ∷ xs) = ap suc (length_all xs)

pub there_held : (ps : List TextPacket) (n place : ℕ) (xs : List HeldPacket) (d : HeldPacket) → 0 < place → place ≤ length xs → (get_or xs (place - 1) d).number ≡ n → has_number (map (numbered_in ps) xs) n ≡ true
there_held ps n place xs d p l e = held_there n (map (numbered_in ps) xs) (place - 1) (numbered_in ps d) (omega (arith, length_all xs)) (number_at ps xs (place - 1) d (numbered_in ps d) (omega arith) ∙ e)
  where
    length_all : (xs : List HeldPacket) → length (map (numbered_in ps) xs) ≡ length xs
    length_all [] = refl
    length_all (x ∷ xs) = ap suc (length_all xs)

-- ---- one more in the list
pub map_put : {X Y : Type 0} (f : X → Y) (xs : List X) (place : ℕ) (x : X) → map f (insert xs place x) ≡ insert (map f xs) place (f x)
map_put f xs zero x = refl
map_put f [] (suc k) x = refl
map_put f (y ∷ xs) (suc k) x = ap (λ us. f y ∷ us) (map_put f xs k x)

pub length_put : (xs : List HeldPacket) (place : ℕ) (x : HeldPacket) → length (insert xs place x) ≡ suc (length xs)
length_put xs zero x = refl
length_put [] (suc k) x = refl
length_put (y ∷ xs) (suc k) x = ap suc (length_put xs k x)

pub small_put : (xs : List HeldPacket) (place : ℕ) (x : HeldPacket) → AreSmall xs → x.number < 2 ^ 60 → AreSmall (insert xs place x)
small_put xs zero x s l = (l, s)
small_put [] (suc k) x s l = (l, tt)
small_put (y ∷ xs) (suc k) x s l = (s.0, small_put xs k x s.1 l)

-- ---- the packets inside
pub append_put : {X : Type 0} (xs ys : List X) (place : ℕ) (y : X) → xs ++ insert ys place y ≡ insert (xs ++ ys) (length xs + place) y
append_put [] ys place y = let e : place ≡ 0 + place = omega arith in ap (λ n. insert ys n y) e
append_put (x ∷ xs) ys place y = let e : suc (length xs + place) ≡ suc (length xs) + place = omega arith in ap (λ zs. x ∷ zs) (append_put xs ys place y) ∙ ap (λ n. insert (x ∷ (xs ++ ys)) n y) e

pub in_put : {X : Type 0} (xs : List X) (place : ℕ) (x y : X) → In y (insert xs place x) → (y ≡ x) ⊎ In y xs
in_put xs zero x y (inl e) = inl e
in_put xs zero x y (inr i) = inr i
in_put [] (suc k) x y (inl e) = inl e
in_put [] (suc k) x y (inr i) = absurd i
in_put (z ∷ xs) (suc k) x y (inl e) = inr (inl e)
in_put (z ∷ xs) (suc k) x y (inr i) = elim (in_put xs k x y i) [ inl e ↦ inl e | inr j ↦ inr (inr j) ]

-- the next number, where none is held, is settled at once
pub at_once : (s : State) (e : Numbered) (q : TextPacket) → s.held ≡ [] → e.number ≡ s.front → next_latest (put_at s 0 e q) ≡ Some (max s.latest e.time)
at_once s e q none next = ap (λ (held : List Numbered). latest_from s.wait s.moment s.front s.latest (insert held 0 e)) none ∙ (rw (next, eq-eqb s.front s.front refl) refl)

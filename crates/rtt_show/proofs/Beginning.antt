-- The front of a recording tells what the whole would.
use Rattle.std.proofs.Common.{◌≡◌, ℕ, zero, suc, ◌+◌, ◌-◌, ◌<◌, ◌≤◌, ◌⊎◌, inl, inr, Bool, true, false, cond, Option, None, Some, List, [], ◌∷◌, ◌++◌, length, take, drop, refl, ap, sym, ◌∙◌, subst, arith, append-nil, append_assoc, codes, nat_eq, nat_lt}
use Rattle.std.specs.Prelude.{◌&&◌, ◌/◌, ◌*◌, ◌==◌}
use Rattle.std.specs.List.{starts_with}
use Rattle.std.specs.Int.{w32, from_be_bytes}
use Rattle.std.proofs.lemmas.Bool.{le-ltb}
use Rattle.std.proofs.Common.{length-take}
use Rattle.std.proofs.lemmas.List.{length-append}
use Rattle.wire_spec.specs.Dump.{past_line}
use Rattle.report_spec.specs.Times.{start_behind, start_in, start_of}

-- what stands behind the front is of no matter to it
starts_still : (xs ys prefix : List ℕ) → length prefix ≤ length xs → starts_with nat_eq (xs ++ ys) prefix ≡ starts_with nat_eq xs prefix
starts_still xs ys [] l = begins xs ys
  where
    begins : (us vs : List ℕ) → starts_with nat_eq (us ++ vs) [] ≡ starts_with nat_eq us []
    begins [] [] = refl
    begins [] (v ∷ vs) = refl
    begins (u ∷ us) vs = refl
starts_still [] ys (p ∷ prefix) l = absurd (omega (arith, l))
starts_still (x ∷ xs) ys (p ∷ prefix) l = ap (λ b. nat_eq p x && b) (starts_still xs ys prefix (omega (arith, l)))

-- what follows the line
data After (n : ℕ) (xs : List ℕ) : Type 0 where
  NoLine : past_line n xs ≡ None → ((ys : List ℕ) → past_line n (xs ++ ys) ≡ None) → After n xs
  Behind : (rest : List ℕ) → past_line n xs ≡ Some rest → length xs ≤ length rest + n → ((ys : List ℕ) → past_line n (xs ++ ys) ≡ Some (rest ++ ys)) → After n xs

after : (n : ℕ) (xs : List ℕ) → n ≤ length xs → After n xs
after zero xs l = NoLine refl (λ ys. refl)
after (suc n) [] l = absurd (omega (arith, l))
after (suc n) (x ∷ xs) l = go (x == 10) refl (after n xs (omega (arith, l)))
  where
    go : (b : Bool) → (x == 10) ≡ b → After n xs → After (suc n) (x ∷ xs)
    go true e a = Behind xs (ap (λ c. cond c (Some xs) (past_line n xs)) e) (omega arith) (λ ys. ap (λ c. cond c (Some (xs ++ ys)) (past_line n (xs ++ ys))) e)
    go false e (NoLine p f) = NoLine (ap (λ c. cond c (Some xs) (past_line n xs)) e ∙ p) (λ ys. ap (λ c. cond c (Some (xs ++ ys)) (past_line n (xs ++ ys))) e ∙ f ys)
    go false e (Behind rest p s f) = Behind rest (ap (λ c. cond c (Some xs) (past_line n xs)) e ∙ p) (omega (arith, s)) (λ ys. ap (λ c. cond c (Some (xs ++ ys)) (past_line n (xs ++ ys))) e ∙ f ys)

same_number : (xs ys : List ℕ) → 4 ≤ length xs → from_be_bytes w32 (xs ++ ys) ≡ from_be_bytes w32 xs
same_number [] ys l = absurd (omega (arith, l))
same_number (a ∷ []) ys l = absurd (omega (arith, l))
same_number (a ∷ b ∷ []) ys l = absurd (omega (arith, l))
same_number (a ∷ b ∷ c ∷ []) ys l = absurd (omega (arith, l))
same_number (a ∷ b ∷ c ∷ d ∷ xs) ys l = refl

drop_still : (n : ℕ) (xs ys : List ℕ) → n ≤ length xs → drop n (xs ++ ys) ≡ drop n xs ++ ys
drop_still zero xs ys l = refl
drop_still (suc n) [] ys l = absurd (omega (arith, l))
drop_still (suc n) (x ∷ xs) ys l = drop_still n xs ys (omega (arith, l))

dropped : (n : ℕ) (xs : List ℕ) → length (drop n xs) ≡ length xs - n
dropped zero xs = omega arith
dropped (suc n) [] = omega arith
dropped (suc n) (x ∷ xs) = dropped n xs ∙ omega arith

behind_still : (xs ys : List ℕ) → 16 ≤ length xs → start_behind (Some (xs ++ ys)) ≡ start_behind (Some xs)
behind_still xs ys l =
    let one : nat_lt (length (xs ++ ys)) 16 ≡ false = le-ltb (length (xs ++ ys)) 16 (omega (arith, l, length-append xs ys)) in
    let two : nat_lt (length xs) 16 ≡ false = le-ltb (length xs) 16 l in
    let first = same_number xs ys (omega (arith, l)) in
    let second : from_be_bytes w32 (drop 4 (xs ++ ys)) ≡ from_be_bytes w32 (drop 4 xs) =
    ap (from_be_bytes w32) (drop_still 4 xs ys (omega (arith, l))) ∙ same_number (drop 4 xs) ys (omega (arith, l, dropped 4 xs)) in
    ap (λ b. cond b None (Some (start_in (xs ++ ys)))) one
    ∙ (ap (λ (n : ℕ). Some (1000 * n + from_be_bytes w32 (drop 4 (xs ++ ys)) / 1000)) first
    ∙ (ap (λ (n : ℕ). Some (1000 * from_be_bytes w32 xs + n / 1000)) second
    ∙ sym (ap (λ b. cond b None (Some (start_in xs))) two)))

long_front : (front rest : List ℕ) → length front ≡ 144 → start_of (front ++ rest) ≡ start_of front
unfolding start_of
long_front front rest l =
    let begins = starts_still front rest (codes "#!rtpplay1.0 ") (omega (arith, l)) in
    ap (λ b. start_behind (cond b (past_line 128 (front ++ rest)) None)) begins ∙ go (starts_with nat_eq front (codes "#!rtpplay1.0 ")) (after 128 front (omega (arith, l)))
  where
    go : (b : Bool) → After 128 front → start_behind (cond b (past_line 128 (front ++ rest)) None) ≡ start_behind (cond b (past_line 128 front) None)
    go false a = refl
    go true (NoLine p f) = ap start_behind (f rest ∙ sym p)
    go true (Behind behind p s f) = ap start_behind (f rest) ∙ (behind_still behind rest (omega (arith, l, s)) ∙ ap start_behind (sym p))

-- the front of 144 octets, or all
pub front_tells : (front rest : List ℕ) → (length front ≡ 144) ⊎ (rest ≡ []) → start_of (front ++ rest) ≡ start_of front
front_tells front rest (inl l) = long_front front rest l
front_tells front rest (inr e) = ap (λ (xs : List ℕ). start_of (front ++ xs)) e ∙ ap start_of (append-nil front)

-- so much of a front was read
pub front_told : (all front rest : List ℕ) (size : ℕ) → all ≡ take size front ++ rest → length front ≡ 144 → (size ≡ 144) ⊎ (rest ≡ []) → start_of (take size front) ≡ start_of all
front_told all front rest size e l w = sym (front_tells (take size front) rest (go w)) ∙ ap start_of (sym e)
  where
    go : (size ≡ 144) ⊎ (rest ≡ []) → (length (take size front) ≡ 144) ⊎ (rest ≡ [])
    go (inl s) = inl (simp length-take (omega (arith, s, l)))
    go (inr r) = inr r

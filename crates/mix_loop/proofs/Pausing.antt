-- Pauses are counted, time passes, and legs whose ends were popped.
use Rattle.std.proofs.Common.{◌≡◌, ℕ, zero, suc, ◌+◌, ◌-◌, ◌*◌, ◌/◌, ◌%◌, ◌^◌, ◌<◌, ◌≤◌, true, inl, inr, Some, List, [], ◌∷◌, ap, sym, ◌∙◌, arith}
use Rattle.std.specs.Prelude.{Bool, min, slice_get}
use Rattle.std.specs.List.{list_all}
use Rattle.std.proofs.Math.Nat.{add-mul, min-eq_left, min-eq_right}
use Rattle.std.proofs.lemmas.Nat.{div-add-mod', mod_below}
use Rattle.std.proofs.lemmas.Bool.{and_parts}
use Rattle.mix_loop.proofs.Lists.{lt_or_ge}
use Rattle.rtt_io.specs.Counts.{counted, last_count}
use Rattle.mix_loop.specs.declared.clocks.TurnClock as clocks
use Rattle.mix_loop.specs.Clocks.{OnlyTimePassed}
use Rattle.mix_loop.specs.Walks.{IsPaused}

pub paused_more : (k old new next : ℕ) → IsPaused k old new → next ≡ counted new 1 → IsPaused (k + 1) old next
paused_more k old new next (inl e) c = elim (lt_or_ge new last_count) [
  | inl low ↦ let m : min last_count (new + 1) ≡ new + 1 = min-eq_right (omega (arith, low)) in inl (omega (arith, e, c, m))
  | inr high ↦ inr (c ∙ min-eq_left (omega (arith, high)))
]
paused_more k old new next (inr e) c = inr (c ∙ min-eq_left (omega (arith, e)))

pub all_at : {X : Type 0} (f : X → Bool) (xs : List X) → list_all f xs ≡ true → (j : ℕ) (x : X) → slice_get xs j ≡ Some x → f x ≡ true
all_at f [] a j x e = absurd (cc e)
all_at f (y ∷ xs) a zero x e = let is : y ≡ x = cc e in ap f (sym is) ∙ (and_parts (f y) (list_all f xs) a).0
all_at f (y ∷ xs) a (suc j) x e = all_at f xs (and_parts (f y) (list_all f xs) a).1 j x e

pub count_same : (a b : ℕ) → a ≡ b → counted a 1 ≡ counted b 1
count_same a b e = ap (λ n. counted n 1) e

-- a moment that clocks tell
pub is_told : (x n : ℕ) → n ≡ min x (2 ^ 47 - 1) → n < 2 ^ 47
is_told x n is = elim (lt_or_ge x (2 ^ 47 - 1)) [
  | inl low ↦ let m : min x (2 ^ 47 - 1) ≡ x = min-eq_left (omega (arith, low)) in omega (arith, low, is, m)
  | inr high ↦ let m : min x (2 ^ 47 - 1) ≡ 2 ^ 47 - 1 = min-eq_right (omega (arith, high)) in omega (arith, is, m)
]

-- the first turn is due at this moment or later
pub first_due : (began x first : ℕ) → began < 2 ^ 47 → first ≡ min (began + x) (2 ^ 47 - 1) → began ≤ first
first_due began x first low is = elim (lt_or_ge (began + x) (2 ^ 47 - 1)) [
  | inl small ↦ let m : min (began + x) (2 ^ 47 - 1) ≡ began + x = min-eq_left (omega (arith, small)) in omega (arith, is, m)
  | inr high ↦ let m : min (began + x) (2 ^ 47 - 1) ≡ 2 ^ 47 - 1 = min-eq_right (omega (arith, high)) in omega (arith, is, m, low)
]

-- the same, where this is how often the tick has passed since a turn was due, and the rest
due_behind : (k tick began due next late q r : ℕ) → (began + k * tick < 2 ^ 47 → began + k * tick ≤ due) → next ≡ min (due + (late + (tick - r))) (2 ^ 47 - 1)
    → q * tick + r ≡ late → r < tick → began + (k + 1) * tick < 2 ^ 47 → began + (k + 1) * tick ≤ next
due_behind k tick began due next late q r so_far is parts small early =
    let one = add-mul k 1 tick in
    let s = so_far (omega (arith, one, early)) in
    elim (lt_or_ge (due + (late + (tick - r))) (2 ^ 47 - 1)) [
      | inl low ↦
          let m : min (due + (late + (tick - r))) (2 ^ 47 - 1) ≡ due + (late + (tick - r)) = min-eq_left (omega (arith, low)) in
          omega (arith, is, m, one, s, parts, small)
      | inr high ↦ let m : min (due + (late + (tick - r))) (2 ^ 47 - 1) ≡ 2 ^ 47 - 1 = min-eq_right (omega (arith, high)) in omega (arith, is, m, early)
    ]

-- the turn behind one is due a tick later at least
pub due_more : (k tick began now due next : ℕ) → 0 < tick → (began + k * tick < 2 ^ 47 → began + k * tick ≤ due)
    → next ≡ min (due + ((now - due) + (tick - (now - due) % tick))) (2 ^ 47 - 1) → began + (k + 1) * tick < 2 ^ 47 → began + (k + 1) * tick ≤ next
due_more k tick began now due next some so_far is early =
    let parts = div-add-mod' (now - due) tick in
    let small = mod_below (now - due) tick some in
    due_behind k tick began due next (now - due) ((now - due) / tick) ((now - due) % tick) so_far is parts small early

pub passed_on : {C K : Type 0} (g : clocks.Ghosts C K) (a b c : C) → OnlyTimePassed g a b → OnlyTimePassed g b c → OnlyTimePassed g a c
passed_on g a b c p q = record {
  same_own = λ port. q.same_own port ∙ p.same_own port;
  same_objects = λ port. q.same_objects port ∙ p.same_objects port;
  rises = (let first = p.rises in let second = q.rises in omega (arith, first, second));
  same_opened = λ t port. q.same_opened t port ∙ p.same_opened t port;
  same_leads = λ t. q.same_leads t ∙ p.same_leads t;
}

-- A list in which of all keys one alone has another element than before: what of each key stays, and what its counts come to.
use Rattle.std.proofs.Common.{◌≡◌, ◌≢◌, ◌⊎◌, inl, inr, ℕ, zero, suc, ◌<◌, ◌≤◌, ◌+◌, Bool, true, false, List, [], ◌∷◌, ◌++◌, length, set, get_or, refl, ap, sym, ◌∙◌, arith, Option, Some, None, cond, not, nat_lt}
use Rattle.std.specs.List.{position, position_or_len}
use Rattle.std.proofs.lemmas.Bool.{ltb-false}
use Rattle.rtt_io.specs.Counts.{Rose, counted, AddsCount}

-- ---- the first element that passes
module _ {X : Type 0} (first : List X → Option X) (p : X → Bool) (none : first [] ≡ None) (step : (x : X) (xs : List X) → first (x ∷ xs) ≡ cond (p x) (Some x) (first xs)) where
  -- it is the one that is put in place of the first
  pub first_set : (xs : List X) (i : ℕ) (y d : X) → i < length xs → p y ≡ true → ((k : ℕ) → k < i → p (get_or xs k d) ≡ false) → first (set xs i y) ≡ Some y
  first_set [] i y d within here before = absurd (omega arith)
  first_set (x ∷ xs) zero y d within here before = step y xs ∙ ap (λ b. cond b (Some y) (first xs)) here
  first_set (x ∷ xs) (suc i) y d within here before =
      step x (set xs i y) ∙ (ap (λ b. cond b (Some x) (first (set xs i y))) (before 0 (omega arith)) ∙ first_set xs i y d (omega arith) here (λ k h. before (suc k) (omega arith)))

  -- it is the one that is put behind a list where none passes
  pub first_push : (xs : List X) (y : X) → p y ≡ true → first xs ≡ None → first (xs ++ y ∷ []) ≡ Some y
  first_push [] y here e = step y [] ∙ ap (λ b. cond b (Some y) (first [])) here
  first_push (x ∷ xs) y here e = step x (xs ++ y ∷ []) ∙ go (p x) (sym (step x xs) ∙ e) (first_push xs y here)
    where
      go : (b : Bool) → cond b (Some x) (first xs) ≡ None → (first xs ≡ None → first (xs ++ y ∷ []) ≡ Some y) → cond b (Some x) (first (xs ++ y ∷ [])) ≡ Some y
      go true h r = absurd (cc)
      go false h r = r h

  -- there is none where no place has one
  absent : (xs : List X) → length xs ≤ position_or_len p xs → first xs ≡ None
  absent [] h = none
  absent (x ∷ xs) h = step x xs ∙ go (p x) (absent xs) h
    where
      go : (b : Bool) → (length xs ≤ position_or_len p xs → first xs ≡ None) → suc (length xs) ≤ cond (not b) (1 + position_or_len p xs) 0 → cond b (Some x) (first xs) ≡ None
      go true r k = absurd (omega arith)
      go false r k = r (omega arith)

  pub first_absent : (xs : List X) → None ≡ position p xs → first xs ≡ None
  first_absent xs e = absent xs (go (position_or_len p xs) (length xs) (nat_lt (position_or_len p xs) (length xs)) refl e)
    where
      go : (a b : ℕ) (t : Bool) → nat_lt a b ≡ t → None ≡ cond t (Some a) None → b ≤ a
      go a b true lt h = absurd (cc)
      go a b false lt h = ltb-false a b lt

-- ---- one key changes
pub record Changed {X K : Type 0} (at : List X → K → Option X) (old new : List X) (key : K) (before : Option X) (after : X) : Type 0 where
  pub was : at old key ≡ before
  pub becomes : at new key ≡ Some after
  pub others : (k : K) → k ≢ key → at new k ≡ at old k

counted_one : (o a b more : ℕ) → b ≡ counted a more → more ≡ 1 → Rose (counted o a) (counted o b)
counted_one o a b more e one = grind arith

counted_more : (o a b more : ℕ) → b ≡ counted a more → counted o b ≡ counted (counted o a) more
counted_more o a b more e = omega arith

counted_none : (o a b more : ℕ) → b ≡ counted a more → more ≡ 0 → counted o b ≡ counted o a
counted_none o a b more e z = omega arith

to_all_one : (a b n more : ℕ) → b ≡ counted a more → more ≡ 1 → Rose (counted a n) (counted b n)
to_all_one a b n more e one = grind arith

-- where the key has no count of its own, the count for all keys has more
pub adds_to_all : {K : Type 0} {there : Type 0} (key : K) (more a b : ℕ) (count : K → ℕ) → (there → ⊥) → b ≡ counted a more → AddsCount there key more (λ k. counted a (count k)) (λ k. counted b (count k))
adds_to_all key more a b count none e = record {
  added = omega arith;
  rose = λ one. to_all_one a b (count key) more e one;
  calm = λ z k. omega arith;
  never_falls = λ k. omega arith;
  no_other = λ there. absurd (none there);
}

module _ {X K : Type 0} {at : List X → K → Option X} {old new : List X} {key : K} {before : Option X} {after : X} (told : (a b : K) → (a ≡ b) ⊎ (a ≢ b)) (c : Changed at old new key before after) where
  -- a part of the element that is as it was, is so under each key
  pub stays : {T : Type 0} (part : Option X → T) → part before ≡ part (Some after) → (k : K) → part (at new k) ≡ part (at old k)
  stays part e k = elim (told k key) [
    | inl same ↦ rw (same, c.becomes, c.was, e) refl
    | inr other ↦ rw (c.others k other) refl
  ]

  -- what is made of a part, for every other key
  pub others_stay : {T : Type 0} (part : Option X → T) → (k : K) → k ≢ key → part (at new k) ≡ part (at old k)
  others_stay part k h = rw (c.others k h) refl

  pub becomes_part : {T : Type 0} (part : Option X → T) → part (at new key) ≡ part (Some after)
  becomes_part part = ap part c.becomes

  -- and what a count of it comes to
  pub adds_to_one : {there : Type 0} (count : Option X → ℕ) (more : ℕ) → count (Some after) ≡ counted (count before) more → (o : ℕ) → AddsCount there key more (λ k. counted o (count (at old k))) (λ k. counted o (count (at new k)))
  adds_to_one count more e o = record {
    added = rw (c.becomes, c.was) (counted_more o _ _ more e);
    rose = λ one. rw (c.becomes, c.was) (counted_one o _ _ more e one);
    calm = λ z k. elim (told k key) [
      | inl same ↦ rw (same, c.becomes, c.was) (counted_none o _ _ more e z)
      | inr other ↦ rw (c.others k other) refl
    ];
    never_falls = λ k. elim (told k key) [
      | inl same ↦ rw (same, c.becomes, c.was) (omega arith)
      | inr other ↦ rw (c.others k other) (omega arith)
    ];
    no_other = λ _ k h. rw (c.others k h) refl;
  }

  pub count_stays : (count : Option X → ℕ) → count before ≡ count (Some after) → (o : ℕ) (k : K) → counted o (count (at new k)) ≡ counted o (count (at old k))
  count_stays count e o k = ap (λ n. counted o n) (stays count e k)

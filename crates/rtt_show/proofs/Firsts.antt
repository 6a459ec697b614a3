-- The first 64 of what is named: each once, and all where there is room.
use Rattle.std.proofs.Common.{◌≡◌, ℕ, ◌≤◌, Bool, true, false, cond, List, [], ◌∷◌, length, refl, ap, sym, ◌∙◌, arith, length-append, ◌⊎◌, inl, inr}
use Rattle.std.specs.Prelude.{◌≢◌, ◌==◌, ◌||◌, AllPairs}
use Rattle.std.specs.List.{list_any}
use Rattle.std.proofs.Math.Bool.{or-true}
use Rattle.std.proofs.lemmas.Bool.{true≢false, ltb-true, eqb-true as eq_is}
use Rattle.std.proofs.lemmas.Bool.Decides.{Decides-eqb}
use Rattle.std.proofs.lemmas.List.Folds.{list_any-append, list_any_at}
use Rattle.std.proofs.lemmas.List.Quantifiers.{all_pairs_push}
use Rattle.rtt_base.specs.declared.limits.TheConstants.{MOST_SOURCES}
use Rattle.command_spec.specs.Firsts.{Firsts, is_kept, has_room, with_kept, with_other, with_name, with_names}

pub eq_same : (n : ℕ) → (n == n) ≡ true
eq_same n = (Decides-eqb n n).1 refl

-- what is kept stays kept
keeps_one : (f : Firsts) (x n : ℕ) → is_kept f x ≡ true → is_kept (with_name f n) x ≡ true
keeps_one f x n e = go (is_kept f n) (has_room f)
  where
    go : (b c : Bool) → is_kept (cond b f (cond c (with_kept f n) (with_other f))) x ≡ true
    go true c = e
    go false true = list_any-append (λ y. y == x) f.kept (n ∷ []) ∙ ap (λ b. b || list_any (λ y. y == x) (n ∷ [])) e
    go false false = e

keeps : (f : Firsts) (names : List ℕ) (x : ℕ) → is_kept f x ≡ true → is_kept (with_names f names) x ≡ true
keeps f [] x e = e
keeps f (n ∷ names) x e = keeps (with_name f n) names x (keeps_one f x n e)

full_one : (f : Firsts) (n : ℕ) → has_room f ≡ false → has_room (with_name f n) ≡ false
full_one f n e = go (is_kept f n) (has_room f) e
  where
    go : (b c : Bool) → c ≡ false → has_room (cond b f (cond c (with_kept f n) (with_other f))) ≡ false
    go true c r = e
    go false true r = absurd (true≢false r)
    go false false r = e

full : (f : Firsts) (names : List ℕ) → has_room f ≡ false → has_room (with_names f names) ≡ false
full f [] e = e
full f (n ∷ names) e = full (with_name f n) names (full_one f n e)

-- what is named is kept, or there is no room
named_or_full : (f : Firsts) (n : ℕ) → (is_kept (with_name f n) n ≡ true) ⊎ (has_room (with_name f n) ≡ false)
named_or_full f n = go (is_kept f n) (has_room f) refl refl
  where
    go : (b c : Bool) → is_kept f n ≡ b → has_room f ≡ c → (is_kept (cond b f (cond c (with_kept f n) (with_other f))) n ≡ true) ⊎ (has_room (cond b f (cond c (with_kept f n) (with_other f))) ≡ false)
    go true c e r = inl e
    go false true e r = inl (list_any-append (λ y. y == n) f.kept (n ∷ []) ∙ (ap (λ b. list_any (λ y. y == n) f.kept || (b || false)) (eq_same n) ∙ or-true (list_any (λ y. y == n) f.kept)))
    go false false e r = inr r

-- while there is room, whatever was named is kept
pub none_other : (f : Firsts) (n x : ℕ) (names : List ℕ) → is_kept (with_names (with_name f n) names) x ≡ false → has_room (with_names (with_name f n) names) ≡ true → (n == x) ≡ false
none_other f n x names k r = go (n == x) refl
  where
    go : (b : Bool) → (n == x) ≡ b → b ≡ false
    go false e = refl
    go true e =
        let same : n ≡ x = eq_is n x e in
        elim (named_or_full f n) [
          | inl kept ↦ absurd (true≢false (sym (keeps (with_name f n) names x (ap (λ y. is_kept (with_name f n) y) (sym same) ∙ kept)) ∙ k))
          | inr over ↦ absurd (true≢false (sym r ∙ full (with_name f n) names over))
        ]

-- ---- each once
apart_one : (f : Firsts) (n : ℕ) → AllPairs (λ a b. a ≢ b) f.kept → AllPairs (λ a b. a ≢ b) (with_name f n).kept
apart_one f n p = go (is_kept f n) (has_room f) refl
  where
    go : (b c : Bool) → is_kept f n ≡ b → AllPairs (λ a b. a ≢ b) (cond b f (cond c (with_kept f n) (with_other f))).kept
    go true c e = p
    go false true e = all_pairs_push (λ a b. a ≢ b) f.kept n p (λ k d low same. true≢false (sym (list_any_at (λ y. y == n) f.kept k d low (ap (λ y. y == n) same ∙ eq_same n)) ∙ e))
    go false false e = p

pub apart : (f : Firsts) (names : List ℕ) → AllPairs (λ a b. a ≢ b) f.kept → AllPairs (λ a b. a ≢ b) (with_names f names).kept
apart f [] p = p
apart f (n ∷ names) p = apart (with_name f n) names (apart_one f n p)

few_one : (f : Firsts) (n : ℕ) → length f.kept ≤ MOST_SOURCES → length (with_name f n).kept ≤ MOST_SOURCES
few_one f n l = go (is_kept f n) (has_room f) refl
  where
    go : (b c : Bool) → has_room f ≡ c → length (cond b f (cond c (with_kept f n) (with_other f))).kept ≤ MOST_SOURCES
    go true c e = l
    go false true e = omega (arith, ltb-true (length f.kept) MOST_SOURCES e, length-append f.kept (n ∷ []))
    go false false e = l

pub few : (f : Firsts) (names : List ℕ) → length f.kept ≤ MOST_SOURCES → length (with_names f names).kept ≤ MOST_SOURCES
few f [] l = l
few f (n ∷ names) l = few (with_name f n) names (few_one f n l)

-- How many entries a turn makes.
use Rattle.std.proofs.Common.{◌≡◌, ℕ, zero, suc, ◌+◌, ◌<◌, ◌≤◌, Bool, true, false, cond, inl, inr, List, [], ◌∷◌, length, refl, ap, subst, sym, ◌∙◌, arith}
use Rattle.std.specs.Prelude.{◌==◌, if◌then◌else◌}
use Rattle.std.proofs.lemmas.Bool.{cases_eq, ne_eqb}
use Rattle.mixer_spec.specs.Rounds.{count_below}
use Rattle.mixer_spec.specs.Setups.{Setup}
use Rattle.mixer_spec.specs.Table.{TurnEntry, Table, is_seated, turned_to, turn_aware, turn_unaware}
use Rattle.terminal_scheduler.specs.Turns.{new_entry}

-- Where a leg holds a place, fewer of those before it do than there are places.
pub few_before : (p : ℕ → Bool) (n m : ℕ) → n < m → p n ≡ true → count_below p n < count_below p m
few_before p n zero l e = absurd (omega arith)
few_before p n (suc m) l e = elim (cases_eq n m) [
  | inl same ↦ go (p m) (ap p (sym same) ∙ e) (ap (count_below p) same)
  | inr other ↦ let rest = few_before p n m (omega (arith, l, other)) e in omega (arith, rest)
]
  where
    go : (b : Bool) → b ≡ true → count_below p n ≡ count_below p m → count_below p n < (if b then 1 else 0) + count_below p m
    go true e same = omega (arith, same)
    go false e same = cc e

-- one more at most where the leg holds a place
pub one_more_where : (p : ℕ → Bool) (n a b : ℕ) → p n ≡ true → a ≤ count_below p n → b ≤ a + 1 → b ≤ count_below p (n + 1)
one_more_where p n a b e l m = let next : suc n ≡ n + 1 = omega arith in subst (λ (k : ℕ). b ≤ count_below p k) next (go (p n) e)
  where
    go : (x : Bool) → x ≡ true → b ≤ (if x then 1 else 0) + count_below p n
    go true e = omega (arith, l, m)
    go false e = cc e

pub none_more : (p : ℕ → Bool) (n a : ℕ) → a ≤ count_below p n → a ≤ count_below p (n + 1)
none_more p n a l = let next : suc n ≡ n + 1 = omega arith in subst (λ (k : ℕ). a ≤ count_below p k) next (go (p n))
  where
    go : (x : Bool) → a ≤ (if x then 1 else 0) + count_below p n
    go true = omega (arith, l)
    go false = omega (arith, l)

-- ---- how many entries there are
pub one_or_none : (before after : List TurnEntry) → length (new_entry before after) ≤ 1
one_or_none before [] = omega arith
one_or_none before (e ∷ past) = go (length past == length before)
  where
    go : (b : Bool) → let none : List TurnEntry = [] in length (cond b (e ∷ []) none) ≤ 1
    go true = omega arith
    go false = omega arith

pub none_new : (past : List TurnEntry) → new_entry past past ≡ []
none_new [] = refl
none_new (e ∷ past) = rw (ne_eqb (length past) (suc (length past)) (λ q. omega (arith, q))) refl

-- nothing comes of a leg that holds no place
pub none_entered : (s : Setup) (now t n : ℕ) (table : Table) → is_seated table.seats n ≡ false → new_entry (table.terminals n).past ((turned_to s now t table).terminals n).past ≡ []
none_entered s now t n table e =
    ap (λ (b : Bool). new_entry (table.terminals n).past (cond b (cond (s.aware n) (turn_aware s table.seats n now t (table.terminals n)) (turn_unaware s n now t (table.terminals n))) (table.terminals n)).past) e
    ∙ none_new (table.terminals n).past

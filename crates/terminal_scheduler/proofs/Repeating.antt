-- What is still to be repeated, by the counts that a terminal_scheduler keeps.
use Rattle.std.proofs.Common.{◌≡◌, ℕ, zero, suc, ◌+◌, ◌-◌, ◌≤◌, inl, inr, Bool, true, false, ◌||◌, cond, List, [], ◌∷◌, sym, ◌∙◌, arith}
use Rattle.std.specs.Prelude.{nat_lt}
use Rattle.std.proofs.lemmas.Bool.{cases_lt, lt-ltb, le-ltb}
use Rattle.wire_spec.specs.Packets.{has_text}
use Rattle.stream_spec.specs.Own.{Sent, has_text_in}
use Rattle.terminal_scheduler.specs.Turns.{repeats_left}

few_left : (g : ℕ) (sent : List Sent) → repeats_left g sent ≤ g
few_left g [] = omega arith
few_left g (e ∷ sent) = go (has_text e.text) (few_left g sent)
  where
    go : (b : Bool) → repeats_left g sent ≤ g → cond b g (repeats_left g sent - 1) ≤ g
    go true l = omega arith
    go false l = omega (arith, l)

less_one : (m r : ℕ) → nat_lt (suc m) r ≡ nat_lt m (r - 1)
less_one m r = elim (cases_lt (suc m) r) [
  | inl l ↦ lt-ltb (suc m) r l ∙ sym (lt-ltb m (r - 1) (omega (arith, l)))
  | inr l ↦ le-ltb (suc m) r l ∙ sym (le-ltb m (r - 1) (omega (arith, l)))
]

-- one of the last g - m has text exactly where more than m packets are still to repeat the last text
pub text_left : (g n m : ℕ) (sent : List Sent) → n + m ≡ g → has_text_in n sent ≡ nat_lt m (repeats_left g sent)
text_left g zero m sent q = sym (le-ltb m (repeats_left g sent) (omega (arith, q, few_left g sent)))
text_left g (suc n) m [] q = sym (le-ltb m 0 (omega arith))
text_left g (suc n) m (e ∷ sent) q = go (has_text e.text) (text_left g n (suc m) sent (omega (arith, q)))
  where
    go : (b : Bool) → has_text_in n sent ≡ nat_lt (suc m) (repeats_left g sent) → (b || has_text_in n sent) ≡ nat_lt m (cond b g (repeats_left g sent - 1))
    go true r = sym (lt-ltb m g (omega (arith, q)))
    go false r = r ∙ less_one m (repeats_left g sent)

-- a text is still to be repeated exactly where a packet is left for it
pub still_left : (g : ℕ) (sent : List Sent) → has_text_in g sent ≡ nat_lt 0 (repeats_left g sent)
still_left g sent = text_left g g 0 sent (omega arith)

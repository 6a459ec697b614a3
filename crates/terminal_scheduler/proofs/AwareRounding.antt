-- The round of an aware terminal, and a turn that serves nobody.
use Rattle.std.proofs.Common.{◌≡◌, ℕ, zero, suc, ◌+◌, ◌-◌, ◌<◌, ◌≤◌, Bool, true, false, cond, inl, inr, Option, Some, None, List, refl, ap, sym, ◌∙◌, arith}
use Rattle.std.specs.Prelude.{◌==◌}
use Rattle.std.specs.Option.{option_or}
use Rattle.std.proofs.lemmas.Bool.{cases_eq, ne_eqb}
use Rattle.mixer_spec.specs.Rounds.{first_from, first_round}
use Rattle.mixer_spec.specs.Setups.{Setup}
use Rattle.mixer_spec.specs.Table.{Terminal, Table}
use Rattle.mixer_places.specs.Lanes.{Waiting}
use Rattle.mixer_places.proofs.Sources.{stands_same}
use Rattle.terminal_scheduler.specs.Turns.{with_terminal}
use Rattle.terminal_scheduler.proofs.Putting.{puts_none}
use Rattle.terminal_scheduler.specs.AwareStates.{AwareState}
use Rattle.terminal_scheduler.specs.AwareStanding.{AwareStandsFor}
use Rattle.terminal_scheduler.specs.AwareTurns.{IsIn, IsTurned}

-- ---- the round
-- none of these numbers passes
pub first_nowhere : (p : ℕ → Bool) (low n : ℕ) → ((k : ℕ) → low ≤ k → k < low + n → p k ≡ false) → first_from p low n ≡ None
first_nowhere p low zero f = refl
first_nowhere p low (suc n) f =
    ap (λ (b : Bool). cond b (Some low) (first_from p (suc low) n)) (f low (omega arith) (omega arith))
    ∙ first_nowhere p (suc low) n (λ k a b. f k (omega (arith, a)) (omega (arith, b)))

pub round_here : (p : ℕ → Bool) (next start places u : ℕ) → next ≡ start → places ≡ 16 → Some u ≡ first_from p next (16 - next) → Some u ≡ first_round p start places
round_here p next start places u n e f =
    ap (λ (o : Option ℕ). option_or o (first_from p 0 start)) (f ∙ ((λ r. first_from p (n r) (16 - n r)) ∙ ap (λ (x : ℕ). first_from p start (x - start)) (sym e)))

pub round_later : (p : ℕ → Bool) (next start places : ℕ) (o : Option ℕ) → next ≡ start → places ≡ 16 → None ≡ first_from p next (16 - next) → o ≡ first_from p 0 (next - 0) → o ≡ first_round p start places
round_later p next start places o n e f g =
    let k : next - 0 ≡ start = omega (arith, n) in
    let none : None ≡ first_from p start (places - start) = f ∙ ((λ r. first_from p (n r) (16 - n r)) ∙ ap (λ (x : ℕ). first_from p start (x - start)) (sym e)) in
    g ∙ (ap (first_from p 0) k ∙ ap (λ (q : Option ℕ). option_or q (first_from p 0 start)) none)

-- ---- nobody is served
same_there : (b : Bool) (x z : Terminal) (i : ℕ) → (b ≡ true → x ≡ z) → (cond b x z).waits i ≡ z.waits i
same_there true x z i e = ap (λ (d : Terminal). d.waits i) (e refl)
same_there false x z i e = refl

same_terminal : (table : Table) (j k : ℕ) → (k == j) ≡ true → table.terminals j ≡ table.terminals k
same_terminal table j k e = elim (cases_eq k j) [
  | inl q ↦ ap table.terminals (sym q)
  | inr n ↦ absurd (cc (e, ne_eqb k j n))
]

pub none_served : (s : Setup) (o new : AwareState) (now : List Waiting) (table : Table) (t : ℕ) (text : List ℕ) → IsIn s o now table → AwareStandsFor s o.own new (table.terminals o.own)
    → IsTurned s table o.own (table.terminals o.own) t new now None text
none_served s o new now table t text h stands = record {
  scheduler = stands;
  slots_stand = stands_same s now table (with_terminal o.own (table.terminals o.own) table) h.slots_stand (λ i. refl) (λ k. refl)
      (λ k i. same_there (k == o.own) (table.terminals o.own) (table.terminals k) i (same_terminal table o.own k));
  puts = puts_none true t (table.terminals o.own).past text;
}

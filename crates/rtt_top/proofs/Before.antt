-- No input before a number is refused.
use Rattle.std.proofs.Common.{◌≡◌, ℕ, zero, suc, ◌+◌, ◌<◌, ◌≤◌, Option, Some, None, List, [], ◌∷◌, arith}
use Rattle.wire_spec.specs.Dump.{dump}
use Rattle.wire_spec.specs.Dump as dumps
use Rattle.file_spec.specs.Conference.{Conference}
use Rattle.mixer_spec.specs.Table.{Table}
use Rattle.command_spec.specs.declared.faults.Refusal.TheVariants.{AtByte, AtFrame, AtLine, AtTrunk, AfterTurns}
use Rattle.command_spec.specs.Work.{Contents, Steps, Refuses}
use Rattle.command_spec.specs.Outcomes.{Outcome, Missing, Done, Served, outcome_from}
use Rattle.command_spec.specs.Outcomes as outcomes
use Rattle.command_spec.specs.Mixing.{input_at, makes, unless_one_broken}
use Rattle.rtt_top.specs.Faults.{NoneBefore}

pub none_before_first : (n : ℕ) (o : Outcome) → n ≡ 0 → NoneBefore n o
none_before_first n (Missing input) e = tt
none_before_first n (outcomes.Refused input (AtByte byte kind)) e = omega (arith, e)
none_before_first n (outcomes.Refused input (AtFrame byte kind)) e = omega (arith, e)
none_before_first n (outcomes.Refused input (AtLine line kind)) e = omega (arith, e)
none_before_first n (outcomes.Refused input (AtTrunk line)) e = omega (arith, e)
none_before_first n (outcomes.Refused input (AfterTurns turns)) e = tt
none_before_first n (Done printed files) e = tt
none_before_first n (Served c) e = tt

fewer : (a b : ℕ) (o : Outcome) → b ≤ a → NoneBefore a o → NoneBefore b o
fewer a b (Missing input) l n = tt
fewer a b (outcomes.Refused input (AtByte byte kind)) l n = omega (arith, l, n)
fewer a b (outcomes.Refused input (AtFrame byte kind)) l n = omega (arith, l, n)
fewer a b (outcomes.Refused input (AtLine line kind)) l n = omega (arith, l, n)
fewer a b (outcomes.Refused input (AtTrunk line)) l n = omega (arith, l, n)
fewer a b (outcomes.Refused input (AfterTurns turns)) l n = tt
fewer a b (Done printed files) l n = tt
fewer a b (Served c) l n = tt

-- the first k recordings have no fault, and no input is refused behind them
pub none_broken : (held : Contents) (m limit n : ℕ) (inputs : List (List ℕ)) (steps : Steps) (k : ℕ) → ((i : ℕ) → i < k → (dump limit (input_at inputs i)).fault ≡ None)
    → ((j : ℕ) → NoneBefore j (outcome_from m held steps)) → NoneBefore (k + n) (outcome_from m held (unless_one_broken limit n inputs steps))
none_broken held m limit n [] steps k w tail = tail (k + n)
none_broken held m limit n (o ∷ os) steps zero w tail =
    go (dump limit o).fault (none_broken held m limit (suc n) os steps 0 (λ i l. absurd (omega (arith, l))) tail)
  where
    go : (f : Option dumps.Fault) → NoneBefore (0 + suc n) (outcome_from m held (unless_one_broken limit (suc n) os steps))
        → NoneBefore (0 + n) (outcome_from m held (elim f [ None ↦ unless_one_broken limit (suc n) os steps | Some fault ↦ Refuses n (AtByte fault.byte fault.kind) ]))
    go None more = fewer (0 + suc n) (0 + n) (outcome_from m held (unless_one_broken limit (suc n) os steps)) (omega arith) more
    go (Some fault) more = omega arith
none_broken held m limit n (o ∷ os) steps (suc k) w tail =
    go (dump limit o).fault (w 0 (omega arith)) (none_broken held m limit (suc n) os steps k (λ i l. w (suc i) (omega (arith, l))) tail)
  where
    go : (f : Option dumps.Fault) → f ≡ None → NoneBefore (k + suc n) (outcome_from m held (unless_one_broken limit (suc n) os steps))
        → NoneBefore (suc k + n) (outcome_from m held (elim f [ None ↦ unless_one_broken limit (suc n) os steps | Some fault ↦ Refuses n (AtByte fault.byte fault.kind) ]))
    go None e more = fewer (k + suc n) (suc k + n) (outcome_from m held (unless_one_broken limit (suc n) os steps)) (omega arith) more
    go (Some fault) e more = absurd (cc e)

pub none_makes : (held : Contents) (m : ℕ) (c : Conference) (table : Option Table) (j : ℕ) → NoneBefore j (outcome_from m held (makes c table))
none_makes held m c None j = tt
none_makes held m c (Some table) j = tt

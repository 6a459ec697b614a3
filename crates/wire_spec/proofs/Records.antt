-- The records of a recording, step by step.
use Rattle.std.proofs.Common.{◌≡◌, ℕ, zero, suc, ◌+◌, ◌<◌, ◌≤◌, inl, inr, Bool, true, false, eqb, ltb, List, [], length, drop, Option, None, Some, is_some, refl, sym, ap, ◌∙◌, arith, length-drop}
use Rattle.std.proofs.lemmas.Bool.{ltb-false, false≢true}
use Rattle.wire_spec.specs.declared.faults.DumpKind.{DumpKind}
use Rattle.wire_spec.proofs.Tests.{chosen}
use Rattle.wire_spec.specs.declared.faults.DumpKind.TheVariants.{BadLength, EndsInside, TooLong, TooLarge}
use Rattle.wire_spec.specs.Dump.{Item, Place, Recording, Step, End, Broken, Next, size_of, time_of, record_fault, step_or, dump_step, with_item, records_by, records_within, records}
use Rattle.wire_spec.specs.declared.limits.TheConstants.{LAST_RECORD_MOMENT}

-- a record at which no test fails
pub record Passes (limit : ℕ) (p : Place) : Type 0 where
  pub head : 8 ≤ size_of p.rest
  pub small : p.byte + size_of p.rest ≤ limit
  pub there : size_of p.rest ≤ length p.rest
  pub early : time_of p.rest ≤ LAST_RECORD_MOMENT

abbrev some : DumpKind → Option DumpKind
some kind = Some kind

never : (kind : DumpKind) → some kind ≡ None → ⊥
never kind e = false≢true (sym (ap (λ (o : Option DumpKind). is_some o) e))

passes : (limit : ℕ) (p : Place) → record_fault limit p ≡ None → Passes limit p
passes limit p e =
    elim (chosen (ltb (size_of p.rest) 8) (some BadLength) _ None e) [
      | inl h ↦ absurd (never BadLength h.1)
      | inr a ↦ elim (chosen (ltb limit (p.byte + size_of p.rest)) (some TooLarge) _ None a.1) [
        | inl h ↦ absurd (never TooLarge h.1)
        | inr b ↦ elim (chosen (ltb (length p.rest) (size_of p.rest)) (some EndsInside) _ None b.1) [
          | inl h ↦ absurd (never EndsInside h.1)
          | inr c ↦ elim (chosen (ltb LAST_RECORD_MOMENT (time_of p.rest)) (some TooLong) None None c.1) [
            | inl h ↦ absurd (never TooLong h.1)
            | inr d ↦ record { head = ltb-false _ _ a.0; small = ltb-false _ _ b.0; there = ltb-false _ _ c.0; early = ltb-false _ _ d.0 }
          ]
        ]
      ]
    ]

abbrev next_rest : Step → List ℕ
next_rest End = []
next_rest (Broken fault) = []
next_rest (Next item place) = place.rest

abbrev is_next : Step → Bool
is_next End = false
is_next (Broken fault) = false
is_next (Next item place) = true

-- what follows a record is shorter
step_shorter : (p : Place) (limit : ℕ) (fault : Option DumpKind) (item : Item) (place : Place) → 8 ≤ length p.rest → (fault ≡ None → Passes limit p) → step_or p fault ≡ Next item place → length place.rest < length p.rest
step_shorter p limit (Some kind) item place long h e = absurd (false≢true (ap is_next e))
step_shorter p limit None item place long h e =
    let same : drop (size_of p.rest) p.rest ≡ place.rest = ap next_rest e in
    let size : 8 ≤ size_of p.rest = (h refl).head in
    rw (← same) (omega (arith, length-drop (size_of p.rest) p.rest))

next_shorter : (limit : ℕ) (p : Place) (item : Item) (place : Place) → dump_step limit p ≡ Next item place → length place.rest < length p.rest
unfolding dump_step
next_shorter limit p item place e =
    elim (chosen (eqb (length p.rest) 0) End _ (Next item place) e) [
      | inl h ↦ absurd (false≢true (ap is_next h.1))
      | inr a ↦ elim (chosen (ltb (length p.rest) 8) (step_or p (Some EndsInside)) _ (Next item place) a.1) [
        | inl h ↦ absurd (false≢true (ap is_next h.1))
        | inr b ↦ step_shorter p limit (record_fault limit p) item place (ltb-false _ _ b.0) (passes limit p) b.1
      ]
    ]

same_by : (more others : Place → Recording) (limit : ℕ) (p : Place) (s : Step) → dump_step limit p ≡ s → ((place : Place) → length place.rest < length p.rest → more place ≡ others place) → records_by more s ≡ records_by others s
same_by more others limit p End e h = refl
same_by more others limit p (Broken fault) e h = refl
same_by more others limit p (Next item place) e h = ap (with_item item) (h place (next_shorter limit p item place e))

ends_at_once : (limit : ℕ) (p : Place) (more : Place → Recording) → length p.rest ≡ 0 → records_by more (dump_step limit p) ≡ record { items = []; fault = None }
unfolding dump_step
ends_at_once limit p more e = rw e refl

-- more steps than octets change nothing
pub enough : (n m limit : ℕ) (p : Place) → length p.rest ≤ n → length p.rest ≤ m → records_within n limit p ≡ records_within m limit p
unfolding records_within
enough zero zero limit p h k = refl
enough zero (suc m) limit p h k = sym (ends_at_once limit p (records_within m limit) (omega arith))
enough (suc n) zero limit p h k = ends_at_once limit p (records_within n limit) (omega arith)
enough (suc n) (suc m) limit p h k =
    same_by (records_within n limit) (records_within m limit) limit p (dump_step limit p) refl (λ place lt. enough n m limit place (omega arith) (omega arith))

-- what is still to come is one step and what comes after it
pub unrolled : (limit : ℕ) (p : Place) → records limit p ≡ records_by (records limit) (dump_step limit p)
unfolding records records_within
unrolled limit p =
    enough (length p.rest) (suc (length p.rest)) limit p (omega arith) (omega arith)
    ∙ same_by (records_within (length p.rest) limit) (records limit) limit p (dump_step limit p) refl (λ place lt. enough (length p.rest) (length place.rest) limit place (omega arith) (omega arith))

pub enough_steps : (n limit : ℕ) (p : Place) → length p.rest ≤ n → records_within n limit p ≡ records limit p
unfolding records
enough_steps n limit p h = enough n (length p.rest) limit p h (omega arith)

-- A conference behind another mixer whose inputs are read one after another.
use Rattle.std.proofs.Common.{◌≡◌, ℕ, zero, suc, ◌+◌, ◌<◌, ◌≤◌, ◌⊎◌, inl, inr, Bool, true, false, cond, Option, Some, None, List, [], ◌∷◌, length, refl, ap, sym, subst, ◌∙◌, arith}
use Rattle.std.specs.Prelude.{map, unwrap_or}
use Rattle.wire_spec.specs.Dump.{dump, dump_written, opening, records, records_within}
use Rattle.wire_spec.specs.Dump as dumps
use Rattle.wire_spec.specs.declared.faults.DumpKind.{DumpKind}
use Rattle.file_spec.specs.declared.conference_lines.LegLine.{LegLine}
use Rattle.file_spec.specs.Conference.{Conference}
use Rattle.mixer_spec.specs.Setups.{leg_at, setup}
use Rattle.mixer_spec.specs.Table.{Table}
use Rattle.mixer_spec.specs.Plain.{plain}
use Rattle.mixer_spec.specs.Bridged.{input_limit, leg_chunks}
use Rattle.command_spec.specs.Laws.{split_of}
use Rattle.command_spec.specs.declared.faults.Refusal.TheVariants.{AtByte, AtFrame, AtLine, AtTrunk, AfterTurns}
use Rattle.command_spec.specs.Work.{Contents, Made, Steps, Reads, Refuses, Makes, Serves, IsInput}
use Rattle.command_spec.specs.Outcomes.{Outcome, Done, Missing, Refused, outcome_from}
use Rattle.command_spec.specs.Mixing.{input_at, makes, mixes, unless_one_broken}
use Rattle.command_spec.specs.Cascading.{cascades, is_on_trunk, mixes_over, mixes_splits, reads_others, trunk_limit, trunk_of, unless_faulty, unless_leg_faulty}
use Rattle.cascade.specs.Inputs.{IsInputBehind, RefusesNoneBefore, input_name, input_number, number_from, own_name}
use Rattle.cascade.specs.Texts.{AllOwnLie, OwnLieBelow, texts_of}
use Rattle.command_spec.proofs.CascadeOutputs.{by_bool as by_trunk}
use Rattle.command_spec.proofs.Outputs.{is_under as some_under}

-- the splits of the legs, in leg order
abbrev pub splits_by : (ℕ → List ℕ) → List LegLine → List (List ℕ)
splits_by split legs = map (λ (leg : LegLine). split leg.ssrc) legs

-- ---- numbers
-- how many of the first k legs don't stand behind the other mixer
abbrev pub own_before : List LegLine → ℕ → ℕ
own_before [] k = 0
own_before (l ∷ legs) zero = 0
own_before (l ∷ legs) (suc k) = cond (is_on_trunk l) (own_before legs k) (suc (own_before legs k))

number_own : (n : ℕ) (legs : List LegLine) (k : ℕ) (leg : LegLine) → leg_at legs k ≡ Some leg → is_on_trunk leg ≡ false → number_from n legs k ≡ own_before legs k + n
number_own n [] k leg at own = absurd (cc at)
number_own n (l ∷ legs) zero leg at own =
    let same : leg ≡ l = cc at in
    by_trunk (λ b. cond b 1 n ≡ 0 + n) (is_on_trunk l) (λ t. absurd (let o = subst (λ (x : LegLine). is_on_trunk x ≡ false) same own in cc (t, o))) (λ f. omega arith)
number_own n (l ∷ legs) (suc k) leg at own =
    by_trunk (λ b. cond b (number_from n legs k) (number_from (suc n) legs k) ≡ cond b (own_before legs k) (suc (own_before legs k)) + n) (is_on_trunk l)
    (λ t. number_own n legs k leg at own) (λ f. number_own (suc n) legs k leg at own ∙ omega arith)

pub number_trunk : (n : ℕ) (legs : List LegLine) (k : ℕ) (leg : LegLine) → leg_at legs k ≡ Some leg → is_on_trunk leg ≡ true → number_from n legs k ≡ 1
number_trunk n [] k leg at on = absurd (cc at)
number_trunk n (l ∷ legs) zero leg at on =
    let same : leg ≡ l = cc at in
    by_trunk (λ b. cond b 1 n ≡ 1) (is_on_trunk l) (λ t. refl) (λ f. absurd (let o = subst (λ (x : LegLine). is_on_trunk x ≡ true) same on in cc (f, o)))
number_trunk n (l ∷ legs) (suc k) leg at on =
    by_trunk (λ b. cond b (number_from n legs k) (number_from (suc n) legs k) ≡ 1) (is_on_trunk l)
    (λ t. number_trunk n legs k leg at on) (λ f. number_trunk (suc n) legs k leg at on)

-- legs behind it have no lower number, but for those behind the other mixer
pub number_rises : (n : ℕ) (legs : List LegLine) (k j : ℕ) (leg : LegLine) → 1 ≤ n → k ≤ j → leg_at legs j ≡ Some leg → is_on_trunk leg ≡ false → number_from n legs k ≤ number_from n legs j
number_rises n [] k j leg some le at own = absurd (cc at)
number_rises n (l ∷ legs) zero zero leg some le at own = omega arith
number_rises n (l ∷ legs) (suc k) zero leg some le at own = absurd (omega arith)
number_rises n (l ∷ legs) zero (suc j) leg some le at own =
    by_trunk (λ b. cond b 1 n ≤ cond b (number_from n legs j) (number_from (suc n) legs j)) (is_on_trunk l)
    (λ t. let e = number_own n legs j leg at own in omega (arith, some, e)) (λ f. let e = number_own (suc n) legs j leg at own in omega (arith, e))
number_rises n (l ∷ legs) (suc k) (suc j) leg some le at own =
    by_trunk (λ b. cond b (number_from n legs k) (number_from (suc n) legs k) ≤ cond b (number_from n legs j) (number_from (suc n) legs j)) (is_on_trunk l)
    (λ t. number_rises n legs k j leg some (omega arith) at own) (λ f. number_rises (suc n) legs k j leg (omega arith) (omega arith) at own)

-- ---- names
own_skip : (other : List ℕ) (l : LegLine) (legs : List LegLine) (place : ℕ) → is_on_trunk l ≡ true → own_name other (l ∷ legs) place ≡ own_name other legs place
own_skip other l legs zero on = ap (λ b. cond b (own_name other legs zero) l.input) on
own_skip other l legs (suc place) on = ap (λ b. cond b (own_name other legs (suc place)) (own_name other legs place)) on

own_named : (other : List ℕ) (legs : List LegLine) (k : ℕ) (leg : LegLine) → leg_at legs k ≡ Some leg → is_on_trunk leg ≡ false → own_name other legs (own_before legs k) ≡ leg.input
own_named other [] k leg at own = absurd (cc at)
own_named other (l ∷ legs) zero leg at own =
    let same : leg ≡ l = cc at in
    ap (λ b. cond b (own_name other legs zero) l.input) (subst (λ (x : LegLine). is_on_trunk x ≡ false) same own) ∙ ap (λ (x : LegLine). x.input) (sym same)
own_named other (l ∷ legs) (suc k) leg at own =
    by_trunk (λ b. own_name other (l ∷ legs) (cond b (own_before legs k) (suc (own_before legs k))) ≡ leg.input) (is_on_trunk l)
    (λ t. own_skip other l legs (own_before legs k) t ∙ own_named other legs k leg at own)
    (λ f. ap (λ b. cond b (own_name other legs (suc (own_before legs k))) (own_name other legs (own_before legs k))) f ∙ own_named other legs k leg at own)

-- the name of the input of a leg that does not stand behind the other mixer
pub input_named : (file : List ℕ) (legs : List LegLine) (k : ℕ) (leg : LegLine) → leg_at legs k ≡ Some leg → is_on_trunk leg ≡ false → input_name file legs (input_number legs k) ≡ leg.input
input_named file legs k leg at own =
    let number : input_number legs k ≡ suc (suc (own_before legs k)) = let e = number_own 2 legs k leg at own in omega (arith, e) in
    ap (input_name file legs) number ∙ own_named file legs k leg at own

-- and of another one
pub trunk_named : (file : List ℕ) (legs : List LegLine) (k : ℕ) (leg : LegLine) → leg_at legs k ≡ Some leg → is_on_trunk leg ≡ true → input_name file legs (input_number legs k) ≡ file
trunk_named file legs k leg at on = ap (input_name file legs) (number_trunk 2 legs k leg at on)

-- ---- the inputs
leg_input : (Told : Type 0) (held : Contents) (split : ℕ → List ℕ) (legs : List LegLine) (next : List (List ℕ) → Steps) (k : ℕ) (leg : LegLine) → leg_at legs k ≡ Some leg
    → is_on_trunk leg ≡ false → (Told → OwnLieBelow k held legs) → IsInput Told held (reads_others split legs next) (own_before legs k) leg.input
leg_input Told held split [] next k leg at own lie = absurd (cc at)
leg_input Told held split (l ∷ legs) next zero leg at own lie =
    let same : leg ≡ l = cc at in
    by_trunk (λ b. IsInput Told held (cond b (reads_others split legs (λ more. next (split l.ssrc ∷ more))) (Reads l.input (λ octets. reads_others split legs (λ more. next (octets ∷ more))))) 0 leg.input) (is_on_trunk l)
    (λ t. absurd (let o = subst (λ (x : LegLine). is_on_trunk x ≡ false) same own in cc (t, o))) (λ f. ap (λ (x : LegLine). x.input) same)
leg_input Told held split (l ∷ legs) next (suc k) leg at own lie =
    let rest : Told → OwnLieBelow k held legs = λ told i x less is o. lie told (suc i) x (omega (arith, less)) is o in
    by_trunk (λ b. IsInput Told held (cond b (reads_others split legs (λ more. next (split l.ssrc ∷ more))) (Reads l.input (λ octets. reads_others split legs (λ more. next (octets ∷ more)))))
    (cond b (own_before legs k) (suc (own_before legs k))) leg.input) (is_on_trunk l)
    (λ t. leg_input Told held split legs (λ more. next (split l.ssrc ∷ more)) k leg at own rest)
    (λ f. (
      unwrap_or (held l.input) [],
      (λ told. some_under (held l.input) (lie told 0 l (omega arith) refl f)),
      leg_input Told held split legs (λ more. next (unwrap_or (held l.input) [] ∷ more)) k leg at own rest,
    ))

-- the recording that is read, where nothing is told of it: one without a fault
pub record IsRead (Told : Type 0) (held : Contents) (file : List ℕ) (c : Conference) (octets : List ℕ) : Type 0 where
  pub lies : Told → held file ≡ Some octets
  pub whole : (dump (trunk_limit c) octets).fault ≡ None

empty_whole : (limit : ℕ) → (dump limit (dump_written [])).fault ≡ None
unfolding dump records records_within opening
empty_whole limit = refl

-- a recording without a fault, which is that of this value, where this is told to be one
pick : (Told : Type 0) (limit : ℕ) (o : Option (List ℕ)) → (Told → (octets : List ℕ) × (o ≡ Some octets) × ((dump limit octets).fault ≡ None))
    → (octets : List ℕ) × (Told → o ≡ Some octets) × ((dump limit octets).fault ≡ None)
pick Told limit None told = (dump_written [], (λ t. let r = told t in absurd (let e = r.1 in cc e)), empty_whole limit)
pick Told limit (Some octets) told = go (dump limit octets).fault refl
  where
    go : (f : Option dumps.Fault) → (dump limit octets).fault ≡ f → (os : List ℕ) × (Told → Some octets ≡ Some os) × ((dump limit os).fault ≡ None)
    go None is = (octets, (λ t. refl), is)
    go (Some fault) is = (
      dump_written [],
      (λ t.
          let r = told t in
          let same : octets ≡ r.0 = let e = r.1 in cc e in
          absurd (let w = r.2 in let f = sym (ap (λ (os : List ℕ). (dump limit os).fault) same) ∙ is in cc (w, f))),
      empty_whole limit,
    )

-- some recording is read
pub some_read : (Told : Type 0) (held : Contents) (file : List ℕ) (c : Conference) → (Told → (octets : List ℕ) × (held file ≡ Some octets) × ((dump (trunk_limit c) octets).fault ≡ None))
    → (octets : List ℕ) × IsRead Told held file c octets
some_read Told held file c told = let p = pick Told (trunk_limit c) (held file) told in (p.0, record { lies = p.1; whole = p.2 })

pub is_input : (Told : Type 0) (held : Contents) (file : List ℕ) (ssrc : ℕ) (c : Conference) (octets : List ℕ) (k : ℕ) (leg : LegLine) → IsRead Told held file c octets → leg_at c.legs k ≡ Some leg
    → is_on_trunk leg ≡ false → (Told → OwnLieBelow k held c.legs) → IsInputBehind Told held (cascades file ssrc c) (input_number c.legs k) leg.input
is_input Told held file ssrc c octets k leg r at own lie =
    let split = split_of (trunk_of c ssrc) octets in
    let none : unless_faulty 1 (dump (trunk_limit c) octets).fault (reads_others split c.legs (mixes_over c)) ≡ reads_others split c.legs (mixes_over c) =
    ap (λ o. unless_faulty 1 o (reads_others split c.legs (mixes_over c))) r.whole in
    let number : suc (suc (own_before c.legs k)) ≡ input_number c.legs k = let e = number_own 2 c.legs k leg at own in omega (arith, e) in
    subst (λ n. IsInputBehind Told held (cascades file ssrc c) n leg.input) number
    (octets, r.lies, subst (λ (s : Steps). IsInput Told held s (own_before c.legs k) leg.input) (sym none) (leg_input Told held split c.legs (mixes_over c) k leg at own lie))

-- ---- the outcome
chain : (held : Contents) (split : ℕ → List ℕ) (n : ℕ) (legs : List LegLine) (next : List (List ℕ) → Steps) → AllOwnLie held legs
    → (m : ℕ) × (outcome_from n held (reads_others split legs next) ≡ outcome_from m held (next (texts_of held legs (splits_by split legs))))
chain held split n [] next lie = (n, refl)
chain held split n (l ∷ legs) next lie =
    let rest : AllOwnLie held legs = λ i x less is o. lie (suc i) x (omega (arith, less)) is o in
    let then_ : List ℕ → List (List ℕ) → Steps = λ octets more. next (octets ∷ more) in
    by_trunk (λ b. (m : ℕ) × (outcome_from n held (cond b (reads_others split legs (then_ (split l.ssrc))) (Reads l.input (λ octets. reads_others split legs (then_ octets))))
    ≡ outcome_from m held (next (cond b (split l.ssrc) (unwrap_or (held l.input) []) ∷ texts_of held legs (splits_by split legs))))) (is_on_trunk l)
    (λ t. chain held split n legs (then_ (split l.ssrc)) rest)
    (λ f.
    let P : Option (List ℕ) → Outcome = λ o. elim o [ None ↦ Missing n | Some octets ↦ outcome_from (n + 1) held (reads_others split legs (then_ octets)) ] in
    let more = chain held split (n + 1) legs (then_ (unwrap_or (held l.input) [])) rest in
    (more.0, ap P (some_under (held l.input) (lie 0 l (omega arith) refl f)) ∙ more.1))

pub outcome_is : (held : Contents) (file : List ℕ) (ssrc : ℕ) (c : Conference) (octets : List ℕ) → held file ≡ Some octets → (dump (trunk_limit c) octets).fault ≡ None → AllOwnLie held c.legs
    → (m : ℕ) × (outcome_from 1 held (cascades file ssrc c) ≡ outcome_from m held (mixes_over c (texts_of held c.legs (splits_by (split_of (trunk_of c ssrc) octets) c.legs))))
outcome_is held file ssrc c octets there whole lie =
    let split = split_of (trunk_of c ssrc) octets in
    let more = chain held split 2 c.legs (mixes_over c) lie in
    let P : Option (List ℕ) → Outcome = λ o. elim o [ None ↦ Missing 1 | Some octets ↦ outcome_from (1 + 1) held (mixes_splits c ssrc octets) ] in
    (more.0, ap P there ∙ (ap (λ o. outcome_from 2 held (unless_faulty 1 o (reads_others split c.legs (mixes_over c)))) whole ∙ more.1))

-- ---- faults of the texts
abbrev pub fault_at : ℕ → List (List ℕ) → ℕ → Option dumps.Fault
fault_at limit inputs k = (dump limit (input_at inputs k)).fault

whole_steps : (limit n : ℕ) (legs : List LegLine) (inputs : List (List ℕ)) (steps : Steps) → ((k : ℕ) → k < length inputs → fault_at limit inputs k ≡ None)
    → unless_leg_faulty limit n legs inputs steps ≡ steps
whole_steps limit n [] inputs steps w = refl
whole_steps limit n (l ∷ legs) [] steps w = refl
whole_steps limit n (l ∷ legs) (o ∷ os) steps w =
    let rest : (k : ℕ) → k < length os → fault_at limit os k ≡ None = λ k less. w (suc k) (omega (arith, less)) in
    by_trunk (λ b. cond b (unless_faulty 1 (dump limit o).fault (unless_leg_faulty limit n legs os steps)) (unless_faulty n (dump limit o).fault (unless_leg_faulty limit (suc n) legs os steps)) ≡ steps) (is_on_trunk l)
    (λ t. ap (λ f. unless_faulty 1 f (unless_leg_faulty limit n legs os steps)) (w 0 (omega arith)) ∙ whole_steps limit n legs os steps rest)
    (λ t. ap (λ f. unless_faulty n f (unless_leg_faulty limit (suc n) legs os steps)) (w 0 (omega arith)) ∙ whole_steps limit (suc n) legs os steps rest)

broken_steps : (limit n : ℕ) (legs : List LegLine) (inputs : List (List ℕ)) (steps : Steps) (k : ℕ) (fault : dumps.Fault) → k < length legs → k < length inputs
    → ((i : ℕ) → i < k → fault_at limit inputs i ≡ None) → fault_at limit inputs k ≡ Some fault
    → unless_leg_faulty limit n legs inputs steps ≡ Refuses (number_from n legs k) (AtByte fault.byte fault.kind)
broken_steps limit n [] inputs steps k fault a b w is = absurd (omega (arith, a))
broken_steps limit n (l ∷ legs) [] steps k fault a b w is = absurd (omega (arith, b))
broken_steps limit n (l ∷ legs) (o ∷ os) steps zero fault a b w is =
    by_trunk (λ b. cond b (unless_faulty 1 (dump limit o).fault (unless_leg_faulty limit n legs os steps)) (unless_faulty n (dump limit o).fault (unless_leg_faulty limit (suc n) legs os steps))
    ≡ Refuses (cond b 1 n) (AtByte fault.byte fault.kind)) (is_on_trunk l)
    (λ t. ap (λ f. unless_faulty 1 f (unless_leg_faulty limit n legs os steps)) is)
    (λ t. ap (λ f. unless_faulty n f (unless_leg_faulty limit (suc n) legs os steps)) is)
broken_steps limit n (l ∷ legs) (o ∷ os) steps (suc k) fault a b w is =
    let rest : (i : ℕ) → i < k → fault_at limit os i ≡ None = λ i less. w (suc i) (omega (arith, less)) in
    by_trunk (λ b. cond b (unless_faulty 1 (dump limit o).fault (unless_leg_faulty limit n legs os steps)) (unless_faulty n (dump limit o).fault (unless_leg_faulty limit (suc n) legs os steps))
    ≡ Refuses (cond b (number_from n legs k) (number_from (suc n) legs k)) (AtByte fault.byte fault.kind)) (is_on_trunk l)
    (λ t. ap (λ f. unless_faulty 1 f (unless_leg_faulty limit n legs os steps)) (w 0 (omega arith)) ∙ broken_steps limit n legs os steps k fault (omega (arith, a)) (omega (arith, b)) rest is)
    (λ t. ap (λ f. unless_faulty n f (unless_leg_faulty limit (suc n) legs os steps)) (w 0 (omega arith)) ∙ broken_steps limit (suc n) legs os steps k fault (omega (arith, a)) (omega (arith, b)) rest is)

-- ---- what is not refused
faulty_before : (held : Contents) (i m n : ℕ) (o : Option dumps.Fault) (steps : Steps) → (o ≡ None) ⊎ (i ≤ n) → RefusesNoneBefore i (outcome_from m held steps)
    → RefusesNoneBefore i (outcome_from m held (unless_faulty n o steps))
faulty_before held i m n None steps low next = next
faulty_before held i m n (Some fault) steps (inl e) next = absurd (cc e)
faulty_before held i m n (Some fault) steps (inr low) next = low

-- the text of each leg behind the other mixer has no fault, or this number is at most 1
abbrev AreSpared : ℕ → ℕ → List LegLine → List (List ℕ) → Type 0
AreSpared i limit legs inputs = (k : ℕ) (leg : LegLine) → leg_at legs k ≡ Some leg → is_on_trunk leg ≡ true → (fault_at limit inputs k ≡ None) ⊎ (i ≤ 1)

none_later : (held : Contents) (i m limit n : ℕ) (legs : List LegLine) (inputs : List (List ℕ)) (steps : Steps) → i ≤ n → AreSpared i limit legs inputs → RefusesNoneBefore i (outcome_from m held steps)
    → RefusesNoneBefore i (outcome_from m held (unless_leg_faulty limit n legs inputs steps))
none_later held i m limit n [] inputs steps low spared next = next
none_later held i m limit n (l ∷ legs) [] steps low spared next = next
none_later held i m limit n (l ∷ legs) (o ∷ os) steps low spared next =
    let rest : AreSpared i limit legs os = λ k leg at on. spared (suc k) leg at on in
    by_trunk (λ b. RefusesNoneBefore i (outcome_from m held (cond b (unless_faulty 1 (dump limit o).fault (unless_leg_faulty limit n legs os steps)) (unless_faulty n (dump limit o).fault (unless_leg_faulty limit (suc n) legs os steps))))) (is_on_trunk l)
    (λ t. faulty_before held i m 1 (dump limit o).fault (unless_leg_faulty limit n legs os steps) (spared 0 l refl t) (none_later held i m limit n legs os steps low rest next))
    (λ t. faulty_before held i m n (dump limit o).fault (unless_leg_faulty limit (suc n) legs os steps) (inr low) (none_later held i m limit (suc n) legs os steps (omega (arith, low)) rest next))

none_lower : (held : Contents) (m limit n : ℕ) (legs : List LegLine) (inputs : List (List ℕ)) (steps : Steps) (k : ℕ) (leg : LegLine) → leg_at legs k ≡ Some leg → 1 ≤ n
    → ((i : ℕ) → i < k → i < length inputs → fault_at limit inputs i ≡ None) → AreSpared (number_from n legs k) limit legs inputs → RefusesNoneBefore (number_from n legs k) (outcome_from m held steps)
    → RefusesNoneBefore (number_from n legs k) (outcome_from m held (unless_leg_faulty limit n legs inputs steps))
none_lower held m limit n [] inputs steps k leg at some w spared next = absurd (cc at)
none_lower held m limit n (l ∷ legs) [] steps k leg at some w spared next = next
none_lower held m limit n (l ∷ legs) (o ∷ os) steps zero leg at some w spared next =
    none_later held (number_from n (l ∷ legs) 0) m limit n (l ∷ legs) (o ∷ os) steps (by_trunk (λ b. cond b 1 n ≤ n) (is_on_trunk l) (λ t. some) (λ f. omega arith)) spared next
none_lower held m limit n (l ∷ legs) (o ∷ os) steps (suc k) leg at some w spared next =
    let rest : (i : ℕ) → i < k → i < length os → fault_at limit os i ≡ None = λ i less within. w (suc i) (omega (arith, less)) (omega (arith, within)) in
    let first : (dump limit o).fault ≡ None = w 0 (omega arith) (omega arith) in
    by_trunk
    (λ b. AreSpared (cond b (number_from n legs k) (number_from (suc n) legs k)) limit (l ∷ legs) (o ∷ os) → RefusesNoneBefore (cond b (number_from n legs k) (number_from (suc n) legs k)) (outcome_from m held steps)
    → RefusesNoneBefore (cond b (number_from n legs k) (number_from (suc n) legs k))
    (outcome_from m held (cond b (unless_faulty 1 (dump limit o).fault (unless_leg_faulty limit n legs os steps)) (unless_faulty n (dump limit o).fault (unless_leg_faulty limit (suc n) legs os steps)))))
    (is_on_trunk l)
    (λ t spared next.
    faulty_before held (number_from n legs k) m 1 (dump limit o).fault (unless_leg_faulty limit n legs os steps) (inl first)
    (none_lower held m limit n legs os steps k leg at some rest (λ j x a on. spared (suc j) x a on) next))
    (λ t spared next.
    faulty_before held (number_from (suc n) legs k) m n (dump limit o).fault (unless_leg_faulty limit (suc n) legs os steps) (inl first)
    (none_lower held m limit (suc n) legs os steps k leg at (omega arith) rest (λ j x a on. spared (suc j) x a on) next))
    spared next

none_makes : (held : Contents) (i m : ℕ) (c : Conference) (table : Option Table) → RefusesNoneBefore i (outcome_from m held (makes c table))
none_makes held i m c None = tt
none_makes held i m c (Some table) = tt

-- ---- by what mixing comes to
abbrev by_byte : Steps → Bool
by_byte (Reads name next) = false
by_byte (Refuses i (AtByte byte kind)) = true
by_byte (Refuses i (AtFrame byte kind)) = false
by_byte (Refuses i (AtLine line kind)) = false
by_byte (Refuses i (AtTrunk line)) = false
by_byte (Refuses i (AfterTurns turns)) = false
by_byte (Makes printed files) = false
by_byte (Serves c) = false

each_whole : (limit : ℕ) (o : List ℕ) (os : List (List ℕ)) → (dump limit o).fault ≡ None → ((k : ℕ) → k < length os → fault_at limit os k ≡ None)
    → (k : ℕ) → k < length (o ∷ os) → fault_at limit (o ∷ os) k ≡ None
each_whole limit o os is r zero less = is
each_whole limit o os is r (suc k) less = r k (omega (arith, less))

unbroken : (limit n : ℕ) (inputs : List (List ℕ)) (steps : Steps) → by_byte (unless_one_broken limit n inputs steps) ≡ false
    → ((k : ℕ) → k < length inputs → fault_at limit inputs k ≡ None) × (unless_one_broken limit n inputs steps ≡ steps)
unbroken limit n [] steps e = (λ k less. absurd (omega (arith, less)), refl)
unbroken limit n (o ∷ os) steps e = go (dump limit o).fault refl e (unbroken limit (suc n) os steps)
  where
    go : (f : Option dumps.Fault) → (dump limit o).fault ≡ f
        → by_byte (elim f [ None ↦ unless_one_broken limit (suc n) os steps | Some fault ↦ Refuses n (AtByte fault.byte fault.kind) ]) ≡ false
        → (by_byte (unless_one_broken limit (suc n) os steps) ≡ false → ((k : ℕ) → k < length os → fault_at limit os k ≡ None) × (unless_one_broken limit (suc n) os steps ≡ steps))
        → ((k : ℕ) → k < length (o ∷ os) → fault_at limit (o ∷ os) k ≡ None) × (unless_one_broken limit n (o ∷ os) steps ≡ steps)
    go (Some fault) is e rest = absurd (cc e)
    go None is e rest =
        let r = rest e in
        let P : Option dumps.Fault → Steps = λ f. elim f [ None ↦ unless_one_broken limit (suc n) os steps | Some fault ↦ Refuses n (AtByte fault.byte fault.kind) ] in
        (each_whole limit o os is r.0, ap P is ∙ r.1)

-- a refusal at a byte is that of an input from number n on
refuses_later : (limit n : ℕ) (inputs : List (List ℕ)) (c : Conference) (table : Option Table) (i byte : ℕ) (kind : DumpKind) → unless_one_broken limit n inputs (makes c table) ≡ Refuses i (AtByte byte kind) → n ≤ i
refuses_later limit n [] c None i byte kind e = absurd (cc e)
refuses_later limit n [] c (Some table) i byte kind e = absurd (cc e)
refuses_later limit n (o ∷ os) c table i byte kind e = go (dump limit o).fault e (refuses_later limit (suc n) os c table i byte kind)
  where
    go : (f : Option dumps.Fault) → elim f [ None ↦ unless_one_broken limit (suc n) os (makes c table) | Some fault ↦ Refuses n (AtByte fault.byte fault.kind) ] ≡ Refuses i (AtByte byte kind)
        → (unless_one_broken limit (suc n) os (makes c table) ≡ Refuses i (AtByte byte kind) → suc n ≤ i) → n ≤ i
    go None e rest = let l = rest e in omega (arith, l)
    go (Some fault) e rest = let same : n ≡ i = cc e in omega (arith, same)

-- Where the k texts before it have no fault, the text that is refused at a byte has that fault.
broken_at : (limit n : ℕ) (inputs : List (List ℕ)) (c : Conference) (table : Option Table) (k byte : ℕ) (kind : DumpKind) → ((i : ℕ) → i < k → fault_at limit inputs i ≡ None)
    → unless_one_broken limit n inputs (makes c table) ≡ Refuses (k + n) (AtByte byte kind) → (k < length inputs) × (fault_at limit inputs k ≡ Some (record { byte = byte; kind = kind }))
broken_at limit n [] c None k byte kind w e = absurd (cc e)
broken_at limit n [] c (Some table) k byte kind w e = absurd (cc e)
broken_at limit n (o ∷ os) c table zero byte kind w e = go (dump limit o).fault refl e
  where
    go : (f : Option dumps.Fault) → (dump limit o).fault ≡ f
        → elim f [ None ↦ unless_one_broken limit (suc n) os (makes c table) | Some fault ↦ Refuses n (AtByte fault.byte fault.kind) ] ≡ Refuses (0 + n) (AtByte byte kind)
        → (0 < length (o ∷ os)) × (fault_at limit (o ∷ os) 0 ≡ Some (record { byte = byte; kind = kind }))
    go None is e = absurd (let l = refuses_later limit (suc n) os c table (0 + n) byte kind e in omega (arith, l))
    go (Some fault) is e =
        let b : fault.byte ≡ byte = cc e in
        let k : fault.kind ≡ kind = cc e in
        (omega arith, is ∙ (λ i. Some (record { byte = b i; kind = k i })))
broken_at limit n (o ∷ os) c table (suc k) byte kind w e =
    let P : Option dumps.Fault → Steps = λ f. elim f [ None ↦ unless_one_broken limit (suc n) os (makes c table) | Some fault ↦ Refuses n (AtByte fault.byte fault.kind) ] in
    let there : suc k + n ≡ k + suc n = omega arith in
    let r = broken_at limit (suc n) os c table k byte kind (λ i less. w (suc i) (omega (arith, less))) (sym (ap P (w 0 (omega arith))) ∙ (e ∙ ap (λ i. Refuses i (AtByte byte kind)) there)) in
    (omega (arith, r.0), r.1)

-- ---- the whole
pub length_texts : (held : Contents) (legs : List LegLine) (recordings : List (List ℕ)) → length (texts_of held legs recordings) ≡ length legs
length_texts held [] recordings = refl
length_texts held (l ∷ legs) [] = ap suc (length_texts held legs [])
length_texts held (l ∷ legs) (r ∷ rs) = ap suc (length_texts held legs rs)

-- what is made of texts without a fault
abbrev table_of : Conference → List (List ℕ) → Option Table
table_of c inputs = plain (setup c) c.tick c.turns (leg_chunks c (input_at inputs))

over_whole : (c : Conference) (inputs : List (List ℕ)) (steps : Steps) → mixes c inputs ≡ steps → by_byte steps ≡ false
    → ((k : ℕ) → k < length inputs → fault_at (input_limit c) inputs k ≡ None) × (makes c (table_of c inputs) ≡ steps)
over_whole c inputs steps e none =
    let r = unbroken (input_limit c) 1 inputs (makes c (table_of c inputs)) (ap by_byte e ∙ none) in
    (r.0, sym r.1 ∙ e)

-- A conference behind another mixer whose recording is read to its end, where something lies under each input of its own.
module _ (held : Contents) (file : List ℕ) (ssrc : ℕ) (c : Conference) (octets : List ℕ) (there : held file ≡ Some octets) (whole : (dump (trunk_limit c) octets).fault ≡ None) (lie : AllOwnLie held c.legs) where
  abbrev pub texts : List (List ℕ)
  texts = texts_of held c.legs (splits_by (split_of (trunk_of c ssrc) octets) c.legs)

  many : length texts ≡ length c.legs
  many = length_texts held c.legs (splits_by (split_of (trunk_of c ssrc) octets) c.legs)

  over_is : (steps : Steps) → mixes c texts ≡ steps → by_byte steps ≡ false → (m : ℕ) × (outcome_from 1 held (cascades file ssrc c) ≡ outcome_from m held steps)
  over_is steps e none =
      let o = outcome_is held file ssrc c octets there whole lie in
      let r = over_whole c texts steps e none in
      (o.0, o.1 ∙ ap (outcome_from o.0 held) (whole_steps (input_limit c) 2 c.legs texts (makes c (table_of c texts)) r.0 ∙ r.1))

  pub done_is : (printed : List ℕ) (files : List Made) → mixes c texts ≡ Makes printed files → outcome_from 1 held (cascades file ssrc c) ≡ Done printed files
  done_is printed files e = (over_is (Makes printed files) e refl).1

  pub too_long_is : mixes c texts ≡ Refuses 0 (AfterTurns c.turns) → outcome_from 1 held (cascades file ssrc c) ≡ Refused 0 (AfterTurns c.turns)
  too_long_is e = (over_is (Refuses 0 (AfterTurns c.turns)) e refl).1

  pub refused_is : (k byte : ℕ) (kind : DumpKind) → k < length c.legs → ((i : ℕ) → i < k → fault_at (input_limit c) texts i ≡ None) → mixes c texts ≡ Refuses (k + 1) (AtByte byte kind)
      → outcome_from 1 held (cascades file ssrc c) ≡ Refused (input_number c.legs k) (AtByte byte kind)
  refused_is k byte kind low w e =
      let o = outcome_is held file ssrc c octets there whole lie in
      let at = broken_at (input_limit c) 1 texts c (table_of c texts) k byte kind w e in
      o.1 ∙ ap (outcome_from o.0 held) (broken_steps (input_limit c) 2 c.legs texts (makes c (table_of c texts)) k (record { byte = byte; kind = kind }) low at.0 w at.1)

  pub none_before : (k : ℕ) (leg : LegLine) → leg_at c.legs k ≡ Some leg → ((i : ℕ) → i < k → fault_at (input_limit c) texts i ≡ None)
      → ((j : ℕ) (l : LegLine) → leg_at c.legs j ≡ Some l → is_on_trunk l ≡ true → fault_at (input_limit c) texts j ≡ None)
      → RefusesNoneBefore (input_number c.legs k) (outcome_from 1 held (cascades file ssrc c))
  none_before k leg at w splits =
      let o = outcome_is held file ssrc c octets there whole lie in
      subst (λ x. RefusesNoneBefore (input_number c.legs k) x) (sym o.1)
      (none_lower held o.0 (input_limit c) 2 c.legs texts (makes c (table_of c texts)) k leg at (omega arith) (λ i low within. w i low) (λ j l a on. inl (splits j l a on))
      (none_makes held (input_number c.legs k) o.0 c (table_of c texts)))

-- no input before the recording is refused
none_others : (held : Contents) (split : ℕ → List ℕ) (n : ℕ) (legs : List LegLine) (next : List (List ℕ) → Steps) → ((m : ℕ) (inputs : List (List ℕ)) → RefusesNoneBefore 1 (outcome_from m held (next inputs)))
    → RefusesNoneBefore 1 (outcome_from n held (reads_others split legs next))
none_others held split n [] next none = none n []
none_others held split n (l ∷ legs) next none =
    by_trunk (λ b. RefusesNoneBefore 1 (outcome_from n held (cond b (reads_others split legs (λ more. next (split l.ssrc ∷ more))) (Reads l.input (λ octets. reads_others split legs (λ more. next (octets ∷ more))))))) (is_on_trunk l)
    (λ t. none_others held split n legs (λ more. next (split l.ssrc ∷ more)) (λ m inputs. none m (split l.ssrc ∷ inputs)))
    (λ f. read (held l.input) (λ octets. none_others held split (n + 1) legs (λ more. next (octets ∷ more)) (λ m inputs. none m (octets ∷ inputs))))
  where
    read : (o : Option (List ℕ)) → ((octets : List ℕ) → RefusesNoneBefore 1 (outcome_from (n + 1) held (reads_others split legs (λ more. next (octets ∷ more)))))
        → RefusesNoneBefore 1 (elim o [ None ↦ Missing n | Some octets ↦ outcome_from (n + 1) held (reads_others split legs (λ more. next (octets ∷ more))) ])
    read None each = tt
    read (Some octets) each = each octets

pub none_first : (held : Contents) (file : List ℕ) (ssrc : ℕ) (c : Conference) → RefusesNoneBefore 1 (outcome_from 1 held (cascades file ssrc c))
none_first held file ssrc c = go (held file)
  where
    each : (octets : List ℕ) → RefusesNoneBefore 1 (outcome_from 2 held (mixes_splits c ssrc octets))
    each octets =
        let split = split_of (trunk_of c ssrc) octets in
        faulty_before held 1 2 1 (dump (trunk_limit c) octets).fault (reads_others split c.legs (mixes_over c)) (inr (omega arith))
        (none_others held split 2 c.legs (mixes_over c) (λ m inputs.
        none_later held 1 m (input_limit c) 2 c.legs inputs (makes c (table_of c inputs)) (omega arith) (λ k leg at on. inr (omega arith)) (none_makes held 1 m c (table_of c inputs))))

    go : (o : Option (List ℕ)) → RefusesNoneBefore 1 (elim o [ None ↦ Missing 1 | Some octets ↦ outcome_from (1 + 1) held (mixes_splits c ssrc octets) ])
    go None = tt
    go (Some octets) = each octets

-- the recording is refused
pub recording_refused : (held : Contents) (file : List ℕ) (ssrc : ℕ) (c : Conference) (octets : List ℕ) (fault : dumps.Fault) → held file ≡ Some octets → (dump (trunk_limit c) octets).fault ≡ Some fault
    → outcome_from 1 held (cascades file ssrc c) ≡ Refused 1 (AtByte fault.byte fault.kind)
recording_refused held file ssrc c octets fault there is =
    let P : Option (List ℕ) → Outcome = λ o. elim o [ None ↦ Missing 1 | Some octets ↦ outcome_from (1 + 1) held (mixes_splits c ssrc octets) ] in
    ap P there ∙ ap (λ o. outcome_from 2 held (unless_faulty 1 o (reads_others (split_of (trunk_of c ssrc) octets) c.legs (mixes_over c)))) is

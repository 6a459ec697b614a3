-- A conference whose inputs are read one after another.
use Rattle.std.proofs.Common.{◌≡◌, ℕ, zero, suc, ◌+◌, ◌-◌, ◌<◌, ◌≤◌, Bool, true, false, Option, Some, None, List, [], ◌∷◌, length, get_or, refl, ap, sym, subst, ◌∙◌, arith}
use Rattle.std.specs.Prelude.{if◌then◌else◌}
use Rattle.file_spec.specs.declared.conference_lines.LegLine.{LegLine}
use Rattle.file_spec.specs.Conference.{Conference}
use Rattle.mixer_spec.specs.Setups.{leg_at, setup}
use Rattle.mixer_spec.specs.Plain.{plain}
use Rattle.mixer_spec.specs.Bridged.{input_limit, leg_chunks}
use Rattle.command_spec.specs.declared.faults.Refusal.{Refusal}
use Rattle.command_spec.specs.Work.{Contents, Made, Steps, Reads, Refuses, Makes, Serves, IsInput, and_prints}
use Rattle.command_spec.specs.Outcomes.{Done, outcome, outcome_from}
use Rattle.command_spec.specs.Outcomes as outcomes
use Rattle.rtt_words.specs.Words.{Command}
use Rattle.rtt_words.specs.Tasks.{work}
use Rattle.command_spec.specs.Mixing.{makes, reads_inputs}
use Rattle.command_spec.specs.Mixing as mixed
use Rattle.command_spec.specs.Inputs.{octets_under, inputs_under, LieBelow, AllLie}
use Rattle.rtt_mix.specs.Mixes.{WholeBelow, steps_of}
use Rattle.rtt_top.specs.Faults.{NoneBefore}
use Rattle.rtt_top.specs.Conferences.{ComesToMixing, input_name, input_of, steps_counted}
use Rattle.rtt_top.proofs.Before.{none_broken, none_makes}
use Rattle.mixer_spec.proofs.Conferences.{no_leg as leg_behind}
use Rattle.command_spec.proofs.Outputs.{is_under as some_under}
use Rattle.rtt_mix.proofs.Opening.{leg_read_at as leg_read}

-- ---- the inputs
pub leg_input : (WorldTells : Type 0) (held : Contents) (legs : List LegLine) (next : List (List ℕ) → Steps) (k : ℕ) (leg : LegLine) → leg_at legs k ≡ Some leg
    → (WorldTells → LieBelow k held legs) → IsInput WorldTells held (reads_inputs legs next) k leg.input
leg_input WorldTells held [] next k leg at lie = absurd (cc at)
leg_input WorldTells held (l ∷ legs) next zero leg at lie = let same : leg ≡ l = cc at in ap (λ (x : LegLine). x.input) same
leg_input WorldTells held (l ∷ legs) next (suc k) leg at lie = (
  octets_under held l.input,
  (λ told. some_under (held l.input) (lie told 0 l (omega arith) refl)),
  leg_input WorldTells held legs (λ more. next (octets_under held l.input ∷ more)) k leg at (λ told i x less is. lie told (suc i) x (omega arith) is),
)

-- ---- the outcome
pub chain : (held : Contents) (n : ℕ) (legs : List LegLine) (next : List (List ℕ) → Steps) → AllLie held legs
    → outcome_from n held (reads_inputs legs next) ≡ outcome_from (length legs + n) held (next (inputs_under held legs))
chain held n [] next lie = let none : n ≡ length {A = LegLine} [] + n = omega arith in ap (λ k. outcome_from k held (next [])) none
chain held n (l ∷ legs) next lie =
    let P : Option (List ℕ) → outcomes.Outcome = λ o. elim o [ None ↦ outcomes.Missing n | Some octets ↦ outcome_from (n + 1) held (reads_inputs legs (λ more. next (octets ∷ more))) ] in
    let rest : AllLie held legs = λ i x less is. lie (suc i) x (omega arith) is in
    let count : length legs + (n + 1) ≡ length (l ∷ legs) + n = omega arith in
    ap P (some_under (held l.input) (lie 0 l (omega arith) refl))
    ∙ (chain held (n + 1) legs (λ more. next (octets_under held l.input ∷ more)) rest
    ∙ ap (λ k. outcome_from k held (next (inputs_under held (l ∷ legs)))) count)

pub outcome_done : (WorldTells : Type 0) (held : Contents) (command : Command) (c : Conference) (printed : List ℕ) (files : List Made) → ComesToMixing WorldTells held command c → WorldTells
    → AllLie held c.legs → steps_counted held c ≡ Makes printed files → outcome held (work command).steps ≡ Done printed files
outcome_done WorldTells held command c printed files m told lie is = m.comes told lie ∙ ap (outcome_from (length c.legs + 1) held) is

-- what is refused, whatever is counted
counted_refuses : (c : Conference) (inputs : List (List ℕ)) (input : ℕ) (refusal : Refusal) → mixed.mixes c inputs ≡ Refuses input refusal → mixed.mixes_counted c inputs ≡ Refuses input refusal
counted_refuses c inputs input refusal e = go c.service.counts
  where
    go : (b : Bool) → (if b then and_prints (mixed.counts_lines c inputs) (mixed.mixes c inputs) else mixed.mixes c inputs) ≡ Refuses input refusal
    go true = ap (and_prints (mixed.counts_lines c inputs)) e
    go false = e

none_printed : (j : ℕ) (more : List ℕ) (held : Contents) (m : ℕ) (steps : Steps) → NoneBefore j (outcome_from m held steps) → NoneBefore j (outcome_from m held (and_prints more steps))
none_printed j more held m (Reads name next) none = go (held name) (λ octets. none_printed j more held (m + 1) (next octets)) none
  where
    go : (o : Option (List ℕ)) → ((octets : List ℕ) → NoneBefore j (outcome_from (m + 1) held (next octets)) → NoneBefore j (outcome_from (m + 1) held (and_prints more (next octets))))
        → (let P : Option (List ℕ) → outcomes.Outcome = λ o. elim o [ None ↦ outcomes.Missing m | Some octets ↦ outcome_from (m + 1) held (next octets) ] in
        let Q : Option (List ℕ) → outcomes.Outcome = λ o. elim o [ None ↦ outcomes.Missing m | Some octets ↦ outcome_from (m + 1) held (and_prints more (next octets)) ] in NoneBefore j (P o) → NoneBefore j (Q o))
    go None rest none = none
    go (Some octets) rest none = rest octets none
none_printed j more held m (Refuses input refusal) none = none
none_printed j more held m (Makes printed files) none = none
none_printed j more held m (Serves c) none = none

none_counted : (j : ℕ) (held : Contents) (m : ℕ) (c : Conference) (inputs : List (List ℕ)) → NoneBefore j (outcome_from m held (mixed.mixes c inputs)) → NoneBefore j (outcome_from m held (mixed.mixes_counted c inputs))
none_counted j held m c inputs none = go c.service.counts
  where
    go : (b : Bool) → NoneBefore j (outcome_from m held (if b then and_prints (mixed.counts_lines c inputs) (mixed.mixes c inputs) else mixed.mixes c inputs))
    go true = none_printed j (mixed.counts_lines c inputs) held m (mixed.mixes c inputs) none
    go false = none

pub outcome_refused : (WorldTells : Type 0) (held : Contents) (command : Command) (c : Conference) (input : ℕ) (refusal : Refusal) → ComesToMixing WorldTells held command c → WorldTells
    → AllLie held c.legs → steps_of held c ≡ Refuses input refusal → outcome held (work command).steps ≡ outcomes.Refused input refusal
outcome_refused WorldTells held command c input refusal m told lie is =
    m.comes told lie ∙ ap (outcome_from (length c.legs + 1) held) (counted_refuses c (inputs_under held c.legs) input refusal is)

-- where the inputs of the first k legs have no fault, none of these is refused
pub none_before : (WorldTells : Type 0) (held : Contents) (command : Command) (c : Conference) (k : ℕ) → ComesToMixing WorldTells held command c → WorldTells
    → AllLie held c.legs → WholeBelow k c (inputs_under held c.legs) → NoneBefore (suc k) (outcome held (work command).steps)
none_before WorldTells held command c k m told lie whole =
    let inputs = inputs_under held c.legs in
    let table = plain (setup c) c.tick c.turns (leg_chunks c (mixed.input_at inputs)) in
    let one : k + 1 ≡ suc k = omega arith in
    subst (λ o. NoneBefore (suc k) o) (sym (m.comes told lie))
    (subst (λ n. NoneBefore n (outcome_from (length c.legs + 1) held (steps_counted held c))) one
    (none_counted (k + 1) held (length c.legs + 1) c inputs (none_broken held (length c.legs + 1) (input_limit c) 1 inputs (makes c table) k whole (none_makes held (length c.legs + 1) c table))))

-- ---- a leg by its number
pub input_at : (file : List ℕ) (legs : List LegLine) (n : ℕ) (leg : LegLine) → 0 < n → n ≤ length legs → leg ≡ get_or legs (n - 1) leg → leg.input ≡ input_name file legs n
input_at file legs zero leg some within is = absurd (omega arith)
input_at file legs (suc k) leg some within is =
    let j : suc k - 1 ≡ k = omega arith in
    sym (ap (input_of file) (leg_read legs k leg (omega arith) (is ∙ ap (λ i. get_or legs i leg) j)))

pub input_behind : (file : List ℕ) (legs : List LegLine) (n : ℕ) → length legs < n → file ≡ input_name file legs n
input_behind file legs zero more = absurd (omega arith)
input_behind file legs (suc k) more = sym (ap (input_of file) (leg_behind legs k (omega arith)))

pub input_first : (file : List ℕ) (legs : List LegLine) (n : ℕ) → n ≡ 0 → file ≡ input_name file legs n
input_first file legs zero none = refl
input_first file legs (suc k) none = absurd (omega arith)

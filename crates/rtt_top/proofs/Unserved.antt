-- What is mixed is served over no link.
use Rattle.std.proofs.Common.{◌≡◌, ℕ, suc, ◌+◌, Bool, true, false, Option, Some, None, List, [], ◌∷◌, Result, Ok, Err}
use Rattle.std.specs.Prelude.{if◌then◌else◌}
use Rattle.wire_spec.specs.Dump.{dump}
use Rattle.wire_spec.specs.Dump as dumps
use Rattle.file_spec.specs.declared.conference_lines.Form.TheVariants.{Files}
use Rattle.file_spec.specs.declared.conference_lines.LegLine.{LegLine}
use Rattle.file_spec.specs.Conference.{Conference, conference_from}
use Rattle.file_spec.specs.Lines as lines
use Rattle.mixer_spec.specs.Setups.{setup}
use Rattle.mixer_spec.specs.Table.{Table}
use Rattle.mixer_spec.specs.Plain.{plain}
use Rattle.mixer_spec.specs.Bridged.{input_limit, leg_chunks}
use Rattle.command_spec.specs.declared.faults.Refusal.TheVariants.{AtByte}
use Rattle.command_spec.specs.Work.{Contents, Steps, Reads, Refuses, Makes, Serves, and_prints}
use Rattle.command_spec.specs.Outcomes.{Outcome, Missing, Served, outcome, outcome_from}
use Rattle.command_spec.specs.Attending.{attending, attends, attends_read, named}
use Rattle.command_spec.specs.Cascading.{cascades, cascades_read, cascading, odd_line, unless_odd}
use Rattle.command_spec.proofs.CascadeOutputs.{AllOuts, cascade_outs}
use Rattle.command_spec.specs.Mixing.{counts_lines, input_at, makes, mixes, mixes_counted, mixes_read, mixing, reads_inputs, unless_one_broken}

-- whatever is read, no live call is served
abbrev ServesNone : Steps → Type 0
ServesNone (Reads name next) = (octets : List ℕ) → ServesNone (next octets)
ServesNone (Refuses input refusal) = Unit {0}
ServesNone (Makes printed files) = Unit {0}
ServesNone (Serves c) = ⊥

not_served : (n : ℕ) (held : Contents) (steps : Steps) (c : Conference) → ServesNone steps → outcome_from n held steps ≡ Served c → ⊥
not_served n held (Reads name next) c none e = go (held name) (λ octets. not_served (n + 1) held (next octets) c (none octets)) e
  where
    go : (o : Option (List ℕ)) → ((octets : List ℕ) → outcome_from (n + 1) held (next octets) ≡ Served c → ⊥)
        → (elim o as (λ x. Outcome) [ None ↦ Missing n | Some octets ↦ outcome_from (n + 1) held (next octets) ]) ≡ Served c → ⊥
    go None more e = absurd (cc e)
    go (Some octets) more e = more octets e
not_served n held (Refuses input refusal) c none e = absurd (cc e)
not_served n held (Makes printed files) c none e = absurd (cc e)
not_served n held (Serves other) c none e = none

makes_none : (c : Conference) (o : Option Table) → ServesNone (makes c o)
makes_none c None = tt
makes_none c (Some table) = tt

none_unless : (limit n : ℕ) (inputs : List (List ℕ)) (steps : Steps) → ServesNone steps → ServesNone (unless_one_broken limit n inputs steps)
none_unless limit n [] steps none = none
none_unless limit n (octets ∷ more) steps none = go (dump limit octets).fault (none_unless limit (suc n) more steps none)
  where
    go : (o : Option dumps.Fault) → ServesNone (unless_one_broken limit (suc n) more steps)
        → ServesNone (elim o as (λ x. Steps) [ None ↦ unless_one_broken limit (suc n) more steps | Some fault ↦ Refuses n (AtByte fault.byte fault.kind) ])
    go None r = r
    go (Some fault) r = tt

none_read : (legs : List LegLine) (next : List (List ℕ) → Steps) → ((inputs : List (List ℕ)) → ServesNone (next inputs)) → ServesNone (reads_inputs legs next)
none_read [] next none = none []
none_read (leg ∷ legs) next none = λ octets. none_read legs (λ more. next (octets ∷ more)) (λ more. none (octets ∷ more))

mixes_none : (c : Conference) (inputs : List (List ℕ)) → ServesNone (mixes c inputs)
mixes_none c inputs =
    let table = plain (setup c) c.tick c.turns (leg_chunks c (input_at inputs)) in
    none_unless (input_limit c) 1 inputs (makes c table) (makes_none c table)

printed_none : (more : List ℕ) (steps : Steps) → ServesNone steps → ServesNone (and_prints more steps)
printed_none more (Reads name next) none = λ octets. printed_none more (next octets) (none octets)
printed_none more (Refuses input refusal) none = tt
printed_none more (Makes printed files) none = tt
printed_none more (Serves c) none = absurd none

counted_none : (c : Conference) (inputs : List (List ℕ)) → ServesNone (mixes_counted c inputs)
counted_none c inputs = go c.service.counts
  where
    go : (b : Bool) → ServesNone (if b then and_prints (counts_lines c inputs) (mixes c inputs) else mixes c inputs)
    go true = printed_none (counts_lines c inputs) (mixes c inputs) (mixes_none c inputs)
    go false = mixes_none c inputs

of_result : (r : Result Conference lines.Refusal) → ServesNone (mixes_read r)
of_result (Err refusal) = tt
of_result (Ok c) = none_read c.legs (mixes_counted c) (counted_none c)

pub mixing_serves_none : (held : Contents) (file : List ℕ) (c : Conference) → outcome held (mixing file) ≡ Served c → ⊥
mixing_serves_none held file c e = not_served 0 held (mixing file) c (λ octets. of_result (conference_from Files octets)) e

of_attended : (r : Result Conference lines.Refusal) → ServesNone (attends_read r)
of_attended (Err refusal) = tt
of_attended (Ok c) = none_read c.legs (attends c) (λ inputs. counted_none (named c inputs) inputs)

pub attending_serves_none : (held : Contents) (file : List ℕ) (c : Conference) → outcome held (attending file) ≡ Served c → ⊥
attending_serves_none held file c e = not_served 0 held (attending file) c (λ octets. of_attended (conference_from Files octets)) e

-- what makes outputs of a mixing serves none
outs_serve_none : (c : Conference) (steps : Steps) → AllOuts c steps → ServesNone steps
outs_serve_none c (Reads name next) a = λ octets. outs_serve_none c (next octets) (a octets)
outs_serve_none c (Refuses input refusal) a = tt
outs_serve_none c (Makes printed files) a = tt
outs_serve_none c (Serves other) a = absurd a

of_even : (file : List ℕ) (ssrc : ℕ) (c : Conference) (o : Option ℕ) → ServesNone (unless_odd o (cascades file ssrc c))
of_even file ssrc c None = outs_serve_none c (cascades file ssrc c) (cascade_outs file ssrc c)
of_even file ssrc c (Some line) = tt

of_cascaded : (file : List ℕ) (ssrc : ℕ) (r : Result Conference lines.Refusal) → ServesNone (cascades_read file ssrc r)
of_cascaded file ssrc (Err refusal) = tt
of_cascaded file ssrc (Ok c) = of_even file ssrc c (odd_line c.legs)

pub cascading_serves_none : (held : Contents) (conference file : List ℕ) (ssrc : ℕ) (c : Conference) → outcome held (cascading conference file ssrc) ≡ Served c → ⊥
cascading_serves_none held conference file ssrc c e = not_served 0 held (cascading conference file ssrc) c (λ octets. of_cascaded file ssrc (conference_from Files octets)) e

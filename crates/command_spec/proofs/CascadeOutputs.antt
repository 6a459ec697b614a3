-- Which outputs `cascade` has, also where nothing is known of what lies in its inputs.
use Rattle.std.proofs.Common.{◌≡◌, ℕ, suc, ◌+◌, ◌≤◌, Bool, true, false, cond, Option, Some, None, Ok, List, [], ◌∷◌, length, refl, ap, subst, sym, ◌∙◌, arith}
use Rattle.std.specs.Prelude.{nat_lt}
use Rattle.wire_spec.specs.Dump.{arrivals_after, dump, dump_written}
use Rattle.wire_spec.specs.Dump as dumps
use Rattle.wire_spec.proofs.Recordings.{read_back}
use Rattle.file_spec.specs.declared.conference_lines.Form.TheVariants.{Files}
use Rattle.file_spec.specs.declared.conference_lines.LegLine.{LegLine}
use Rattle.file_spec.specs.Conference.{Conference, conference_from}
use Rattle.mixer_spec.specs.Setups.{leg_at, setup}
use Rattle.mixer_spec.specs.Table.{Table}
use Rattle.mixer_spec.specs.Plain.{plain}
use Rattle.mixer_spec.specs.Bridged.{input_limit, leg_chunks}
use Rattle.command_spec.specs.Splitting.{split}
use Rattle.command_spec.specs.Laws.{split_of}
use Rattle.command_spec.specs.Work.{Contents, Made, Steps, Reads, Refuses, Makes, Serves, IsOutput, IsNth}
use Rattle.command_spec.specs.Outcomes.{Outcome, Missing, Refused, Done, Served, outcome_from}
use Rattle.command_spec.specs.Mixing.{input_at, makes, outs}
use Rattle.command_spec.specs.Cascading.{cascades, cascades_read, cascading, is_on_trunk, mixes_over, odd_line, reads_others, trunk_limit, trunk_of, unless_faulty, unless_leg_faulty, unless_odd}
use Rattle.command_spec.proofs.Outputs.{each, empty_read, nth_out, silent, silent_table}
use Rattle.command_spec.proofs.Reached.{done_parts, found}

pub by_bool : (P : Bool → Type 0) (b : Bool) → (b ≡ true → P true) → (b ≡ false → P false) → P b
by_bool P true t f = t refl
by_bool P false t f = f refl

-- ---- what is made of what lies there
done_output : (Told : Type 0) (held : Contents) (m : ℕ) (steps : Steps) (printed : List ℕ) (files : List Made) (n : ℕ) (name : List ℕ) → outcome_from m held steps ≡ Done printed files → IsNth files n name
    → IsOutput Told held steps n name
done_output Told held m (Reads file next) printed files n name e nth =
    let f = found m held file next printed files e in (f.0, (λ told. f.1), done_output Told held (m + 1) (next f.0) printed files n name f.2 nth)
done_output Told held m (Refuses input refusal) printed files n name e nth = absurd (cc e)
done_output Told held m (Makes shown made) printed files n name e nth = subst (λ fs. IsNth fs n name) (sym (done_parts shown printed made files e).1) nth
done_output Told held m (Serves c) printed files n name e nth = absurd (cc e)

-- ---- what is made are the outputs of a mixing, whatever is read
abbrev pub AllOuts : Conference → Steps → Type 0
AllOuts c (Reads name next) = (octets : List ℕ) → AllOuts c (next octets)
AllOuts c (Refuses input refusal) = Unit {0}
AllOuts c (Makes printed files) = (t : Table) × (files ≡ outs c t)
AllOuts c (Serves other) = ⊥

outs_done : (held : Contents) (m : ℕ) (c : Conference) (steps : Steps) (printed : List ℕ) (files : List Made) → AllOuts c steps → outcome_from m held steps ≡ Done printed files → (t : Table) × (files ≡ outs c t)
outs_done held m c (Reads file next) printed files a e = let f = found m held file next printed files e in outs_done held (m + 1) c (next f.0) printed files (a f.0) f.2
outs_done held m c (Refuses input refusal) printed files a e = absurd (cc e)
outs_done held m c (Makes shown made) printed files a e = (a.0, sym (done_parts shown printed made files e).1 ∙ a.1)
outs_done held m c (Serves other) printed files a e = absurd a

outs_made : (c : Conference) (o : Option Table) → AllOuts c (makes c o)
outs_made c None = tt
outs_made c (Some t) = (t, refl)

outs_unless : (c : Conference) (n : ℕ) (o : Option dumps.Fault) (steps : Steps) → AllOuts c steps → AllOuts c (unless_faulty n o steps)
outs_unless c n None steps a = a
outs_unless c n (Some fault) steps a = tt

outs_legs : (c : Conference) (limit n : ℕ) (legs : List LegLine) (inputs : List (List ℕ)) (steps : Steps) → AllOuts c steps → AllOuts c (unless_leg_faulty limit n legs inputs steps)
outs_legs c limit n [] inputs steps a = a
outs_legs c limit n (leg ∷ legs) [] steps a = a
outs_legs c limit n (leg ∷ legs) (octets ∷ more) steps a =
    by_bool (λ b. AllOuts c (cond b (unless_faulty 1 (dump limit octets).fault (unless_leg_faulty limit n legs more steps)) (unless_faulty n (dump limit octets).fault (unless_leg_faulty limit (suc n) legs more steps)))) (is_on_trunk leg)
    (λ t. outs_unless c 1 (dump limit octets).fault (unless_leg_faulty limit n legs more steps) (outs_legs c limit n legs more steps a))
    (λ f. outs_unless c n (dump limit octets).fault (unless_leg_faulty limit (suc n) legs more steps) (outs_legs c limit (suc n) legs more steps a))

outs_read : (c : Conference) (split : ℕ → List ℕ) (legs : List LegLine) (next : List (List ℕ) → Steps) → ((inputs : List (List ℕ)) → AllOuts c (next inputs)) → AllOuts c (reads_others split legs next)
outs_read c split [] next a = a []
outs_read c split (leg ∷ legs) next a =
    by_bool (λ b. AllOuts c (cond b (reads_others split legs (λ more. next (split leg.ssrc ∷ more))) (Reads leg.input (λ octets. reads_others split legs (λ more. next (octets ∷ more)))))) (is_on_trunk leg)
    (λ t. outs_read c split legs (λ more. next (split leg.ssrc ∷ more)) (λ more. a (split leg.ssrc ∷ more)))
    (λ f octets. outs_read c split legs (λ more. next (octets ∷ more)) (λ more. a (octets ∷ more)))

abbrev table_of : Conference → List (List ℕ) → Option Table
table_of c inputs = plain (setup c) c.tick c.turns (leg_chunks c (input_at inputs))

pub cascade_outs : (file : List ℕ) (ssrc : ℕ) (c : Conference) → AllOuts c (cascades file ssrc c)
cascade_outs file ssrc c = λ octets.
    let split = split_of (trunk_of c ssrc) octets in
    outs_unless c 1 (dump (trunk_limit c) octets).fault (reads_others split c.legs (mixes_over c))
    (outs_read c split c.legs (mixes_over c) (λ inputs. outs_legs c (input_limit c) 2 c.legs inputs (makes c (table_of c inputs)) (outs_made c (table_of c inputs))))

-- ---- a recording without a packet
some_limit : (c : Conference) → 44 ≤ trunk_limit c
some_limit c = by_bool (λ b. 44 ≤ cond b 524288 2097152) (nat_lt 16 (length c.legs)) (λ t. omega arith) (λ f. omega arith)

-- it is split into such recordings
silent_split : (c : Conference) (ssrc : ℕ) (leg : LegLine) → split_of (trunk_of c ssrc) (dump_written []) leg.ssrc ≡ silent leg
unfolding silent split
silent_split c ssrc leg =
    let t = trunk_of c ssrc in
    let l = some_limit c in
    ap (λ (r : dumps.Recording). split t.payload_types t.wait (arrivals_after t.ssrc t.payload_types [] r.items) leg.ssrc) (read_back (trunk_limit c) [] tt (omega (arith, l)))

silent_fault : (c : Conference) → (dump (trunk_limit c) (dump_written [])).fault ≡ None
silent_fault c = let l = some_limit c in ap (λ (r : dumps.Recording). r.fault) (read_back (trunk_limit c) [] tt (omega (arith, l)))

silent_whole : (c : Conference) (n : ℕ) (legs : List LegLine) (steps : Steps) → unless_leg_faulty (input_limit c) n legs (each silent legs) steps ≡ steps
unfolding silent
silent_whole c n [] steps = refl
silent_whole c n (leg ∷ legs) steps =
    let none = ap (λ (r : dumps.Recording). r.fault) (empty_read c) in
    by_bool (λ b. cond b (unless_faulty 1 (dump (input_limit c) (dump_written [])).fault (unless_leg_faulty (input_limit c) n legs (each silent legs) steps)) (unless_faulty n (dump (input_limit c) (dump_written [])).fault (unless_leg_faulty (input_limit c) (suc n) legs (each silent legs) steps)) ≡ steps) (is_on_trunk leg)
    (λ t. ap (λ o. unless_faulty 1 o (unless_leg_faulty (input_limit c) n legs (each silent legs) steps)) none ∙ silent_whole c n legs steps)
    (λ f. ap (λ o. unless_faulty n o (unless_leg_faulty (input_limit c) (suc n) legs (each silent legs) steps)) none ∙ silent_whole c (suc n) legs steps)

-- along the inputs, where nothing is told of any
along_silent : (Told : Type 0) (held : Contents) (split : ℕ → List ℕ) (legs : List LegLine) (next : List (List ℕ) → Steps) (n : ℕ) (file : List ℕ) → (Told → ⊥) → ((leg : LegLine) → split leg.ssrc ≡ silent leg)
    → IsOutput Told held (next (each silent legs)) n file → IsOutput Told held (reads_others split legs next) n file
along_silent Told held split [] next n file none all o = o
along_silent Told held split (leg ∷ legs) next n file none all o =
    by_bool (λ b. IsOutput Told held (cond b (reads_others split legs (λ more. next (split leg.ssrc ∷ more))) (Reads leg.input (λ octets. reads_others split legs (λ more. next (octets ∷ more))))) n file) (is_on_trunk leg)
    (λ t. along_silent Told held split legs (λ more. next (split leg.ssrc ∷ more)) n file none all (subst (λ (octets : List ℕ). IsOutput Told held (next (octets ∷ each silent legs)) n file) (sym (all leg)) o))
    (λ f. (silent leg, (λ told. absurd (none told)), along_silent Told held split legs (λ more. next (silent leg ∷ more)) n file none all o))

silent_output : (Told : Type 0) (held : Contents) (file : List ℕ) (ssrc : ℕ) (c : Conference) → (Told → ⊥) → (n : ℕ) (leg : LegLine) → leg_at c.legs n ≡ Some leg → IsOutput Told held (cascades file ssrc c) n leg.output
silent_output Told held file ssrc c none n leg at =
    let split = split_of (trunk_of c ssrc) (dump_written []) in
    let table = silent_table c c.legs in
    let makes_it = silent_whole c 2 c.legs (makes c (table_of c (each silent c.legs))) ∙ ap (makes c) table.1 in (
      dump_written [],
      (λ told. absurd (none told)),
      subst (λ (o : Option dumps.Fault). IsOutput Told held (unless_faulty 1 o (reads_others split c.legs (mixes_over c))) n leg.output) (sym (silent_fault c))
          (along_silent Told held split c.legs (mixes_over c) n leg.output none (silent_split c ssrc)
          (subst (λ steps. IsOutput Told held steps n leg.output) (sym makes_it) (nth_out c table.0 0 c.legs n leg at))),
    )

-- ---- the whole
behind_output : (Told : Type 0) (held : Contents) (file : List ℕ) (ssrc : ℕ) (c : Conference) → (Told → (printed : List ℕ) × (files : List Made) × (outcome_from 1 held (cascades file ssrc c) ≡ Done printed files))
    → (n : ℕ) (leg : LegLine) → leg_at c.legs n ≡ Some leg → IsOutput Told held (cascades file ssrc c) n leg.output
behind_output Told held file ssrc c makes_it n leg at = go (outcome_from 1 held (cascades file ssrc c)) refl
  where
    go : (o : Outcome) → outcome_from 1 held (cascades file ssrc c) ≡ o → IsOutput Told held (cascades file ssrc c) n leg.output
    go (Done printed files) e =
        let o = outs_done held 1 c (cascades file ssrc c) printed files (cascade_outs file ssrc c) e in
        done_output Told held 1 (cascades file ssrc c) printed files n leg.output e (subst (λ fs. IsNth fs n leg.output) (sym o.1) (nth_out c o.0 0 c.legs n leg at))
    go (Missing input) e = silent_output Told held file ssrc c (λ told. let r = makes_it told in cc (sym e ∙ r.2)) n leg at
    go (Refused input refusal) e = silent_output Told held file ssrc c (λ told. let r = makes_it told in cc (sym e ∙ r.2)) n leg at
    go (Served other) e = silent_output Told held file ssrc c (λ told. let r = makes_it told in cc (sym e ∙ r.2)) n leg at

-- The output of each leg is one of `cascade`.
pub cascaded_output : (Told : Type 0) (held : Contents) (conference octets file : List ℕ) (ssrc : ℕ) (c : Conference) → (Told → held conference ≡ Some octets) → conference_from Files octets ≡ Ok c → odd_line c.legs ≡ None
    → (Told → (printed : List ℕ) × (files : List Made) × (outcome_from 1 held (cascades file ssrc c) ≡ Done printed files))
    → (n : ℕ) (leg : LegLine) → leg_at c.legs n ≡ Some leg → IsOutput Told held (cascading conference file ssrc) n leg.output
cascaded_output Told held conference octets file ssrc c lies read even makes_it n leg at = (
  octets,
  lies,
  subst (λ r. IsOutput Told held (cascades_read file ssrc r) n leg.output) (sym read)
      (subst (λ o. IsOutput Told held (unless_odd o (cascades file ssrc c)) n leg.output) (sym even) (behind_output Told held file ssrc c makes_it n leg at)),
)

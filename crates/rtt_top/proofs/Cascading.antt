-- How `cascade` ends.
use Rattle.std.proofs.Common.{◌≡◌, ℕ, zero, suc, Bool, true, false, Option, Some, None, List, Ok, Err, refl, ap, sym, subst, ◌∙◌}
use Rattle.std.specs.Prelude.{if◌then◌else◌}
use Rattle.rtpdump_io.specs.declared.items.DumpFault.{DumpFault}
use Rattle.rtpdump_io.specs.Reading.{is_of_source}
use Rattle.file_spec.specs.declared.conference_lines.Form.TheVariants.{Files}
use Rattle.file_spec.specs.declared.conference_lines.LegLine.{LegLine}
use Rattle.file_spec.specs.Conference.{Conference, conference_from}
use Rattle.command_spec.specs.declared.faults.Refusal.TheVariants.{AtByte, AtFrame, AtLine, AtTrunk, AfterTurns}
use Rattle.command_spec.specs.declared.faults.Fault.TheVariants.{CannotRead, Refused}
use Rattle.rtt_words.specs.Words.{Cascade, Command}
use Rattle.command_spec.specs.Work.{Contents, Made, IsInput}
use Rattle.command_spec.specs.Outcomes.{Outcome, Missing, Done, Served, outcome, outcome_from}
use Rattle.command_spec.specs.Outcomes as outcomes
use Rattle.command_spec.specs.Cascading.{cascades, cascades_read, cascading, odd_line, unless_odd}
use Rattle.command_spec.specs.Messages.{Ending}
use Rattle.command_spec.proofs.CascadeOutputs.{cascaded_output}
use Rattle.cascade.specs.declared.faults.CascadeFault.{CascadeFault}
use Rattle.cascade.specs.declared.faults.CascadeFault.TheVariants as behind
use Rattle.cascade.specs.Cascades.{IsBroken, IsFirst, NoneFailed, Stops, outcome_behind}
use Rattle.cascade.specs.Inputs.{IsInputBehind, NoneHasName, RefusesNoneBefore, input_name}
use Rattle.cascade.proofs.WholeSplits.{splits_whole}
use Rattle.rtt_top.specs.Conferences.{MakesOutputs, NamesOutputs, AsksConference, ending_behind, fault_of_cascade, input_behind, output_of}
use Rattle.rtt_top.specs.Faults.{NoneBefore, RefusesSo, is_recording}
use Rattle.rtt_top.specs.Outside.{Outside, CallFailed, ObjectFailed, OpenFailed}
use Rattle.rtt_top.specs.Runs.{Ends, NoneFailedBefore, Unchanged}
use Rattle.rtt_top.proofs.Working.{lies}

-- the command
abbrev pub command_of : List ℕ → List ℕ → ℕ → Command
command_of conference file ssrc = Cascade (record { file = file; ssrc = ssrc; conference = conference })

pub cascade_reads : (conference file : List ℕ) (ssrc : ℕ) → AsksConference Files conference (command_of conference file ssrc)
cascade_reads conference file ssrc =
    record { next = λ octets. cascades_read file ssrc (conference_from Files octets); steps = refl; refuses = λ octets refusal e. ap (cascades_read file ssrc) e }

-- no input before this number is refused
none_of : (n : ℕ) (o : Outcome) → RefusesNoneBefore n o → NoneBefore n o
none_of n (Missing input) r = tt
none_of n (outcomes.Refused input (AtByte byte kind)) r = r
none_of n (outcomes.Refused input (AtFrame byte kind)) r = absurd r
none_of n (outcomes.Refused input (AtLine line kind)) r = absurd r
none_of n (outcomes.Refused input (AtTrunk line)) r = absurd r
none_of n (outcomes.Refused input (AfterTurns turns)) r = tt
none_of n (Done printed files) r = tt
none_of n (Served c) r = tt

-- A conference that was read, in which no leg behind the other mixer has other payload types.
module _ (WorldTells : Type 0) (held : Contents) (conference octets file : List ℕ) (ssrc : ℕ) (c : Conference) (there : WorldTells → held conference ≡ Some octets) (read : conference_from Files octets ≡ Ok c)
    (even : odd_line c.legs ≡ None) where
  -- its inputs are those of the command
  input_is : (n : ℕ) (name : List ℕ) → IsInputBehind WorldTells held (cascades file ssrc c) n name → IsInput WorldTells held (cascading conference file ssrc) n name
  input_is zero name i = absurd i
  input_is (suc n) name i = (
    octets,
    there,
    subst (λ r. IsInput WorldTells held (cascades_read file ssrc r) n name) (sym read)
        (subst (λ o. IsInput WorldTells held (unless_odd o (cascades file ssrc c)) n name) (sym even) i),
  )

  -- the same by the name that is told
  named_so : (P : List ℕ → Type 0) (n : ℕ) (name : List ℕ) → IsInputBehind WorldTells held (cascades file ssrc c) n name → P (input_name file c.legs n) → P (input_behind conference file c.legs n)
  named_so P zero name i p = absurd i
  named_so P (suc n) name i p = p

  input_named : (n : ℕ) → IsInputBehind WorldTells held (cascades file ssrc c) n (input_name file c.legs n) → IsInput WorldTells held (cascading conference file ssrc) n (input_behind conference file c.legs n)
  input_named n i =
      let name = input_name file c.legs n in
      named_so (λ name. IsInput WorldTells held (cascading conference file ssrc) n name) n name i (input_is n name i)

  -- and its outcome is
  outcome_is : WorldTells → outcome held (cascading conference file ssrc) ≡ outcome_behind held file ssrc c
  outcome_is told =
      lies held conference (λ o. cascades_read file ssrc (conference_from Files o)) octets (there told)
      ∙ (ap (λ r. outcome_from 1 held (cascades_read file ssrc r)) read ∙ ap (λ o. outcome_from 1 held (unless_odd o (cascades file ssrc c))) even)

  pub cascade_makes : (printed : List ℕ) (files : List Made) → (WorldTells → outcome_behind held file ssrc c ≡ Done printed files)
      → MakesOutputs WorldTells held (command_of conference file ssrc) c.legs printed files
  cascade_makes printed files made = record {
    reads = λ t. t;
    prints = refl;
    output = cascaded_output WorldTells held conference octets file ssrc c there read even (λ told. (printed, files, made told));
    comes = λ told. outcome_is told ∙ made told;
  }

-- an input behind the conference is a recording
recorded : (WorldTells : Type 0) (held : Contents) (conference file : List ℕ) (ssrc : ℕ) (c : Conference) (n : ℕ) (name : List ℕ) → IsInputBehind WorldTells held (cascades file ssrc c) n name
    → is_recording (command_of conference file ssrc) n ≡ true
recorded WorldTells held conference file ssrc c zero name i = absurd i
recorded WorldTells held conference file ssrc c (suc n) name i = refl

module _ (WorldTells OutTells : Type 0) (old new : Outside) (conference octets file : List ℕ) (ssrc : ℕ) (c : Conference) (there : WorldTells → old.contents conference ≡ Some octets) (read : conference_from Files octets ≡ Ok c)
    (even : odd_line c.legs ≡ None) (unchanged : Unchanged WorldTells OutTells old new) where
  none_failed : (input : ℕ) → WorldTells → ((name : List ℕ) → NoneHasName WorldTells old.contents (cascades file ssrc c) input name → new.objects name ≡ old.objects name)
      → NoneFailedBefore input (command_of conference file ssrc) WorldTells old new
  none_failed input told none n name less i later = none name (λ m le j. later m le (input_is WorldTells old.contents conference octets file ssrc c there read even m name j))

  broken : (input : ℕ) (fault : DumpFault) (b : Bool) → is_of_source fault.kind ≡ b
      → IsBroken WorldTells (ObjectFailed old new) old.contents file ssrc c input (input_name file c.legs input) fault
      → NoneFailed WorldTells old.contents file ssrc c old.objects new.objects (Err (behind.Dump input fault))
      → let ended : Ending = Err (if b then CannotRead input else Refused input (AtByte fault.offset fault.kind)) in
      Ends (command_of conference file ssrc) WorldTells OutTells old new (ending_behind conference file c.legs ended) ended
  broken input fault true is s none = (
    input_named WorldTells old.contents conference octets file ssrc c there read even input s.is_input,
    named_so WorldTells old.contents conference octets file ssrc c there read even (ObjectFailed old new) input (input_name file c.legs input) s.is_input (s.read is),
    (λ told. (
      subst (NoneBefore input) (sym (outcome_is WorldTells old.contents conference octets file ssrc c there read even told))
          (none_of input (outcome_behind old.contents file ssrc c) (s.lowest told (splits_whole octets c read old.contents file ssrc))),
      none_failed input told (none told),
    )),
    unchanged,
  )
  broken input fault false is s none = (
    input_named WorldTells old.contents conference octets file ssrc c there read even input s.is_input,
    recorded WorldTells old.contents conference file ssrc c input (input_name file c.legs input) s.is_input,
    (λ told. (outcome_is WorldTells old.contents conference octets file ssrc c there read even told ∙ s.refused is told, none_failed input told (none told))),
    unchanged,
  )

  pub stopped_cascade : (fault : CascadeFault) → Stops WorldTells (CallFailed old new) (ObjectFailed old new) old.contents file ssrc c fault
      → NoneFailed WorldTells old.contents file ssrc c old.objects new.objects (Err fault) → IsFirst WorldTells old.contents file c.legs old.calls new.calls fault
      → Ends (command_of conference file ssrc) WorldTells OutTells old new (ending_behind conference file c.legs (Err (fault_of_cascade c.turns fault))) (Err (fault_of_cascade c.turns fault))
  stopped_cascade (behind.Open input) s none first = (
    input_named WorldTells old.contents conference octets file ssrc c there read even input s.0,
    named_so WorldTells old.contents conference octets file ssrc c there read even (OpenFailed WorldTells old new) input (input_name file c.legs input) s.0 (s.1, first),
    unchanged,
  )
  stopped_cascade (behind.Dump input fault) s none first = broken input fault (is_of_source fault.kind) refl s none
  stopped_cascade behind.TooLong s none first = (refl, refl, (λ told. outcome_is WorldTells old.contents conference octets file ssrc c there read even told ∙ s told), none, unchanged)
  stopped_cascade behind.NoMemory s none first = unchanged

-- ---- a leg behind the other mixer has other payload types
pub odd_ends : (WorldTells OutTells : Type 0) (outside : Outside) (conference octets file : List ℕ) (ssrc : ℕ) (c : Conference) (line : ℕ) → (WorldTells → outside.contents conference ≡ Some octets) → conference_from Files octets ≡ Ok c
    → odd_line c.legs ≡ Some line → let ended : Ending = Err (Refused 0 (AtTrunk line)) in
    Ends (command_of conference file ssrc) WorldTells OutTells outside outside (ending_behind conference file c.legs ended) ended
odd_ends WorldTells OutTells outside conference octets file ssrc c line there read odd = (
  refl,
  (
    octets,
    there,
    subst (λ r. RefusesSo WorldTells outside.contents (cascades_read file ssrc r) 0 (AtTrunk line)) (sym read)
        (subst (λ o. RefusesSo WorldTells outside.contents (unless_odd o (cascades file ssrc c)) 0 (AtTrunk line)) (sym odd) (refl, refl)),
  ),
  ((λ shown. refl), λ told name. refl),
)

-- the names of the outputs
pub names_behind : (conference file : List ℕ) (legs : List LegLine) → NamesOutputs legs (ending_behind conference file legs)
names_behind conference file legs n leg at = ap (output_of conference) at

-- where no line is odd, there is none
pub none_odd : (o : Option ℕ) → ((line : ℕ) → o ≡ Some line → ⊥) → o ≡ None
none_odd None not = refl
none_odd (Some line) not = absurd (not line refl)

-- How a conference that is mixed ends.
use Rattle.std.proofs.Common.{◌≡◌, ℕ, zero, suc, ◌+◌, ◌≤◌, Bool, true, false, cond, Some, List, [], ◌∷◌, ◌++◌, take, Ok, Err, refl, ap, sym, subst, ◌∙◌, inl, inr, arith}
use Rattle.std.specs.Prelude.{◌⊎◌, IfErr, OnOk, OnErr, if◌then◌else◌}
use Rattle.std.specs.Result.{is_err}
use Rattle.rtpdump_io.specs.declared.items.DumpFault.{DumpFault}
use Rattle.rtpdump_io.specs.Reading.{is_of_source}
use Rattle.file_spec.specs.declared.conference_lines.LegLine.{LegLine}
use Rattle.file_spec.specs.Conference.{Conference}
use Rattle.mixer_spec.specs.Setups.{leg_at}
use Rattle.command_spec.specs.declared.faults.Refusal.TheVariants.{AtByte, AfterTurns}
use Rattle.command_spec.specs.declared.faults.Fault.{Fault}
use Rattle.command_spec.specs.declared.faults.Fault.TheVariants.{WrongWords, CannotOpen, CannotRead, Refused, CannotPrint, CannotWrite, LinkFailed, NoMemory}
use Rattle.command_spec.specs.Work.{Contents, Made, Makes, IsInput, IsOutput, IsNth}
use Rattle.command_spec.specs.Outcomes.{outcome, Same, AllStored}
use Rattle.command_spec.specs.Outcomes as outcomes
use Rattle.rtt_words.specs.Words.{Command}
use Rattle.rtt_words.specs.Tasks.{work}
use Rattle.command_spec.specs.Inputs.{LieBelow, AllLie, inputs_under}
use Rattle.command_spec.specs.Mixing.{counted}
use Rattle.command_spec.proofs.Reached.{counted_makes}
use Rattle.command_spec.specs.Messages.{Ending}
use Rattle.rtt_mix.specs.declared.results.MixFault.{MixFault}
use Rattle.rtt_mix.specs.declared.results.MixFault.TheVariants.{Open, Dump, TooLong}
use Rattle.rtt_mix.specs.declared.results.MixFault.TheVariants as mix
use Rattle.rtt_mix.specs.Mixes.{IsBroken, outputs_of, steps_of}
use Rattle.rtt_mix.specs.Mixes as bridge
use Rattle.rtt_top.specs.Conferences.{ComesToMixing, MakesOutputs, NamesOutputs, ending_name, fault_of_mixing, input_name, input_of, output_of}
use Rattle.rtt_top.specs.Faults.{NoneBefore, is_recording}
use Rattle.rtt_top.specs.Outputs.{IsUnwritten}
use Rattle.rtt_top.specs.Outside.{Outside, Output, Failed, CallFailed, ObjectFailed, OpenFailed}
use Rattle.rtt_top.specs.Runs.{Prints, PrintsFront, Unchanged, PartlyStored, Ends, NoneFailedBefore}
use Rattle.rtt_top.proofs.Working.{done}
use Rattle.rtt_top.proofs.Chain.{none_before, outcome_done, outcome_refused}
use Rattle.command_spec.proofs.Plain.{stores_since}
use Rattle.command_spec.proofs.SentBack.{below_legs as leg_within}

-- ---- legs
lie_below : (held : Contents) (legs : List LegLine) (n : ℕ) → AllLie held legs → LieBelow n held legs
lie_below held legs n lie = λ k leg less at. lie k leg (leg_within legs k leg at) at

-- what holds of the input of a leg holds by its number and its name
by_number : (P : ℕ → List ℕ → Type 0) (file : List ℕ) (legs : List LegLine) (k : ℕ) (leg : LegLine) → leg_at legs k ≡ Some leg
    → P (suc k) leg.input → P (k + 1) (input_name file legs (k + 1))
by_number P file legs k leg at p =
    let one : suc k ≡ k + 1 = omega arith in
    subst (λ n. P n (input_name file legs n)) one (subst (P (suc k)) (sym (ap (input_of file) at)) p)

-- ---- what failed
-- the legs that were read well before this one, or with it, are at least those before it
from_leg : (k j : ℕ) (b : Bool) → cond b k (k + 1) ≤ j → k + 1 ≤ suc j
from_leg k j true le = omega arith
from_leg k j false le = omega arith

none_failed : (WorldTells : Type 0) (old new : Outside) (command : Command) (c : Conference) (k : ℕ) (fault : DumpFault) → ComesToMixing WorldTells old.contents command c → WorldTells
    → AllLie old.contents c.legs → bridge.NoneFailed WorldTells c.legs old.objects new.objects (Err (Dump k fault)) → NoneFailedBefore (k + 1) command WorldTells old new
none_failed WorldTells old new command c k fault m told there none n name less i later = none told name (λ j leg le at is.
    later (suc j) (from_leg k j (is_of_source fault.kind) le) (subst (λ f. IsInput WorldTells old.contents (work command).steps (suc j) f) is
    (m.input j leg at (λ t. lie_below old.contents c.legs j there))))

-- ---- nothing is made
broken : (WorldTells OutTells : Type 0) (old new : Outside) (file : List ℕ) (command : Command) (c : Conference) (k : ℕ) (leg : LegLine) (fault : DumpFault) (b : Bool)
    → ComesToMixing WorldTells old.contents command c → is_of_source fault.kind ≡ b → leg_at c.legs k ≡ Some leg
    → IsBroken WorldTells (ObjectFailed old new) old.contents c k leg fault
    → bridge.NoneFailed WorldTells c.legs old.objects new.objects (Err (Dump k fault)) → Unchanged WorldTells OutTells old new
    → let ended : Ending = Err (if b then CannotRead (k + 1) else Refused (k + 1) (AtByte fault.offset fault.kind)) in
    Ends command WorldTells OutTells old new (ending_name file c.legs ended) ended
broken WorldTells OutTells old new file command c k leg fault true m is at s none u =
    let r = by_number (λ n name. IsInput WorldTells old.contents (work command).steps n name × ObjectFailed old new name × (WorldTells → NoneBefore n (outcome old.contents (work command).steps))) file c.legs k leg at (
      m.input k leg at (λ told. lie_below old.contents c.legs k (s.lie told)),
      s.read is,
      λ told. none_before WorldTells old.contents command c k m told (s.lie told) (s.lowest told),
    ) in (r.0, r.1, (λ told. (r.2 told, none_failed WorldTells old new command c k fault m told (s.lie told) none)), u)
broken WorldTells OutTells old new file command c k leg fault false m is at s none u =
    let r = by_number (λ n name. IsInput WorldTells old.contents (work command).steps n name × (is_recording command n ≡ true) × (WorldTells → outcome old.contents (work command).steps ≡ outcomes.Refused n (AtByte fault.offset fault.kind))) file c.legs k leg at (
      m.input k leg at (λ told. lie_below old.contents c.legs k (s.lie told)),
      m.recordings k,
      λ told. (let one : k + 1 ≡ suc k = omega arith in
          outcome_refused WorldTells old.contents command c (k + 1) (AtByte fault.offset fault.kind) m told (s.lie told) (s.refused is told)
          ∙ ap (λ n. outcomes.Refused n (AtByte fault.offset fault.kind)) one),
    ) in (r.0, r.1, (λ told. (r.2 told, none_failed WorldTells old new command c k fault m told (s.lie told) none)), u)

pub stopped_mixing : (WorldTells OutTells : Type 0) (old new : Outside) (file : List ℕ) (command : Command) (c : Conference) (fault : MixFault) → ComesToMixing WorldTells old.contents command c
    → bridge.Stops WorldTells (CallFailed old new) (ObjectFailed old new) old.contents c fault
    → bridge.NoneFailed WorldTells c.legs old.objects new.objects (Err fault) → bridge.IsFirst WorldTells old.contents c.legs old.calls new.calls fault → Unchanged WorldTells OutTells old new
    → Ends command WorldTells OutTells old new (ending_name file c.legs (Err (fault_of_mixing c.turns fault))) (Err (fault_of_mixing c.turns fault))
stopped_mixing WorldTells OutTells old new file command c (Open k) m s none first u =
    let r = by_number (λ n name. IsInput WorldTells old.contents (work command).steps n name × OpenFailed WorldTells old new name) file c.legs k s.0 s.1
    (m.input k s.0 s.1 s.3, (s.2, λ told. first told s.0 s.1)) in (r.0, r.1, u)
stopped_mixing WorldTells OutTells old new file command c (Dump k fault) m s none first u =
    broken WorldTells OutTells old new file command c k s.0 fault (is_of_source fault.kind) m refl s.1 s.2 none u
stopped_mixing WorldTells OutTells old new file command c TooLong m s none first u =
    (refl, m.mixed, (λ t. let told = m.reads t in outcome_refused WorldTells old.contents command c 0 (AfterTurns c.turns) m told (s told).0 (s told).1), none, u)
stopped_mixing WorldTells OutTells old new file command c mix.NoMemory m s none first u = u

-- ---- an output can't be written
nth_output : (legs : List LegLine) (outs : List (List ℕ)) (n : ℕ) (name : List ℕ) → IsNth (outputs_of legs outs) n name
    → (leg : LegLine) × (leg_at legs n ≡ Some leg) × (name ≡ leg.output)
nth_output [] outs n name nth = absurd nth
nth_output (l ∷ legs) [] n name nth = absurd nth
nth_output (l ∷ legs) (o ∷ outs) zero name nth = (l, refl, nth)
nth_output (l ∷ legs) (o ∷ outs) (suc n) name nth = nth_output legs outs n name nth

pub all_stored_since : (files : List Made) (old between new : Contents) → Same old between → AllStored files between new → AllStored files old new
all_stored_since [] old between new same s = λ name. s name ∙ same name
all_stored_since (f ∷ files) old between new same s = (s.0, stores_since f old between s.0 same s.1, s.2)

pub partly_since : (Call Object Call' Object' : List ℕ → Type 0) (n : ℕ) (files : List Made) (old between new : Contents) → ((name : List ℕ) → Call' name → Call name)
    → ((name : List ℕ) → Object' name → Object name) → Same old between → PartlyStored Call' Object' n files between new → PartlyStored Call Object n files old new
partly_since Call Object Call' Object' n [] old between new f g same p = absurd p
partly_since Call Object Call' Object' zero (file ∷ more) old between new f g same (inl p) = inl (f file.name p.0, λ name. p.1 name ∙ same name)
partly_since Call Object Call' Object' zero (file ∷ more) old between new f g same (inr p) =
    inr (g file.name p.0, (p.1.0, stores_since (record file { octets = take p.1.0 file.octets }) old between new same p.1.1))
partly_since Call Object Call' Object' (suc n) (file ∷ more) old between new f g same p =
    (p.0, stores_since file old between p.0 same p.1, partly_since Call Object Call' Object' n more p.0 p.0 new f g (λ name. refl) p.2)

-- a world that lies between two others: nothing was changed, and no count fell
pub record IsBetween (WorldTells : Type 0) (old new : Outside) (contents : Contents) (calls objects : List ℕ → ℕ) : Type 0 where
  pub same : WorldTells → Same old.contents contents
  pub calls_rise : (name : List ℕ) → old.calls name ≤ calls name
  pub objects_rise : (name : List ℕ) → old.objects name ≤ objects name

output_is : (WorldTells : Type 0) (held : Contents) (command : Command) (c : Conference) (printed : List ℕ) (outs : List (List ℕ)) → ComesToMixing WorldTells held command c
    → (WorldTells → AllLie held c.legs × (steps_of held c ≡ Makes printed (outputs_of c.legs outs)))
    → (n : ℕ) (leg : LegLine) → leg_at c.legs n ≡ Some leg → IsOutput WorldTells held (work command).steps n leg.output
output_is WorldTells held command c printed outs m made n leg at =
    m.output (λ told. (made told).0) (λ told. (printed, outputs_of c.legs outs, (made told).1)) n leg at

pub mixing_makes : (WorldTells : Type 0) (held : Contents) (command : Command) (c : Conference) (printed lines : List ℕ) (outs : List (List ℕ)) → ComesToMixing WorldTells held command c
    → (WorldTells → AllLie held c.legs × (steps_of held c ≡ Makes printed (outputs_of c.legs outs))) → (WorldTells → lines ≡ counted c (inputs_under held c.legs))
    → MakesOutputs WorldTells held command c.legs (printed ++ lines) (outputs_of c.legs outs)
mixing_makes WorldTells held command c printed lines outs m made count = record {
  reads = m.reads;
  prints = m.prints;
  output = output_is WorldTells held command c printed outs m made;
  comes = λ told. outcome_done WorldTells held command c (printed ++ lines) (outputs_of c.legs outs) m told (made told).0
      (counted_makes c (inputs_under held c.legs) printed (outputs_of c.legs outs) (made told).1 ∙ ap (λ (l : List ℕ). Makes (printed ++ l) (outputs_of c.legs outs)) (sym (count told)));
}

-- the names of the outputs of a mixing
pub names_outputs : (file : List ℕ) (legs : List LegLine) → NamesOutputs legs (ending_name file legs)
names_outputs file legs n leg at = ap (output_of file) at

unwritten : (WorldTells OutTells : Type 0) (old new : Outside) (command : Command) (name : Ending → List ℕ) (legs : List LegLine) (printed : List ℕ) (outs : List (List ℕ)) (fault : Fault)
    → NamesOutputs legs name → MakesOutputs WorldTells old.contents command legs printed (outputs_of legs outs) → new.out ≡ old.out
    → IsUnwritten WorldTells (CallFailed old new) (ObjectFailed old new) (outputs_of legs outs) old.contents new.contents fault
    → Ends command WorldTells OutTells old new (name (Err fault)) (Err fault)
unwritten WorldTells OutTells old new command name legs printed outs WrongWords names m out u = absurd u
unwritten WorldTells OutTells old new command name legs printed outs (CannotOpen k) names m out u = absurd u
unwritten WorldTells OutTells old new command name legs printed outs (CannotRead k) names m out u = absurd u
unwritten WorldTells OutTells old new command name legs printed outs (Refused k refusal) names m out u = absurd u
unwritten WorldTells OutTells old new command name legs printed outs CannotPrint names m out u = absurd u
unwritten WorldTells OutTells old new command name legs printed outs (LinkFailed leg) names m out u = absurd u
unwritten WorldTells OutTells old new command name legs printed outs NoMemory names m out u = absurd u
unwritten WorldTells OutTells old new command name legs printed outs (CannotWrite n) names m out u =
    let nth = nth_output legs outs n u.0 u.1 in
    let named : u.0 ≡ name (Err (CannotWrite n)) = nth.2 ∙ sym (names n nth.0 nth.1) in (
      subst (λ file. IsOutput WorldTells old.contents (work command).steps n file) (sym (names n nth.0 nth.1)) (m.output n nth.0 nth.1),
      subst (λ file. CallFailed old new file ⊎ ObjectFailed old new file) named u.2,
      (λ shown. ap (λ (o : Output). o.octets) out),
      λ told. done (outcome old.contents (work command).steps) printed (outputs_of legs outs)
          (λ printed files. PartlyStored (CallFailed old new) (ObjectFailed old new) n files old.contents new.contents) (m.comes told) (u.3 told),
    )

-- ---- all is written, and printed or not
pub printed_outputs : (WorldTells OutTells : Type 0) (old new : Outside) (command : Command) (name : Ending → List ℕ) (legs : List LegLine) (printed : List ℕ) (outs : List (List ℕ)) (result : Ending)
    → MakesOutputs WorldTells old.contents command legs printed (outputs_of legs outs) → (WorldTells → AllStored (outputs_of legs outs) old.contents new.contents)
    → IfErr result (λ fault. fault ≡ CannotPrint) → OnErr result (Failed old.out new.out) → (OutTells → OnOk result (Prints printed old new)) → (OutTells → OnErr result (PrintsFront printed old new))
    → Ends command WorldTells OutTells old new (name result) result
printed_outputs WorldTells OutTells old new command name legs printed outs (Ok u) m stored fault cause whole partly =
    λ t. done (outcome old.contents (work command).steps) printed (outputs_of legs outs) (λ printed files. (WorldTells → AllStored files old.contents new.contents) × (OutTells → Prints printed old new))
    (m.comes (m.reads t)) (stored, whole)
printed_outputs WorldTells OutTells old new command name legs printed outs (Err f) m stored fault cause whole partly =
    let P : Fault → Type 0 = λ f. Ends command WorldTells OutTells old new (name (Err f)) (Err f) in
    subst P (sym fault) (
      m.prints,
      cause,
      λ t. done (outcome old.contents (work command).steps) printed (outputs_of legs outs) (λ printed files. (WorldTells → AllStored files old.contents new.contents) × (OutTells → PrintsFront printed old new))
          (m.comes (m.reads t)) (stored, partly),
    )

pub unwritten_outputs : (WorldTells OutTells : Type 0) (old new : Outside) (command : Command) (name : Ending → List ℕ) (legs : List LegLine) (printed : List ℕ) (outs : List (List ℕ)) (result : Ending)
    → NamesOutputs legs name → MakesOutputs WorldTells old.contents command legs printed (outputs_of legs outs) → new.out ≡ old.out → is_err result ≡ true
    → IfErr result (IsUnwritten WorldTells (CallFailed old new) (ObjectFailed old new) (outputs_of legs outs) old.contents new.contents)
    → Ends command WorldTells OutTells old new (name result) result
unwritten_outputs WorldTells OutTells old new command name legs printed outs (Ok u) names m out err u' = absurd (cc err)
unwritten_outputs WorldTells OutTells old new command name legs printed outs (Err fault) names m out err u =
    unwritten WorldTells OutTells old new command name legs printed outs fault names m out u

pub saved : (result : Ending) (P : Type 0) → is_err result ≡ false → OnOk result P → P
saved (Ok u) P ok p = p
saved (Err fault) P ok p = absurd (cc ok)

-- The line of a conference that is made from a number, and how the command ends.
use Rattle.std.proofs.Common.{◌≡◌, ℕ, suc, Option, Some, None, List, [], ◌∷◌, length, Ok, Err, refl, ap, sym, subst, ◌∙◌}
use Rattle.std.specs.Prelude.{IfErr, OnOk, OnErr}
use Rattle.std.proofs.lemmas.List.FromFn.{length-map-range_with_len}
use Rattle.wire_spec.specs.Dump.{dump}
use Rattle.wire_spec.specs.Dump as dumps
use Rattle.file_spec.specs.Conference.{Conference}
use Rattle.mixer_spec.specs.Bridged.{input_limit, leg_chunks}
use Rattle.mixer_spec.specs.Plain.{plain}
use Rattle.mixer_spec.specs.Setups.{setup}
use Rattle.mixer_spec.specs.Table.{Table}
use Rattle.command_spec.specs.declared.faults.Refusal.{Refusal}
use Rattle.command_spec.specs.declared.faults.Refusal.TheVariants.{AtByte, AfterTurns}
use Rattle.command_spec.specs.declared.faults.Fault.{Fault}
use Rattle.command_spec.specs.declared.faults.Fault.TheVariants.{WrongWords, CannotOpen, CannotRead, Refused, CannotPrint, CannotWrite, LinkFailed, NoMemory}
use Rattle.command_spec.specs.Generated.{Generated, generated}
use Rattle.command_spec.specs.Making.{making, makes_summary, recording_at, recordings, summary}
use Rattle.command_spec.specs.Messages.{Ending}
use Rattle.command_spec.specs.Mixing.{input_at, makes, mixes, unless_one_broken}
use Rattle.command_spec.specs.Sums.{Sums, sums_mixed}
use Rattle.rtt_words.specs.Words.{Command, Make}
use Rattle.command_spec.specs.Work.{Contents, Steps, Reads, Refuses, Makes, Serves}
use Rattle.command_spec.specs.Outcomes.{outcome, AllStored}
use Rattle.rtt_mix.specs.declared.results.MixFault.{MixFault}
use Rattle.rtt_mix.specs.declared.results.MixFault.TheVariants.{Open, Dump, TooLong}
use Rattle.rtt_mix.specs.declared.results.MixFault.TheVariants as mix
use Rattle.rtt_mix.specs.Answered.{MixesTo}
use Rattle.rtt_top.specs.Makings.{IsWhy, fault_in_memory}
use Rattle.rtt_top.specs.Outside.{Outside, Failed}
use Rattle.rtt_top.specs.Runs.{Ends, Prints, PrintsFront}
use Rattle.rtt_top.proofs.Working.{done}

-- ---- mixing is not over
not_over : (c : Conference) (limit : ℕ) (inputs : List (List ℕ)) (n turns : ℕ) (table : Option Table)
    → unless_one_broken limit n inputs (makes c table) ≡ Refuses 0 (AfterTurns turns) → table ≡ None
not_over c limit [] n turns None e = refl
not_over c limit [] n turns (Some table) e = absurd (cc e)
not_over c limit (octets ∷ more) n turns table e = go (not_over c limit more (suc n) turns table) (dump limit octets).fault e
  where
    go : (unless_one_broken limit (suc n) more (makes c table) ≡ Refuses 0 (AfterTurns turns) → table ≡ None) → (fault : Option dumps.Fault)
        → elim fault [ None ↦ unless_one_broken limit (suc n) more (makes c table) | Some f ↦ Refuses n (AtByte f.byte f.kind) ] ≡ Refuses 0 (AfterTurns turns) → table ≡ None
    go next None e = next e
    go next (Some f) e = absurd (cc e)

no_sums : (c : Conference) (inputs : List (List ℕ)) (turns : ℕ) → mixes c inputs ≡ Refuses 0 (AfterTurns turns) → sums_mixed c inputs ≡ None
no_sums c inputs turns e =
    let none = not_over c (input_limit c) inputs 1 turns (plain (setup c) c.tick c.turns (leg_chunks c (input_at inputs))) e in
    rw none refl

-- ---- the line
pub line_made : (n : ℕ) (made : Generated) (inputs : List (List ℕ)) (found : Sums) (line : List ℕ)
    → made ≡ generated n → inputs ≡ recordings made → sums_mixed made.conference inputs ≡ Some found → line ≡ summary n made found → making n ≡ Makes line []
line_made n made inputs found line is sent mixed told =
    let P : Generated → Type 0 = λ g. makes_summary n g (sums_mixed g.conference (recordings g)) ≡ Makes line [] in
    subst P is (ap (λ (i : List (List ℕ)). makes_summary n made (sums_mixed made.conference i)) (sym sent)
    ∙ (ap (makes_summary n made) mixed ∙ ap (λ (l : List ℕ). Makes l []) (sym told)))

pub too_long : (n : ℕ) (made : Generated) (inputs : List (List ℕ)) → made ≡ generated n → inputs ≡ recordings made
    → mixes made.conference inputs ≡ Refuses 0 (AfterTurns made.conference.turns) → making n ≡ Refuses 0 (AfterTurns made.conference.turns)
too_long n made inputs is sent e =
    let P : Generated → Type 0 = λ g. makes_summary n g (sums_mixed g.conference (recordings g)) ≡ Refuses 0 (AfterTurns made.conference.turns) in
    subst P is (ap (λ (i : List (List ℕ)). makes_summary n made (sums_mixed made.conference i)) (sym sent)
    ∙ ap (makes_summary n made) (no_sums made.conference inputs made.conference.turns e))

pub as_many : (made : Generated) (inputs : List (List ℕ)) → length made.scripts ≡ length made.conference.legs → inputs ≡ recordings made → length inputs ≡ length made.conference.legs
as_many made inputs each sent =
    ap (λ (l : List (List ℕ)). length l) sent ∙ (length-map-range_with_len (recording_at made) 0 (length made.scripts) ∙ each)

-- ---- how the command ends
abbrev make_of : ℕ → Command
make_of n = Make (record { number = n })

-- it refuses nothing but its conference, after its turns
abbrev RefusesTurns : ℕ → Steps → Type 0
RefusesTurns turns (Reads name next) = ⊥
RefusesTurns turns (Refuses input refusal) = (input ≡ 0) × (refusal ≡ AfterTurns turns)
RefusesTurns turns (Makes printed files) = Unit {0}
RefusesTurns turns (Serves c) = ⊥

refuses_turns : (n : ℕ) (made : Generated) (found : Option Sums) → RefusesTurns made.conference.turns (makes_summary n made found)
refuses_turns n made None = (refl, refl)
refuses_turns n made (Some sums) = tt

refused_make : (n : ℕ) (input : ℕ) (refusal : Refusal) → making n ≡ Refuses input refusal → (input ≡ 0) × (refusal ≡ AfterTurns (generated n).conference.turns)
refused_make n input refusal e =
    subst (RefusesTurns (generated n).conference.turns) e (refuses_turns n (generated n) (sums_mixed (generated n).conference (recordings (generated n))))

pub ends_why : (n : ℕ) (WorldTells OutTells : Type 0) (outside : Outside) (name : List ℕ) (fault : Fault) → IsWhy (making n) fault → Ends (make_of n) WorldTells OutTells outside outside name (Err fault)
ends_why n WorldTells OutTells outside name WrongWords w = absurd w
ends_why n WorldTells OutTells outside name (CannotOpen k) w = absurd w
ends_why n WorldTells OutTells outside name (CannotRead k) w = absurd w
ends_why n WorldTells OutTells outside name (Refused k refusal) w =
    let is = refused_make n k refusal w in
    let P : Refusal → Type 0 = λ r. making n ≡ Refuses k r → Ends (make_of n) WorldTells OutTells outside outside name (Err (Refused k r)) in
    subst P (sym is.1) (λ e. (is.0, refl, (λ t. ap (outcome outside.contents) e), (λ file. refl), ((λ shown. refl), λ told file. refl))) w
ends_why n WorldTells OutTells outside name CannotPrint w = absurd w
ends_why n WorldTells OutTells outside name (CannotWrite k) w = absurd w
ends_why n WorldTells OutTells outside name (LinkFailed leg) w = absurd w
ends_why n WorldTells OutTells outside name NoMemory w = ((λ shown. refl), λ told file. refl)

-- what was printed of it
pub ends_printed : (n : ℕ) (WorldTells OutTells : Type 0) (old new : Outside) (name line : List ℕ) (result : Ending) → making n ≡ Makes line [] → new.contents ≡ old.contents
    → IfErr result (λ fault. fault ≡ CannotPrint) → OnErr result (Failed old.out new.out)
    → (OutTells → OnOk result (Prints line old new)) → (OutTells → OnErr result (PrintsFront line old new)) → Ends (make_of n) WorldTells OutTells old new name result
ends_printed n WorldTells OutTells old new name line (Ok u) is same fault cause printed partly = λ t.
    done (outcome old.contents (making n)) line [] (λ printed files. (WorldTells → AllStored files old.contents new.contents) × (OutTells → Prints printed old new)) (ap (outcome old.contents) is) ((λ told file. ap (λ (h : Contents). h file) same), printed)
ends_printed n WorldTells OutTells old new name line (Err f) is same fault cause printed partly =
    let Q : Fault → Type 0 = λ g. Ends (make_of n) WorldTells OutTells old new name (Err g) in
    subst Q (sym fault) (
      refl,
      cause,
      λ t. done (outcome old.contents (making n)) line [] (λ printed files. (WorldTells → AllStored files old.contents new.contents) × (OutTells → PrintsFront printed old new))
          (ap (outcome old.contents) is) ((λ told file. ap (λ (h : Contents). h file) same), partly),
    )

-- ---- why it is not printed
pub why : (n : ℕ) (made : Generated) (inputs : List (List ℕ)) → made ≡ generated n → inputs ≡ recordings made
    → (fault : MixFault) → MixesTo made.conference inputs (Err fault) → IsWhy (making n) (fault_in_memory made.conference.turns fault)
why n made inputs is sent (Open leg) m = tt
why n made inputs is sent (Dump leg fault) m = tt
why n made inputs is sent TooLong m = too_long n made inputs is sent m
why n made inputs is sent mix.NoMemory m = tt

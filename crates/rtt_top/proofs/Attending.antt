-- How `attend` ends where its conference is not named: as a mixing of it would.
use Rattle.std.proofs.Common.{◌≡◌, ℕ, zero, suc, ◌+◌, Bool, true, false, cond, Option, Some, None, List, [], ◌∷◌, length, Ok, Err, refl, ap, sym, subst, ◌∙◌}
use Rattle.std.specs.Prelude.{◌≢◌, IsSome, nat_lt, if◌then◌else◌}
use Rattle.wire_spec.specs.Dump.{dump, usual_limit}
use Rattle.wire_spec.specs.Dump as dumps
use Rattle.wire_spec.specs.declared.faults.DumpKind.{DumpKind}
use Rattle.rtpdump_io.specs.Reading.{is_of_source}
use Rattle.file_spec.specs.declared.conference_lines.Form.TheVariants.{Files}
use Rattle.file_spec.specs.declared.conference_lines.LegLine.{LegLine}
use Rattle.file_spec.specs.Conference.{Conference, conference_from}
use Rattle.mixer_spec.specs.Setups.{leg_at, setup}
use Rattle.mixer_spec.specs.Table.{Table}
use Rattle.mixer_spec.specs.declared.limits.TheConstants.{MOST_INPUT_OF_MANY, PLACES}
use Rattle.mixer_spec.specs.Plain.{plain}
use Rattle.mixer_spec.specs.Bridged.{input_limit, leg_chunks}
use Rattle.command_spec.specs.declared.faults.Refusal.TheVariants.{AtByte}
use Rattle.command_spec.specs.declared.faults.Fault.TheVariants.{CannotRead, Refused}
use Rattle.rtt_words.specs.Words.{Attend}
use Rattle.command_spec.specs.Work.{Contents, Steps, Refuses}
use Rattle.command_spec.specs.Inputs.{AllLie, LieBelow, NoneReads, inputs_under}
use Rattle.command_spec.specs.Mixing.{input_at, makes, mixes, unless_one_broken}
use Rattle.command_spec.specs.Attending.{named, says_of}
use Rattle.command_spec.proofs.SameFiles.{HaveFilesOf, back, same_inputs, same_many, there}
use Rattle.rtt_mix.specs.declared.results.MixFault.{MixFault}
use Rattle.rtt_mix.specs.declared.results.MixFault.TheVariants.{Open, Dump, TooLong}
use Rattle.rtt_mix.specs.declared.results.MixFault.TheVariants as mix
use Rattle.rtt_mix.specs.Mixes.{IsFirst, NoneFailed, Stops, steps_of}
use Rattle.rtt_top.specs.Conferences.{ending_name, fault_name, fault_of_mixing, input_name, input_of}
use Rattle.rtt_top.specs.Outside.{CallFailed, ObjectFailed, Outside}
use Rattle.rtt_top.specs.Runs.{Ends, Unchanged}
use Rattle.rtt_top.proofs.Bridging.{stopped_mixing}
use Rattle.rtt_top.proofs.Mixings.{IsToldOf, attend_comes, same_files_of}

-- ---- legs with the same files
lie_too : (held : Contents) (olds news : List LegLine) → HaveFilesOf olds news → (n : ℕ) → LieBelow n held olds → LieBelow n held news
lie_too held olds news same n lie k new less at =
    let old = back olds news same k new at in subst (λ name. IsSome (held name)) (sym old.2.input) (lie k old.0 less old.1)

all_lie_too : (held : Contents) (olds news : List LegLine) → HaveFilesOf olds news → AllLie held olds → AllLie held news
all_lie_too held olds news same lie = lie_too held olds news same (length news) (subst (λ n. LieBelow n held olds) (sym (same_many olds news same)) lie)

none_reads : (n : ℕ) (olds news : List LegLine) (name : List ℕ) → HaveFilesOf olds news → NoneReads n news name → NoneReads n olds name
none_reads n olds news name same none k old le at is = let new = there olds news same k old at in none k new.0 le new.1 (new.2.input ∙ is)

same_input : (file : List ℕ) (olds news : List LegLine) → HaveFilesOf olds news → (k : ℕ) → input_of file (leg_at news k) ≡ input_of file (leg_at olds k)
same_input file [] [] same k = refl
same_input file [] (l ∷ ls) same k = absurd same
same_input file (o ∷ olds) [] same k = absurd same
same_input file (o ∷ olds) (l ∷ ls) same zero = same.0.input
same_input file (o ∷ olds) (l ∷ ls) same (suc k) = same_input file olds ls same.1 k

same_input_name : (file : List ℕ) (olds news : List LegLine) → HaveFilesOf olds news → (n : ℕ) → input_name file news n ≡ input_name file olds n
same_input_name file olds news same zero = refl
same_input_name file olds news same (suc k) = same_input file olds news same k

-- the file that is told of has the same name
same_told : (file : List ℕ) (olds news : List LegLine) → HaveFilesOf olds news → (turns : ℕ) (fault : MixFault)
    → fault_name file news (fault_of_mixing turns fault) ≡ fault_name file olds (fault_of_mixing turns fault)
same_told file olds news same turns (Open k) = same_input_name file olds news same (k + 1)
same_told file olds news same turns (Dump k fault) = go (is_of_source fault.kind)
  where
    go : (b : Bool) → fault_name file news (cond b (CannotRead (k + 1)) (Refused (k + 1) (AtByte fault.offset fault.kind))) ≡ fault_name file olds (cond b (CannotRead (k + 1)) (Refused (k + 1) (AtByte fault.offset fault.kind)))
    go true = same_input_name file olds news same (k + 1)
    go false = same_input_name file olds news same (k + 1)
same_told file olds news same turns TooLong = refl
same_told file olds news same turns mix.NoMemory = refl

-- ---- recordings that are refused
makes_no_byte : (c : Conference) (o : Option Table) (n byte : ℕ) (kind : DumpKind) → makes c o ≡ Refuses n (AtByte byte kind) → ⊥
makes_no_byte c None n byte kind e = cc e
makes_no_byte c (Some table) n byte kind e = cc e

-- whatever comes behind the inputs
refused_too : (limit k : ℕ) (inputs : List (List ℕ)) (a b : Steps) (n byte : ℕ) (kind : DumpKind) → (a ≡ Refuses n (AtByte byte kind) → ⊥)
    → unless_one_broken limit k inputs a ≡ Refuses n (AtByte byte kind) → unless_one_broken limit k inputs b ≡ Refuses n (AtByte byte kind)
refused_too limit k [] a b n byte kind none e = absurd (none e)
refused_too limit k (octets ∷ more) a b n byte kind none e = go (dump limit octets).fault e (refused_too limit (suc k) more a b n byte kind none)
  where
    go : (o : Option dumps.Fault)
        → (elim o as (λ x. Steps) [ None ↦ unless_one_broken limit (suc k) more a | Some fault ↦ Refuses k (AtByte fault.byte fault.kind) ]) ≡ Refuses n (AtByte byte kind)
        → (unless_one_broken limit (suc k) more a ≡ Refuses n (AtByte byte kind) → unless_one_broken limit (suc k) more b ≡ Refuses n (AtByte byte kind))
        → (elim o as (λ x. Steps) [ None ↦ unless_one_broken limit (suc k) more b | Some fault ↦ Refuses k (AtByte fault.byte fault.kind) ]) ≡ Refuses n (AtByte byte kind)
    go None e rest = rest e
    go (Some fault) e rest = e

-- ---- a conference with other names and leavings
module _ (held : Contents) (c now : Conference) (same : HaveFilesOf c.legs now.legs) (limits : input_limit now ≡ input_limit c) where
  mixing_refused_too : (n byte : ℕ) (kind : DumpKind) → steps_of held c ≡ Refuses n (AtByte byte kind) → steps_of held now ≡ Refuses n (AtByte byte kind)
  mixing_refused_too n byte kind e =
      let inputs = inputs_under held c.legs in
      let table : Conference → Option Table = λ d. plain (setup d) d.tick d.turns (leg_chunks d (input_at inputs)) in
      ap (mixes now) (same_inputs held c.legs now.legs same)
      ∙ (ap (λ limit. unless_one_broken limit 1 inputs (makes now (table now))) limits
      ∙ refused_too (input_limit c) 1 inputs (makes c (table c)) (makes now (table now)) n byte kind (makes_no_byte c (table c) n byte kind) e)

  stops_too : (Told : Type 0) (Call Object : List ℕ → Type 0) (fault : MixFault) → fault ≢ TooLong → Stops Told Call Object held c fault → Stops Told Call Object held now fault
  stops_too Told Call Object (Open k) other s =
      let new = there c.legs now.legs same k s.0 s.1 in
      (new.0, new.1, subst Call (sym new.2.input) s.2, λ told. lie_too held c.legs now.legs same k (s.3 told))
  stops_too Told Call Object (Dump k fault) other s =
      let new = there c.legs now.legs same k s.0 s.1 in (
        new.0,
        new.1,
        record {
          lie = λ told. all_lie_too held c.legs now.legs same (s.2.lie told);
          read = λ is. subst Object (sym new.2.input) (s.2.read is);
          lowest = λ told j less.
              ap (λ (inputs : List (List ℕ)). (dump (input_limit now) (input_at inputs j)).fault) (same_inputs held c.legs now.legs same)
              ∙ (ap (λ limit. (dump limit (input_at (inputs_under held c.legs) j)).fault) limits ∙ s.2.lowest told j less);
          refused = λ is told. mixing_refused_too (k + 1) fault.offset fault.kind (s.2.refused is told);
        },
      )
  stops_too Told Call Object TooLong other s = absurd (other refl)
  stops_too Told Call Object mix.NoMemory other s = s

none_failed_too : (Told : Type 0) (olds news : List LegLine) → HaveFilesOf olds news → (before after : List ℕ → ℕ) (fault : MixFault)
    → NoneFailed Told olds before after (Err fault) → NoneFailed Told news before after (Err fault)
none_failed_too Told olds news same before after (Open k) none = none
none_failed_too Told olds news same before after (Dump k fault) none = λ told name reads. none told name (none_reads _ olds news name same reads)
none_failed_too Told olds news same before after TooLong none = none
none_failed_too Told olds news same before after mix.NoMemory none = none

-- the first that can't be opened is the first of these too
first_too : (Told : Type 0) (held : Contents) (olds news : List LegLine) → HaveFilesOf olds news → (before after : List ℕ → ℕ) (fault : MixFault)
    → IsFirst Told held olds before after fault → IsFirst Told held news before after fault
first_too Told held olds news same before after (Open k) first = λ told new at some name differs.
    let old = back olds news same k new at in
    first told old.0 old.1 (subst (λ n. IsSome (held n)) old.2.input some) name (λ e. differs (e ∙ sym old.2.input))
first_too Told held olds news same before after (Dump k fault) first = first
first_too Told held olds news same before after TooLong first = first
first_too Told held olds news same before after mix.NoMemory first = first

-- ---- the whole
-- the conference as its inputs tell, whatever is told of them
told_of : (WorldTells : Type 0) (held : Contents) (c : Conference) → IsToldOf WorldTells held c (named c (inputs_under held c.legs))
told_of WorldTells held c = record { says = says_of c (inputs_under held c.legs); is = refl; named = λ told. refl }

same_limit : (c now : Conference) → length now.legs ≡ length c.legs → input_limit now ≡ input_limit c
same_limit c now many = ap (λ n. if nat_lt PLACES n then MOST_INPUT_OF_MANY else usual_limit) many

pub unheard : (WorldTells OutTells : Type 0) (old new : Outside) (file octets : List ℕ) (c : Conference) (fault : MixFault) → (WorldTells → old.contents file ≡ Some octets) → conference_from Files octets ≡ Ok c
    → fault ≢ TooLong → Stops WorldTells (CallFailed old new) (ObjectFailed old new) old.contents c fault → NoneFailed WorldTells c.legs old.objects new.objects (Err fault)
    → IsFirst WorldTells old.contents c.legs old.calls new.calls fault → Unchanged WorldTells OutTells old new
    → Ends (Attend (record { conference = file })) WorldTells OutTells old new (ending_name file c.legs (Err (fault_of_mixing c.turns fault))) (Err (fault_of_mixing c.turns fault))
unheard WorldTells OutTells old new file octets c fault there_is read in_time stops none first u =
    let now = named c (inputs_under old.contents c.legs) in
    let is = told_of WorldTells old.contents c in
    let same = same_files_of WorldTells old.contents c now is in
    subst (λ name. Ends (Attend (record { conference = file })) WorldTells OutTells old new name (Err (fault_of_mixing c.turns fault))) (same_told file c.legs now.legs same c.turns fault)
    (stopped_mixing WorldTells OutTells old new file (Attend (record { conference = file })) now fault (attend_comes WorldTells old.contents file octets c now there_is read is)
    (stops_too old.contents c now same (same_limit c now (same_many c.legs now.legs same)) WorldTells (CallFailed old new) (ObjectFailed old new) fault in_time stops)
    (none_failed_too WorldTells c.legs now.legs same old.objects new.objects fault none) (first_too WorldTells old.contents c.legs now.legs same old.calls new.calls fault first) u)

-- Work on one recording, and work on a script.
use Rattle.std.proofs.Common.{◌≡◌, ℕ, ◌+◌, true, Option, Some, None, List, [], Ok, Err, refl, ap, sym, subst, ◌∙◌, arith}
use Rattle.std.specs.Prelude.{IfErr, OnOk, OnErr}
use Rattle.wire_spec.specs.declared.faults.DumpKind.{DumpKind}
use Rattle.wire_spec.specs.Dump as dumps
use Rattle.command_spec.specs.declared.faults.Refusal.{Refusal}
use Rattle.command_spec.specs.declared.faults.Refusal.TheVariants.{AtByte, AtFrame, AtLine, AtTrunk, AfterTurns}
use Rattle.command_spec.specs.declared.faults.Fault.{Fault}
use Rattle.command_spec.specs.declared.faults.Fault.TheVariants.{WrongWords, CannotOpen, CannotRead, Refused, CannotPrint, CannotWrite, LinkFailed, NoMemory}
use Rattle.rtt_words.specs.Words.{Command}
use Rattle.command_spec.specs.Work.{Contents, Made, Steps, Reads, Refuses, Makes, Serves, IsInput}
use Rattle.command_spec.specs.Outcomes.{outcome, outcome_from, Missing, Done, IsDone, Same, Stores, AllStored}
use Rattle.command_spec.specs.Outcomes as outcomes
use Rattle.rtt_words.specs.Tasks.{unless_broken, prints_unless, work}
use Rattle.command_spec.specs.Messages.{Ending}
use Rattle.rtt_top.specs.Faults.{WhereRead, RefusesSo, Stops, IsUnread, IsOfByte, IsOfRecording, IsTrueOf, is_recording, name_in}
use Rattle.rtt_top.specs.Outside.{Outside, Failed, ObjectFailed, OpenFailed}
use Rattle.rtt_top.specs.Runs.{Prints, PrintsFront, Unchanged, Ends, NoneFailedBefore, outcome_of}
use Rattle.rtt_top.proofs.Before.{none_before_first}

-- ---- the outcome, where the first input lies there
pub lies : (held : Contents) (name : List ℕ) (next : List ℕ → Steps) (octets : List ℕ) → held name ≡ Some octets
    → outcome held (Reads name next) ≡ outcome_from 1 held (next octets)
lies held name next octets e =
    let P : Option (List ℕ) → outcomes.Outcome = λ o. elim o [ None ↦ Missing 0 | Some octets ↦ outcome_from 1 held (next octets) ] in
    ap P e

-- ---- what is refused of some octets is refused where these lie there
refuses : (input : ℕ) (refusal : Refusal) (n : ℕ) (other : Refusal) → n ≡ input → other ≡ refusal → outcomes.Refused n other ≡ outcomes.Refused input refusal
refuses input refusal n other e f = ap (λ k. outcomes.Refused k other) e ∙ ap (λ r. outcomes.Refused input r) f

refused_from : (WorldTells : Type 0) (held : Contents) (k : ℕ) (steps : Steps) (input : ℕ) (refusal : Refusal) → WorldTells
    → RefusesSo WorldTells held steps input refusal → outcome_from k held steps ≡ outcomes.Refused input refusal
refused_from WorldTells held k (Reads name next) input refusal told r =
    let P : Option (List ℕ) → outcomes.Outcome = λ o. elim o [ None ↦ Missing k | Some octets ↦ outcome_from (k + 1) held (next octets) ] in
    ap P (r.1 told) ∙ refused_from WorldTells held (k + 1) (next r.0) input refusal told r.2
refused_from WorldTells held k (Refuses n other) input refusal told r = refuses input refusal n other r.0 r.1
refused_from WorldTells held k (Makes printed files) input refusal told r = absurd r
refused_from WorldTells held k (Serves c) input refusal told r = absurd r

pub refused_outcome : (WorldTells : Type 0) (held : Contents) (steps : Steps) (input : ℕ) (refusal : Refusal) → WorldTells
    → RefusesSo WorldTells held steps input refusal → outcome held steps ≡ outcomes.Refused input refusal
refused_outcome WorldTells held steps input refusal told r = refused_from WorldTells held 0 steps input refusal told r

-- of these octets it is refused
pub refuses_of : (WorldTells : Type 0) (held : Contents) (name : List ℕ) (next : List ℕ → Steps) (input : ℕ) (refusal : Refusal) (octets : List ℕ)
    → (WorldTells → held name ≡ Some octets) → next octets ≡ Refuses input refusal → RefusesSo WorldTells held (Reads name next) input refusal
refuses_of WorldTells held name next input refusal octets lie e =
    (octets, lie, subst (λ s. RefusesSo WorldTells held s input refusal) (sym e) (refl, refl))

-- ---- the first input could not be read
pub unread : (WorldTells : Type 0) (held : Contents) (c : Command) (Call Object : Type 0) (fault : Fault)
    → IsUnread Call Object fault → Stops WorldTells held c Call Object fault
unread WorldTells held c Call Object WrongWords u = u
unread WorldTells held c Call Object (CannotOpen n) u = u
unread WorldTells held c Call Object (CannotRead n) u = u
unread WorldTells held c Call Object (Refused n refusal) u = absurd u
unread WorldTells held c Call Object CannotPrint u = u
unread WorldTells held c Call Object (CannotWrite n) u = u
unread WorldTells held c Call Object (LinkFailed leg) u = u
unread WorldTells held c Call Object NoMemory u = tt

-- ---- a recording
broken_recording : (held : Contents) (file : List ℕ) (fault_of : List ℕ → Option dumps.Fault) (then : List ℕ → Steps) (octets : List ℕ) (byte : ℕ) (kind : DumpKind) → held file ≡ Some octets
    → IsOfByte (fault_of octets) (AtByte byte kind) → outcome held (Reads file (λ octets. unless_broken (fault_of octets) (then octets))) ≡ outcomes.Refused 0 (AtByte byte kind)
broken_recording held file fault_of then octets byte kind e found =
    lies held file (λ octets. unless_broken (fault_of octets) (then octets)) octets e
    ∙ ap (λ o. outcome_from 1 held (unless_broken o (then octets))) found

-- where its octets have such a fault, or else come to these steps
pub stops_unless : (WorldTells : Type 0) (held : Contents) (c : Command) (file : List ℕ) (fault_of : List ℕ → Option dumps.Fault) (then : List ℕ → Steps) (Call Object : Type 0) (fault : Fault)
    → (work c).steps ≡ Reads file (λ octets. unless_broken (fault_of octets) (then octets)) → is_recording c 0 ≡ true
    → IsOfRecording Object fault → (WorldTells → (octets : List ℕ) × (held file ≡ Some octets) × IsTrueOf (fault_of octets) fault)
    → Stops WorldTells held c Call Object fault
stops_unless WorldTells held c file fault_of then Call Object WrongWords is rec u t = u
stops_unless WorldTells held c file fault_of then Call Object (CannotOpen n) is rec u t = absurd u
stops_unless WorldTells held c file fault_of then Call Object (CannotRead n) is rec u t = u
stops_unless WorldTells held c file fault_of then Call Object (Refused n (AtByte byte kind)) is rec u t = (
  u,
  rec,
  λ told. let h = t told in ap (outcome held) is ∙ broken_recording held file fault_of then h.0 byte kind h.1 h.2,
)
stops_unless WorldTells held c file fault_of then Call Object (Refused n (AtFrame byte kind)) is rec u t = absurd u
stops_unless WorldTells held c file fault_of then Call Object (Refused n (AtLine line kind)) is rec u t = absurd u
stops_unless WorldTells held c file fault_of then Call Object (Refused n (AtTrunk line)) is rec u t = absurd u
stops_unless WorldTells held c file fault_of then Call Object (Refused n (AfterTurns turns)) is rec u t = u
stops_unless WorldTells held c file fault_of then Call Object CannotPrint is rec u t = u
stops_unless WorldTells held c file fault_of then Call Object (CannotWrite n) is rec u t = u
stops_unless WorldTells held c file fault_of then Call Object (LinkFailed leg) is rec u t = u
stops_unless WorldTells held c file fault_of then Call Object NoMemory is rec u t = tt

pub views_unless : (held : Contents) (file : List ℕ) (fault_of : List ℕ → Option dumps.Fault) (view : List ℕ → List ℕ) (octets : List ℕ) → held file ≡ Some octets → fault_of octets ≡ None
    → outcome held (prints_unless fault_of file view).steps ≡ Done (view octets) []
views_unless held file fault_of view octets e none =
    lies held file (λ octets. unless_broken (fault_of octets) (Makes (view octets) [])) octets e
    ∙ ap (λ o. outcome_from 1 held (unless_broken o (Makes (view octets) []))) none

-- ---- a command that stops over its first input, of this name
first_input : (WorldTells : Type 0) (held : Contents) (steps : Steps) (n : ℕ) (name : List ℕ) → n ≡ 0 → IsInput WorldTells held steps 0 name → IsInput WorldTells held steps n name
first_input WorldTells held steps n name e i = subst (λ k. IsInput WorldTells held steps k name) (sym e) i

none_failed_first : (c : Command) (WorldTells : Type 0) (old new : Outside) (n : ℕ) → n ≡ 0 → NoneFailedBefore n c WorldTells old new
none_failed_first c WorldTells old new n e k name less i later = absurd (omega (arith, e, less))

pub stopped : (c : Command) (WorldTells OutTells : Type 0) (old new : Outside) (input output : List ℕ) (fault : Fault)
    → IsInput WorldTells old.contents (work c).steps 0 input
    → Stops WorldTells old.contents c (OpenFailed WorldTells old new input) (ObjectFailed old new input) fault → Unchanged WorldTells OutTells old new
    → Ends c WorldTells OutTells old new (name_in input output (Err fault)) (Err fault)
stopped c WorldTells OutTells old new input output WrongWords i s u = absurd s
stopped c WorldTells OutTells old new input output (CannotOpen n) i s u = (first_input WorldTells old.contents (work c).steps n input s.0 i, s.1, u)
stopped c WorldTells OutTells old new input output (CannotRead n) i s u =
    (first_input WorldTells old.contents (work c).steps n input s.0 i, s.1, (λ told. (none_before_first n (outcome_of c old) s.0, none_failed_first c WorldTells old new n s.0)), u)
stopped c WorldTells OutTells old new input output (Refused n (AtLine line kind)) i s u = (
  first_input WorldTells old.contents (work c).steps n input s.0 i,
  subst (λ k. RefusesSo WorldTells old.contents (work c).steps k (AtLine line kind)) (sym s.0) s.1,
  u,
)
stopped c WorldTells OutTells old new input output (Refused n (AtByte byte kind)) i s u = (
  first_input WorldTells old.contents (work c).steps n input s.0 i,
  subst (λ k. is_recording c k ≡ true) (sym s.0) s.1,
  (λ told. (s.2 told ∙ ap (λ k. outcomes.Refused k (AtByte byte kind)) (sym s.0), none_failed_first c WorldTells old new n s.0)),
  u,
)
stopped c WorldTells OutTells old new input output (Refused n (AtFrame byte kind)) i s u = (
  first_input WorldTells old.contents (work c).steps n input s.0 i,
  s.1,
  (λ told. (s.2 told ∙ ap (λ k. outcomes.Refused k (AtFrame byte kind)) (sym s.0), none_failed_first c WorldTells old new n s.0)),
  u,
)
stopped c WorldTells OutTells old new input output (Refused n (AtTrunk line)) i s u = absurd s
stopped c WorldTells OutTells old new input output (Refused n (AfterTurns turns)) i s u = absurd s
stopped c WorldTells OutTells old new input output CannotPrint i s u = absurd s
stopped c WorldTells OutTells old new input output (CannotWrite n) i s u = absurd s
stopped c WorldTells OutTells old new input output (LinkFailed leg) i s u = absurd s
stopped c WorldTells OutTells old new input output NoMemory i s u = u

-- ---- a command that prints
pub done : (o : outcomes.Outcome) (printed : List ℕ) (files : List Made) (P : List ℕ → List Made → Type 0) → o ≡ Done printed files → P printed files → IsDone o P
done o printed files P e p = subst (λ q. IsDone q P) (sym e) p

pub printed : (c : Command) (WorldTells OutTells : Type 0) (old new : Outside) (input output view : List ℕ) (res : Ending) → (work c).prints ≡ true
    → (WhereRead (work c).steps WorldTells → outcome old.contents (work c).steps ≡ Done view []) → (WorldTells → Same old.contents new.contents)
    → IfErr res (λ fault. fault ≡ CannotPrint) → OnErr res (Failed old.out new.out) → (OutTells → OnOk res (Prints view old new)) → (OutTells → OnErr res (PrintsFront view old new))
    → Ends c WorldTells OutTells old new (name_in input output res) res
printed c WorldTells OutTells old new input output view (Ok u) prints is_view same fault cause whole partly =
    λ told. done (outcome_of c old) view [] (λ printed files. (WorldTells → AllStored files old.contents new.contents) × (OutTells → Prints printed old new)) (is_view told) (same, whole)
printed c WorldTells OutTells old new input output view (Err f) prints is_view same fault cause whole partly =
    let P : Fault → Type 0 = λ f. Ends c WorldTells OutTells old new (name_in input output (Err f)) (Err f) in
    subst P (sym fault)
    (prints, cause, λ told. done (outcome_of c old) view [] (λ printed files. (WorldTells → AllStored files old.contents new.contents) × (OutTells → PrintsFront printed old new)) (is_view told) (same, partly))

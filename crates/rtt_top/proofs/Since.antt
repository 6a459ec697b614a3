-- A command whose first part changed nothing outside ends as its second part does.
use Rattle.std.proofs.Common.{◌≡◌, ℕ, zero, suc, ◌+◌, true, Option, Some, None, List, ◌++◌, length, take, Ok, Err, refl, ap, sym, subst, ◌∙◌}
use Rattle.std.specs.Prelude.{IsSome}
use Rattle.file_spec.specs.Conference.{Conference}
use Rattle.command_spec.specs.declared.faults.Refusal.{Refusal}
use Rattle.command_spec.specs.declared.faults.Refusal.TheVariants.{AtByte, AtFrame, AtLine, AtTrunk, AfterTurns}
use Rattle.command_spec.specs.declared.faults.Fault.TheVariants.{WrongWords, CannotOpen, CannotRead, Refused, CannotPrint, CannotWrite, LinkFailed, NoMemory}
use Rattle.rtt_words.specs.Words.{Command}
use Rattle.rtt_words.specs.Tasks.{work}
use Rattle.command_spec.specs.Work.{Contents, Made, Steps, Reads, Refuses, Makes, Serves, IsInput, IsOutput, ServesSome}
use Rattle.command_spec.specs.Outcomes.{Outcome, Missing, outcome, outcome_from, IsDone, Same, AllStored}
use Rattle.command_spec.specs.Outcomes as outcomes
use Rattle.command_spec.specs.Messages.{Ending}
use Rattle.file_spec.specs.declared.conference_lines.LegLine.{LegLine}
use Rattle.command_spec.specs.Inputs.{LieBelow}
use Rattle.rtt_mix.specs.Mixes.{steps_of}
use Rattle.rtt_top.specs.Conferences.{ComesToMixing, MakesOutputs, steps_counted}
use Rattle.rtt_top.specs.Faults.{NoneBefore, RefusesSo, WhereRead, has_frames, is_recording, name_in}
use Rattle.rtt_top.specs.Outside.{Outside, Output, Failed, CallFailed, ObjectFailed}
use Rattle.rtt_top.specs.Ports.{LegFailed}
use Rattle.rtt_top.specs.Runs.{Prints, PrintsFront, Unchanged, PartlyStored, Ends, IsInputOf, NoneFailed, NoneFailedBefore, outcome_of}
use Rattle.rtt_top.proofs.Counts.{rose_since}
use Rattle.rtt_top.proofs.Bridging.{IsBetween, all_stored_since, partly_since}
use Rattle.wire_spec.proofs.Plain.{either}
use Rattle.command_spec.proofs.Plain.{done_map}

-- ---- files
input_since : (WorldTells : Type 0) (old mid : Contents) → (WorldTells → Same old mid) → (steps : Steps) (n : ℕ) (file : List ℕ) → IsInput WorldTells mid steps n file → IsInput WorldTells old steps n file
input_since WorldTells old mid same (Reads name next) zero file i = i
input_since WorldTells old mid same (Reads name next) (suc n) file i =
    (i.0, (λ told. sym (same told name) ∙ i.1 told), input_since WorldTells old mid same (next i.0) n file i.2)
input_since WorldTells old mid same (Refuses input refusal) n file i = absurd i
input_since WorldTells old mid same (Makes printed files) n file i = absurd i
input_since WorldTells old mid same (Serves c) n file i = absurd i

output_since : (WorldTells : Type 0) (old mid : Contents) → (WorldTells → Same old mid) → (steps : Steps) (n : ℕ) (file : List ℕ) → IsOutput WorldTells mid steps n file → IsOutput WorldTells old steps n file
output_since WorldTells old mid same (Reads name next) n file i =
    (i.0, (λ told. sym (same told name) ∙ i.1 told), output_since WorldTells old mid same (next i.0) n file i.2)
output_since WorldTells old mid same (Refuses input refusal) n file i = absurd i
output_since WorldTells old mid same (Makes printed files) n file i = i
output_since WorldTells old mid same (Serves c) n file i = absurd i

serves_since : (WorldTells : Type 0) (old mid : Contents) → (WorldTells → Same old mid) → (steps : Steps) (P : Conference → Type 0) → ServesSome WorldTells mid steps P → ServesSome WorldTells old steps P
serves_since WorldTells old mid same (Reads name next) P s =
    (s.0, (λ told. sym (same told name) ∙ s.1 told), serves_since WorldTells old mid same (next s.0) P s.2)
serves_since WorldTells old mid same (Refuses input refusal) P s = absurd s
serves_since WorldTells old mid same (Makes printed files) P s = absurd s
serves_since WorldTells old mid same (Serves c) P s = s

-- ---- outcomes
outcome_since : (old mid : Contents) → Same old mid → (n : ℕ) (steps : Steps) → outcome_from n mid steps ≡ outcome_from n old steps
outcome_since old mid same n (Reads name next) =
    let P : Option (List ℕ) → Outcome = λ o. elim o [ None ↦ Missing n | Some octets ↦ outcome_from (n + 1) mid (next octets) ] in
    ap P (same name) ∙ go (old name) (λ octets. outcome_since old mid same (n + 1) (next octets))
  where
    go : (o : Option (List ℕ)) → ((octets : List ℕ) → outcome_from (n + 1) mid (next octets) ≡ outcome_from (n + 1) old (next octets))
        → (let P : Option (List ℕ) → Outcome = λ o. elim o [ None ↦ Missing n | Some octets ↦ outcome_from (n + 1) mid (next octets) ] in
        let Q : Option (List ℕ) → Outcome = λ o. elim o [ None ↦ Missing n | Some octets ↦ outcome_from (n + 1) old (next octets) ] in P o ≡ Q o)
    go None more = refl
    go (Some octets) more = more octets
outcome_since old mid same n (Refuses input refusal) = refl
outcome_since old mid same n (Makes printed files) = refl
outcome_since old mid same n (Serves c) = refl

outcome_where : (WorldTells : Type 0) (old mid : Contents) → (WorldTells → Same old mid) → (steps : Steps) → WhereRead steps WorldTells → outcome mid steps ≡ outcome old steps
outcome_where WorldTells old mid same (Reads name next) t = outcome_since old mid (same t) 0 (Reads name next)
outcome_where WorldTells old mid same (Refuses input refusal) t = refl
outcome_where WorldTells old mid same (Makes printed files) t = refl
outcome_where WorldTells old mid same (Serves c) t = refl

done_where : (WorldTells : Type 0) (old mid : Contents) (steps : Steps) (P Q : List ℕ → List Made → Type 0) → (WorldTells → Same old mid) → WhereRead steps WorldTells → ((printed : List ℕ) (files : List Made) → P printed files → Q printed files)
    → IsDone (outcome mid steps) P → IsDone (outcome old steps) Q
done_where WorldTells old mid steps P Q same t f d = subst (λ o. IsDone o Q) (outcome_where WorldTells old mid same steps t) (done_map (outcome mid steps) P Q f d)

done_since : (old mid : Contents) (steps : Steps) (P Q : List ℕ → List Made → Type 0) → Same old mid → ((printed : List ℕ) (files : List Made) → P printed files → Q printed files)
    → IsDone (outcome mid steps) P → IsDone (outcome old steps) Q
done_since old mid steps P Q same f d = subst (λ o. IsDone o Q) (outcome_since old mid same 0 steps) (done_map (outcome mid steps) P Q f d)

-- what comes to a mixing does so where as much lies there
pub comes_since : (WorldTells : Type 0) (old mid : Contents) → (WorldTells → Same old mid) → (command : Command) (c : Conference) → ComesToMixing WorldTells old command c → ComesToMixing WorldTells mid command c
comes_since WorldTells old mid same command c m = record {
  reads = m.reads;
  prints = m.prints;
  mixed = m.mixed;
  recordings = m.recordings;
  input = λ k leg at lie. input_since WorldTells mid old back (work command).steps (suc k) leg.input (m.input k leg at (λ told. lies_back told k (lie told)));
  output = λ lie makes n leg at. output_since WorldTells mid old back (work command).steps n leg.output
      (m.output (λ told. lies_back told (length c.legs) (lie told)) (λ told. let q = makes told in (q.0, q.1, ap (λ (held : Contents). steps_of held c) (path told) ∙ q.2)) n leg at);
  comes = λ told lie.
      outcome_since old mid (same told) 0 (work command).steps
      ∙ (m.comes told (lies_back told (length c.legs) lie) ∙ ap (λ (held : Contents). outcome_from (length c.legs + 1) held (steps_counted held c)) (path told));
}
  where
    back : WorldTells → Same mid old
    back told name = sym (same told name)

    path : WorldTells → old ≡ mid
    path told i name = sym (same told name) i

    lies_back : WorldTells → (n : ℕ) → LieBelow n mid c.legs → LieBelow n old c.legs
    lies_back told n lie k leg less at = subst (λ o. IsSome o) (same told leg.input) (lie k leg less at)

-- ---- ends
call_since : (WorldTells : Type 0) (old mid new : Outside) → IsBetween WorldTells old mid mid.contents mid.calls mid.objects → (name : List ℕ) → CallFailed mid new name → CallFailed old new name
call_since WorldTells old mid new b name r = rose_since (old.calls name) (mid.calls name) (new.calls name) (b.calls_rise name) r

object_since : (WorldTells : Type 0) (old mid new : Outside) → IsBetween WorldTells old mid mid.contents mid.calls mid.objects → (name : List ℕ) → ObjectFailed mid new name → ObjectFailed old new name
object_since WorldTells old mid new b name r = rose_since (old.objects name) (mid.objects name) (new.objects name) (b.objects_rise name) r

unchanged_since : (WorldTells OutTells : Type 0) (old mid new : Outside) → IsBetween WorldTells old mid mid.contents mid.calls mid.objects → mid.out ≡ old.out
    → Unchanged WorldTells OutTells mid new → Unchanged WorldTells OutTells old new
unchanged_since WorldTells OutTells old mid new b out u = (
  (λ shown. u.0 shown ∙ ap (λ (o : Output). o.octets) out),
  λ told name. u.1 told name ∙ b.same told name,
)

-- ---- what failed
input_back : (WorldTells : Type 0) (old mid : Contents) → (WorldTells → Same old mid) → (steps : Steps) (n : ℕ) (file : List ℕ) → IsInput WorldTells old steps n file → IsInput WorldTells mid steps n file
input_back WorldTells old mid same steps n file i = input_since WorldTells mid old (λ told name. sym (same told name)) steps n file i

none_before_since : (n : ℕ) (c : Command) (WorldTells : Type 0) (old mid new : Outside) → (WorldTells → Same old.contents mid.contents) → NoneFailed old mid
    → NoneFailedBefore n c WorldTells mid new → NoneFailedBefore n c WorldTells old new
none_before_since n c WorldTells old mid new same calm none k name less i later =
    none k name less (input_back WorldTells old.contents mid.contents same (work c).steps k name i)
    (λ m le j. later m le (input_since WorldTells old.contents mid.contents same (work c).steps m name j))
    ∙ calm name

-- the steps refuse so
refuses_since : (WorldTells : Type 0) (old mid : Contents) → (WorldTells → Same old mid) → (steps : Steps) (n : ℕ) (refusal : Refusal) → RefusesSo WorldTells mid steps n refusal → RefusesSo WorldTells old steps n refusal
refuses_since WorldTells old mid same (Reads name next) n refusal r =
    (r.0, (λ told. sym (same told name) ∙ r.1 told), refuses_since WorldTells old mid same (next r.0) n refusal r.2)
refuses_since WorldTells old mid same (Refuses input other) n refusal r = r
refuses_since WorldTells old mid same (Makes printed files) n refusal r = absurd r
refuses_since WorldTells old mid same (Serves c) n refusal r = absurd r

-- a command ends over octets of its input of this number, which are refused so; Kind says what is read there
abbrev EndsRefused : (Kind : Type 0) → Command → (WorldTells OutTells : Type 0) → Outside → Outside → List ℕ → ℕ → Refusal → Type 0
EndsRefused Kind c WorldTells OutTells old new name n refusal = IsInputOf c WorldTells old n name
    × Kind
    × (WorldTells → (outcome_of c old ≡ outcomes.Refused n refusal) × NoneFailedBefore n c WorldTells old new)
    × Unchanged WorldTells OutTells old new

refused_since : (Kind : Type 0) (c : Command) (WorldTells OutTells : Type 0) (old mid new : Outside) (name : List ℕ) (n : ℕ) (refusal : Refusal) → IsBetween WorldTells old mid mid.contents mid.calls mid.objects
    → mid.out ≡ old.out → NoneFailed old mid → EndsRefused Kind c WorldTells OutTells mid new name n refusal → EndsRefused Kind c WorldTells OutTells old new name n refusal
refused_since Kind c WorldTells OutTells old mid new name n refusal b out calm e = (
  input_since WorldTells old.contents mid.contents b.same (work c).steps n name e.0,
  e.1,
  (λ told. (
    sym (outcome_since old.contents mid.contents (b.same told) 0 (work c).steps) ∙ (e.2 told).0,
    none_before_since n c WorldTells old mid new b.same calm (e.2 told).1,
  )),
  unchanged_since WorldTells OutTells old mid new b out e.3,
)

pub ends_since : (c : Command) (WorldTells OutTells : Type 0) (old mid new : Outside) (name : List ℕ) (ending : Ending) → IsBetween WorldTells old mid mid.contents mid.calls mid.objects → mid.out ≡ old.out → mid.links ≡ old.links → NoneFailed old mid → ((name : List ℕ) → mid.calls name ≡ old.calls name)
    → Ends c WorldTells OutTells mid new name ending → Ends c WorldTells OutTells old new name ending
ends_since c WorldTells OutTells old mid new name (Ok u) b out left calm opened e = λ t.
    done_where WorldTells old.contents mid.contents (work c).steps
    (λ printed files. (WorldTells → AllStored files mid.contents new.contents) × (OutTells → Prints printed mid new))
    (λ printed files. (WorldTells → AllStored files old.contents new.contents) × (OutTells → Prints printed old new)) b.same t
    (λ printed files d. ((λ told. all_stored_since files old.contents mid.contents new.contents (b.same told) (d.0 told)), λ shown. d.1 shown ∙ ap (λ (o : Output). o.octets ++ printed) out)) (e t)
ends_since c WorldTells OutTells old mid new name (Err CannotPrint) b out left calm opened e = (
  e.0,
  subst (λ o. Failed o new.out) out e.1,
  λ t. done_where WorldTells old.contents mid.contents (work c).steps
      (λ printed files. (WorldTells → AllStored files mid.contents new.contents) × (OutTells → PrintsFront printed mid new))
      (λ printed files. (WorldTells → AllStored files old.contents new.contents) × (OutTells → PrintsFront printed old new)) b.same t
      (λ printed files d. (
        (λ told. all_stored_since files old.contents mid.contents new.contents (b.same told) (d.0 told)),
        λ shown. (let p = d.1 shown in (p.0, p.1 ∙ ap (λ (o : Output). o.octets ++ take p.0 printed) out)),
      )) (e.2 t),
)
ends_since c WorldTells OutTells old mid new name (Err (CannotWrite n)) b out left calm opened e = (
  output_since WorldTells old.contents mid.contents b.same (work c).steps n name e.0,
  either (CallFailed mid new name) (ObjectFailed mid new name) (CallFailed old new name) (ObjectFailed old new name) (call_since WorldTells old mid new b name) (object_since WorldTells old mid new b name) e.1,
  (λ shown. e.2 shown ∙ ap (λ (o : Output). o.octets) out),
  λ told. done_since old.contents mid.contents (work c).steps
      (λ printed files. PartlyStored (CallFailed mid new) (ObjectFailed mid new) n files mid.contents new.contents)
      (λ printed files. PartlyStored (CallFailed old new) (ObjectFailed old new) n files old.contents new.contents) (b.same told)
      (λ printed files p. partly_since (CallFailed old new) (ObjectFailed old new) (CallFailed mid new) (ObjectFailed mid new) n files old.contents mid.contents new.contents
      (call_since WorldTells old mid new b) (object_since WorldTells old mid new b) (b.same told) p) (e.3 told),
)
ends_since c WorldTells OutTells old mid new name (Err WrongWords) b out left calm opened e = absurd e
ends_since c WorldTells OutTells old mid new name (Err (CannotOpen n)) b out left calm opened e = (
  input_since WorldTells old.contents mid.contents b.same (work c).steps n name e.0,
  (call_since WorldTells old mid new b name e.1.0, λ told there other differs. e.1.1 told (subst (λ o. IsSome o) (sym (b.same told name)) there) other differs ∙ opened other),
  unchanged_since WorldTells OutTells old mid new b out e.2,
)
ends_since c WorldTells OutTells old mid new name (Err (CannotRead n)) b out left calm opened e = (
  input_since WorldTells old.contents mid.contents b.same (work c).steps n name e.0,
  object_since WorldTells old mid new b name e.1,
  (λ told. (
    subst (λ o. NoneBefore n o) (outcome_since old.contents mid.contents (b.same told) 0 (work c).steps) (e.2 told).0,
    none_before_since n c WorldTells old mid new b.same calm (e.2 told).1,
  )),
  unchanged_since WorldTells OutTells old mid new b out e.3,
)
ends_since c WorldTells OutTells old mid new name (Err (Refused n (AtLine line kind))) b out left calm opened e = (
  input_since WorldTells old.contents mid.contents b.same (work c).steps n name e.0,
  refuses_since WorldTells old.contents mid.contents b.same (work c).steps n (AtLine line kind) e.1,
  unchanged_since WorldTells OutTells old mid new b out e.2,
)
ends_since c WorldTells OutTells old mid new name (Err (Refused n (AtTrunk line))) b out left calm opened e = (
  input_since WorldTells old.contents mid.contents b.same (work c).steps n name e.0,
  refuses_since WorldTells old.contents mid.contents b.same (work c).steps n (AtTrunk line) e.1,
  unchanged_since WorldTells OutTells old mid new b out e.2,
)
ends_since c WorldTells OutTells old mid new name (Err (Refused n (AtByte byte kind))) b out left calm opened e =
    refused_since (is_recording c n ≡ true) c WorldTells OutTells old mid new name n (AtByte byte kind) b out calm e
ends_since c WorldTells OutTells old mid new name (Err (Refused n (AtFrame byte kind))) b out left calm opened e =
    refused_since (has_frames c ≡ true) c WorldTells OutTells old mid new name n (AtFrame byte kind) b out calm e
ends_since c WorldTells OutTells old mid new name (Err (Refused n (AfterTurns turns))) b out left calm opened e = (
  e.0,
  e.1,
  (λ t. sym (outcome_where WorldTells old.contents mid.contents b.same (work c).steps t) ∙ e.2 t),
  (λ file. e.3 file ∙ calm file),
  unchanged_since WorldTells OutTells old mid new b out e.4,
)
ends_since c WorldTells OutTells old mid new name (Err (LinkFailed leg)) b out left calm opened e = (
  e.0,
  subst (λ links. ServesSome WorldTells old.contents (work c).steps (λ conference. LegFailed conference leg name links new.links)) left
      (serves_since WorldTells old.contents mid.contents b.same (work c).steps (λ conference. LegFailed conference leg name mid.links new.links) e.1),
  unchanged_since WorldTells OutTells old mid new b out e.2,
)
ends_since c WorldTells OutTells old mid new name (Err NoMemory) b out left calm opened e = unchanged_since WorldTells OutTells old mid new b out e

-- ---- names
pub same_name : (name : List ℕ) (ending : Ending) → name_in name name ending ≡ name
same_name name (Ok u) = refl
same_name name (Err WrongWords) = refl
same_name name (Err (CannotOpen n)) = refl
same_name name (Err (CannotRead n)) = refl
same_name name (Err (Refused n refusal)) = refl
same_name name (Err CannotPrint) = refl
same_name name (Err (CannotWrite n)) = refl
same_name name (Err (LinkFailed leg)) = refl
same_name name (Err NoMemory) = refl

-- what makes outputs, by what lay there before
pub makes_since : (WorldTells : Type 0) (held then : Contents) (command : Command) (legs : List LegLine) (printed : List ℕ) (files : List Made) → (WorldTells → Same held then)
    → MakesOutputs WorldTells held command legs printed files → MakesOutputs WorldTells then command legs printed files
makes_since WorldTells held then command legs printed files same m = record {
  reads = m.reads;
  prints = m.prints;
  output = λ n leg at. output_since WorldTells then held (λ told name. sym (same told name)) (work command).steps n leg.output (m.output n leg at);
  comes = λ told. outcome_since held then (same told) 0 (work command).steps ∙ m.comes told;
}

-- What a run is, from how its command ends.
use Rattle.std.proofs.Common.{◌≡◌, ℕ, Option, Some, None, List, [], ◌++◌, Ok, Err, refl, ap, sym, subst, ◌∙◌, inl, inr}
use Rattle.wire_spec.specs.Dump.{dump, usual_limit}
use Rattle.wire_spec.specs.Dump as dumps
use Rattle.stream_spec.specs.History.{History, Lawful, Come}
use Rattle.rtt_io.specs.Fronts.{TakesFront}
use Rattle.file_spec.specs.Conference.{Conference}
use Rattle.command_spec.specs.declared.faults.Refusal.{Refusal}
use Rattle.command_spec.specs.declared.faults.Refusal.TheVariants.{AtByte, AtFrame, AtLine, AtTrunk, AfterTurns}
use Rattle.rtt_words.specs.Words.{ReadWords, Command, Read, Mix, Attend, Cascade}
use Rattle.command_spec.specs.declared.faults.Fault.{Fault}
use Rattle.command_spec.specs.declared.faults.Fault.TheVariants.{WrongWords, CannotOpen, CannotRead, Refused, CannotPrint, CannotWrite, LinkFailed, NoMemory}
use Rattle.command_spec.specs.Work.{Contents, Made, Steps, Reads, Refuses, Makes, Serves, IsInput}
use Rattle.command_spec.specs.Outcomes.{Outcome, Missing, Done, Served, outcome, outcome_from, IsDone, AllStored, Same}
use Rattle.command_spec.specs.Outcomes as outcomes
use Rattle.command_spec.specs.Reading.{arrivals_of, read_view, history_view}
use Rattle.rtt_words.specs.Tasks.{request_of, unless_broken, work}
use Rattle.command_spec.specs.Messages.{Ending, ending_of, status_of}
use Rattle.rtt_words.specs.Told.{message_of}
use Rattle.rtt_top.specs.Outside.{Outside, Output, Failed}
use Rattle.rtt_top.specs.Runs.{Prints, Ends, outcome_of, IsCalm, IsAsWorked, IsOfWords, IsMadeBy, Runs, HasStatus}
use Rattle.rtt_top.proofs.Statused.{of_fault}
use Rattle.command_spec.specs.Attending.{attending}
use Rattle.command_spec.specs.Cascading.{cascading}
use Rattle.command_spec.specs.Mixing.{mixing}
use Rattle.command_spec.proofs.AttendedHeadlines.{attended}
use Rattle.command_spec.proofs.CascadedHeadlines.{cascaded}
use Rattle.command_spec.proofs.Headlines.{bridged}
use Rattle.command_spec.proofs.Views.{same_view}
use Rattle.rtt_top.specs.Faults.{RefusesSo, WhereRead}
use Rattle.rtt_top.proofs.Working.{lies, refused_outcome}
use Rattle.rtt_top.proofs.Unserved.{attending_serves_none, cascading_serves_none, mixing_serves_none}

-- ---- where nothing outside failed
all_done : (o : Outcome) (P : List ℕ → List Made → Type 0) → IsDone o P → Ok tt ≡ ending_of o
all_done (Missing n) P d = absurd d
all_done (outcomes.Refused n refusal) P d = absurd d
all_done (Done printed files) P d = refl
all_done (Served c) P d = refl

-- where an input has this name, a file is read
where_input : (WorldTells : Type 0) (held : Contents) (steps : Steps) (n : ℕ) (name : List ℕ) → IsInput WorldTells held steps n name → WhereRead steps WorldTells → WorldTells
where_input WorldTells held (Reads file next) n name i t = t
where_input WorldTells held (Refuses input refusal) n name i t = absurd i
where_input WorldTells held (Makes printed files) n name i t = absurd i
where_input WorldTells held (Serves c) n name i t = absurd i

refused_where : (WorldTells : Type 0) (held : Contents) (steps : Steps) (n : ℕ) (refusal : Refusal) → WhereRead steps WorldTells → RefusesSo WorldTells held steps n refusal → outcome held steps ≡ outcomes.Refused n refusal
refused_where WorldTells held (Reads file next) n refusal t r = refused_outcome WorldTells held (Reads file next) n refusal t r
refused_where WorldTells held (Refuses input other) n refusal t r = ap (λ k. outcomes.Refused k other) r.0 ∙ ap (λ q. outcomes.Refused n q) r.1
refused_where WorldTells held (Makes printed files) n refusal t r = absurd r
refused_where WorldTells held (Serves c) n refusal t r = absurd r

as_worked : (c : Command) (WorldTells OutTells : Type 0) (old new : Outside) (name : List ℕ) (ending : Ending) → WhereRead (work c).steps WorldTells → Ends c WorldTells OutTells old new name ending
    → IsCalm (work c) WorldTells old new → IsAsWorked (work c) old ending
as_worked c WorldTells OutTells old new name (Ok u) told e calm = inl (all_done (outcome_of c old) _ (e told))
as_worked c WorldTells OutTells old new name (Err WrongWords) told e calm = absurd e
as_worked c WorldTells OutTells old new name (Err (CannotOpen n)) told e calm = absurd (calm.inputs n name e.0 (inl e.1.0))
as_worked c WorldTells OutTells old new name (Err (CannotRead n)) told e calm = absurd (calm.inputs n name e.0 (inr e.1))
as_worked c WorldTells OutTells old new name (Err (Refused n (AtLine line kind))) told e calm =
    inl (ap ending_of (sym (refused_where WorldTells old.contents (work c).steps n (AtLine line kind) told e.1)))
as_worked c WorldTells OutTells old new name (Err (Refused n (AtTrunk line))) told e calm =
    inl (ap ending_of (sym (refused_where WorldTells old.contents (work c).steps n (AtTrunk line) told e.1)))
as_worked c WorldTells OutTells old new name (Err (Refused n (AtByte byte kind))) told e calm =
    inl (ap ending_of (sym (e.2 (where_input WorldTells old.contents (work c).steps n name e.0 told)).0))
as_worked c WorldTells OutTells old new name (Err (Refused n (AtFrame byte kind))) told e calm =
    inl (ap ending_of (sym (e.2 (where_input WorldTells old.contents (work c).steps n name e.0 told)).0))
as_worked c WorldTells OutTells old new name (Err (Refused n (AfterTurns turns))) told e calm = inl (ap ending_of (sym (e.2 told)))
as_worked c WorldTells OutTells old new name (Err CannotPrint) told e calm = absurd (calm.output e.0 e.1)
as_worked c WorldTells OutTells old new name (Err (CannotWrite n)) told e calm = absurd (calm.outputs n name e.0 e.1)
as_worked c WorldTells OutTells old new name (Err (LinkFailed leg)) told e calm = absurd (calm.links leg name e.1)
as_worked c WorldTells OutTells old new name (Err NoMemory) told e calm = inr refl

-- ---- a lawful history
from_view : (held : Contents) (found : Option dumps.Fault) (view : List ℕ) (P : List ℕ → List Made → Type 0) → IsDone (outcome_from 1 held (unless_broken found (Makes view []))) P → P view []
from_view held None view P d = d
from_view held (Some fault) view P d = absurd d

viewed : (WorldTells OutTells : Type 0) (old new : Outside) (name : List ℕ) (h : History) → Lawful h → WorldTells → OutTells → (r : ReadWords) (octets view : List ℕ) → old.contents r.file ≡ Some octets
    → Come h (arrivals_of (request_of r) octets) → view ≡ history_view h (request_of r) octets → Ends (Read r) WorldTells OutTells old new name (Ok tt) → Prints view old new
viewed WorldTells OutTells old new name h law told shown r octets view held come is ends =
    let P : List ℕ → List Made → Type 0 = λ printed files. (WorldTells → AllStored files old.contents new.contents) × (OutTells → Prints printed old new) in
    let at = subst (λ o. IsDone o P) (lies old.contents r.file (λ octets. unless_broken (dump usual_limit octets).fault (Makes (read_view (request_of r) octets) [])) octets held) (ends told) in
    let p = from_view old.contents (dump usual_limit octets).fault (read_view (request_of r) octets) P at in
    p.1 shown ∙ ap (λ (v : List ℕ). old.out.octets ++ v) (same_view h law (request_of r) octets come ∙ sym is)

-- ---- a conference
is_done : (o : Outcome) (P : List ℕ → List Made → Type 0) → ((c : Conference) → o ≡ Served c → ⊥) → IsDone o P → (printed : List ℕ) × (files : List Made) × (o ≡ Done printed files) × P printed files
is_done (Missing n) P none d = absurd d
is_done (outcomes.Refused n refusal) P none d = absurd d
is_done (Done printed files) P none d = (printed, files, refl, d)
is_done (Served c) P none d = absurd (none c refl)

-- what a command makes of a conference
made : (c : Command) (WorldTells OutTells : Type 0) (old new : Outside) (name : List ℕ) → WorldTells → Ends c WorldTells OutTells old new name (Ok tt) → IsMadeBy c OutTells old new
made (Mix m) WorldTells OutTells old new name told e =
    let d = is_done (outcome old.contents (mixing m.conference)) (λ printed files. (WorldTells → AllStored files old.contents new.contents) × (OutTells → Prints printed old new)) (mixing_serves_none old.contents m.conference) (e told) in
    record { printed = d.0; prints = d.3.1; made = bridged old.contents new.contents m.conference d.0 d.1 d.2 (d.3.0 told) }
made (Attend m) WorldTells OutTells old new name told e =
    let d = is_done (outcome old.contents (attending m.conference)) (λ printed files. (WorldTells → AllStored files old.contents new.contents) × (OutTells → Prints printed old new)) (attending_serves_none old.contents m.conference) (e told) in
    record { printed = d.0; prints = d.3.1; made = attended old.contents new.contents m.conference d.0 d.1 d.2 (d.3.0 told) }
made (Cascade w) WorldTells OutTells old new name told e =
    let d = is_done (outcome old.contents (cascading w.conference w.file w.ssrc)) (λ printed files. (WorldTells → AllStored files old.contents new.contents) × (OutTells → Prints printed old new)) (cascading_serves_none old.contents w.conference w.file w.ssrc) (e told) in
    record { printed = d.0; prints = d.3.1; made = cascaded old.contents new.contents w.conference w.file w.ssrc d.0 d.1 d.2 (d.3.0 told) }
made _ WorldTells OutTells old new name told e = tt

the_same : (c : Command) (r : ReadWords) → Some c ≡ Some (Read r) → c ≡ Read r
the_same c r e = cc

pub runs : {c : Command} {WorldTells OutTells ErrTells : Type 0} {old new : Outside} {before after : Output} {status : ℕ} (ending : Ending) (name : List ℕ)
    → HasStatus (Some c) WorldTells old.contents ending status → Ends c WorldTells OutTells old new name ending → (ending ≡ Ok tt → after.octets ≡ before.octets)
    → (ErrTells → TakesFront before.octets after.octets (message_of name ending))
    → (ErrTells → (Failed before after → ⊥) → after.octets ≡ before.octets ++ message_of name ending) → Runs (Some c) WorldTells OutTells ErrTells old new before after status
runs {c} {WorldTells} {OutTells} {ErrTells} {old} {new} {before} {after} {status} ending name is ends silent front told = record {
  ending = ending;
  name = name;
  is_status = is;
  ends = ends;
  calm = λ d e t calm. subst (λ k. WhereRead (work k).steps WorldTells → IsCalm (work k) WorldTells old new → IsAsWorked (work k) old ending) (some_same c d e) (λ t calm. as_worked c WorldTells OutTells old new name ending t ends calm) t calm;
  kept = λ t s ok h law view v.
      let P : Command → Type 0 = λ k. Ends k WorldTells OutTells old new name ending in
      let Q : Ending → Type 0 = λ q. Ends (Read v.request) WorldTells OutTells old new name q in
      viewed WorldTells OutTells old new name h law t s v.request v.octets view v.lies v.come v.view_is (subst Q ok (subst P (the_same c v.request v.reads) ends));
  made = λ t ok d e.
      let Q : Ending → Type 0 = λ q. Ends c WorldTells OutTells old new name q in
      subst (λ k. IsMadeBy k OutTells old new) (some_same c d e) (made c WorldTells OutTells old new name t (subst Q ok ends));
  silent = silent;
  front = front;
  told = told;
}
  where
    some_same : (c d : Command) → Some c ≡ Some d → c ≡ d
    some_same c d e = cc

-- words outside the word table
pub no_words : (words : Option Command) (WorldTells OutTells ErrTells : Type 0) (old : Outside) (before after : Output) (status : ℕ) (fault : Fault) (name : List ℕ)
    → words ≡ None → IsOfWords (Err fault) → status ≡ status_of (Err fault)
    → (let none : Ending = Err fault in none ≡ Ok tt → after.octets ≡ before.octets)
    → (ErrTells → TakesFront before.octets after.octets (message_of name (Err fault)))
    → (ErrTells → (Failed before after → ⊥) → after.octets ≡ before.octets ++ message_of name (Err fault)) → Runs words WorldTells OutTells ErrTells old old before after status
no_words words WorldTells OutTells ErrTells old before after status fault name none is s silent front told =
    subst (λ w. Runs w WorldTells OutTells ErrTells old old before after status) (sym none) (let here : Runs None WorldTells OutTells ErrTells old old before after status = record {
      ending = Err fault;
      name = name;
      is_status = s;
      ends = (is, ((λ shown. refl), λ told name. refl));
      calm = λ c e. absurd (no_command c e);
      kept = λ t s ok h law view v. absurd (no_command (Read v.request) v.reads);
      made = λ t ok c e. absurd (no_command c e);
      silent = silent;
      front = front;
      told = told;
    } in here)
  where
    no_command : (c : Command) → let nothing : Option Command = None in nothing ≡ Some c → ⊥
    no_command c e = cc e

-- memory ran out before the words were read
pub no_memory : (words : Option Command) (WorldTells OutTells ErrTells : Type 0) (old : Outside) (before after : Output) (status : ℕ) (name : List ℕ) → status ≡ 70
    → (let none : Ending = Err NoMemory in none ≡ Ok tt → after.octets ≡ before.octets)
    → (ErrTells → TakesFront before.octets after.octets (message_of name (Err NoMemory)))
    → (ErrTells → (Failed before after → ⊥) → after.octets ≡ before.octets ++ message_of name (Err NoMemory)) → Runs words WorldTells OutTells ErrTells old old before after status
no_memory None WorldTells OutTells ErrTells old before after status name s silent front told = no_words None WorldTells OutTells ErrTells old before after status NoMemory name refl (inr refl) s silent front told
no_memory (Some c) WorldTells OutTells ErrTells old before after status name s silent front told =
    runs (Err NoMemory) name (of_fault c WorldTells old.contents NoMemory status s) ((λ shown. refl), λ told name. refl) silent front told

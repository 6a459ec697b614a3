-- What is told by what ports answer, and by what lies in files.
use Rattle.std.proofs.Common.{◌≡◌, ◌≤◌, ℕ, ◌+◌, Bool, true, false, true≢false, Option, Some, None, List, [], ◌++◌, take, Result, Ok, Err, refl, ap, sym, subst, ◌∙◌, arith}
use Rattle.std.specs.Prelude.{IfErr, IfOk, OnErr, OnOk, not}
use Rattle.rtt_io.specs.declared.worlds.World as worlds
use Rattle.file_spec.specs.declared.conference_lines.LegLine.{LegLine}
use Rattle.file_spec.specs.Conference.{Conference}
use Rattle.report_spec.specs.Checking as checking
use Rattle.report_spec.specs.Checking.{report}
use Rattle.report_spec.specs.Looks.{Look, Opens, Tells, Tries, links_in, look, look_in, look_over, steps_of, told_by, told_over}
use Rattle.report_spec.specs.Ports.{Answers, ports_told}
use Rattle.command_spec.specs.declared.faults.Refusal.TheVariants.{AtByte, AtFrame, AtLine, AtTrunk, AfterTurns}
use Rattle.command_spec.specs.declared.faults.Fault.{Fault}
use Rattle.command_spec.specs.declared.faults.Fault.TheVariants.{WrongWords, CannotOpen, CannotRead, Refused, CannotPrint, CannotWrite, LinkFailed, NoMemory}
use Rattle.command_spec.specs.Messages.{fault_status, status_of}
use Rattle.command_spec.specs.Outcomes.{Outcome, outcome, outcome_from, AllStored, IsDone, Missing, Same, Served}
use Rattle.command_spec.specs.Work.{Contents, Made}
use Rattle.rtt_words.specs.Words.{Command, Read, ListRecords, Send, Mix, Attend, Cascade, Make, Live, Watch, Relay, Channel, Show, Times, Script, Check, CheckWords, Help, Version}
use Rattle.rtt_words.specs.Tasks.{work}
use Rattle.rtt_top.specs.Faults.{Stops, is_check}
use Rattle.rtt_top.specs.Looks.{ending_of, or_found, IsBegunIn, IsUnreadWhere}
use Rattle.rtt_top.specs.Outside.{Failed, Output, Outside}
use Rattle.rtt_top.specs.Runs.{Ends, Prints, PrintsFront, found_status, outcome_of}
use Rattle.rtt_top.specs.Trials.{IsTold, RunsLook}
use Rattle.rtt_top.proofs.Looking.{front_is, same_told}

-- ---- a conference of links
module _ {W S D P : Type 0} (w : worlds.Ghosts W S D P) (world : W) (file octets : List ℕ) (told : checking.Report) (legs : List LegLine) (c : Conference) where
  pub tried_told : (answers : Answers) → IsBegunIn w world file octets told legs → links_in octets ≡ Some c → w.tells
      → told_over answers (w.contents world) (look file) ≡ Some (ports_told answers octets c told)
  tried_told answers b is t =
      let held = w.contents world in
      let read = b.0 t in
      let P : Option (List ℕ) → Option checking.Report = λ o. elim o [ None ↦ None | Some octets ↦ told_over answers held (look_in file octets) ] in
      ap P read.1
      ∙ (ap (told_over answers held) (front_is file octets read.0 read.2)
      ∙ (ap (λ (x : Option Conference). told_over answers held (look_over x octets (report file octets))) is
      ∙ ap (λ (r : checking.Report). Some (ports_told answers octets c r)) (sym b.1)))

  pub tried_alone : IsBegunIn w world file octets told legs → links_in octets ≡ Some c → w.tells → told_by (w.contents world) (look file) ≡ None
  tried_alone b is t =
      let held = w.contents world in
      let read = b.0 t in
      let P : Option (List ℕ) → Option checking.Report = λ o. elim o [ None ↦ None | Some octets ↦ told_by held (look_in file octets) ] in
      ap P read.1
      ∙ (ap (told_by held) (front_is file octets read.0 read.2)
      ∙ ap (λ (x : Option Conference). told_by held (look_over x octets (report file octets))) is)

  pub tried_outcome : IsBegunIn w world file octets told legs → links_in octets ≡ Some c → w.tells → outcome (w.contents world) (steps_of (look file)) ≡ Served c
  tried_outcome b is t =
      let held = w.contents world in
      let read = b.0 t in
      let Q : Option (List ℕ) → Outcome = λ o. elim o [ None ↦ Missing 0 | Some octets ↦ outcome_from 1 held (steps_of (look_in file octets)) ] in
      ap Q read.1
      ∙ (ap (λ (l : Look). outcome_from 1 held (steps_of l)) (front_is file octets read.0 read.2)
      ∙ ap (λ (x : Option Conference). outcome_from 1 held (steps_of (look_over x octets (report file octets)))) is)

served : (o : Outcome) (c : Conference) (printed : List ℕ) (P : List ℕ → List Made → Type 0) → o ≡ Served c → P printed [] → IsDone o P
served o c printed P e p = subst (λ q. IsDone q P) (sym e) (printed, p)

-- it ends so
pub tried_ends : (w : CheckWords) (WorldTells OutTells : Type 0) (old new : Outside) (text : List ℕ) (res : Result Bool Fault) (c : Conference)
    → (WorldTells → outcome_of (Check w) old ≡ Served c) → (WorldTells → Same old.contents new.contents)
    → IfErr res (λ fault. fault ≡ CannotPrint) → OnErr res (Failed old.out new.out) → (OutTells → OnOk res (Prints text old new)) → (OutTells → OnErr res (PrintsFront text old new))
    → Ends (Check w) WorldTells OutTells old new w.file (ending_of res)
tried_ends w WorldTells OutTells old new text (Ok taken) c is same fault cause whole partly =
    λ told. served (outcome_of (Check w) old) c text (λ printed files. (WorldTells → AllStored files old.contents new.contents) × (OutTells → Prints printed old new)) (is told) (same, whole)
tried_ends w WorldTells OutTells old new text (Err f) c is same fault cause whole partly =
    let P : Fault → Type 0 = λ f. Ends (Check w) WorldTells OutTells old new w.file (Err f) in
    subst P (sym fault)
    (refl, cause, λ told. served (outcome_of (Check w) old) c text (λ printed files. (WorldTells → AllStored files old.contents new.contents) × (OutTells → PrintsFront printed old new)) (is told) (same, partly))

-- files alone tell nothing of it
pub taken_none : (w : CheckWords) (WorldTells : Type 0) (held : Contents) (res : Result Bool Fault) → (WorldTells → told_by held (look w.file) ≡ None)
    → IfOk res (λ taken. WorldTells → (r : checking.Report) → told_by held (look w.file) ≡ Some r → taken ≡ r.taken)
taken_none w WorldTells held (Ok t) none = λ tells r here. absurd (cc (none tells, here))
taken_none w WorldTells held (Err f) none = tt

-- ---- what is told by files alone is told over whatever ports answer
pub over_alone : (answers : Answers) (held : Contents) (l : Look) (told : checking.Report) → told_by held l ≡ Some told → told_over answers held l ≡ Some told
over_alone answers held (Tells t) told e = e
over_alone answers held (Tries c tells) told e = absurd (cc e)
over_alone answers held (Opens name next) told e = go (held name) (λ octets f. over_alone answers held (next octets) told f) e
  where
    go : (o : Option (List ℕ)) → ((octets : List ℕ) → told_by held (next octets) ≡ Some told → told_over answers held (next octets) ≡ Some told)
        → (let P : Option (List ℕ) → Option checking.Report = λ o. elim o [ None ↦ None | Some octets ↦ told_by held (next octets) ] in P o ≡ Some told)
        → (let Q : Option (List ℕ) → Option checking.Report = λ o. elim o [ None ↦ None | Some octets ↦ told_over answers held (next octets) ] in Q o ≡ Some told)
    go None more e = absurd (cc e)
    go (Some octets) more e = more octets e

-- ---- the status
found_same : (t taken : Bool) → found_status t ≡ or_found (Ok taken) 0 → t ≡ taken
found_same true true e = refl
found_same true false e = absurd (omega (arith, e))
found_same false true e = absurd (omega (arith, e))
found_same false false e = refl

found_few : (t : Bool) → found_status t ≤ 1
found_few true = omega arith
found_few false = omega arith

few : (t : Bool) → or_found (Ok t) 0 ≤ 1
few true = omega arith
few false = omega arith

-- no fault has the status of a look
more_up : (f : Fault) → 2 ≤ fault_status f
more_up WrongWords = omega arith
more_up (CannotOpen n) = omega arith
more_up (CannotRead n) = omega arith
more_up (Refused n (AtLine line kind)) = omega arith
more_up (Refused n (AtTrunk line)) = omega arith
more_up (Refused n (AtByte byte kind)) = omega arith
more_up (Refused n (AtFrame byte kind)) = omega arith
more_up (Refused n (AfterTurns turns)) = omega arith
more_up CannotPrint = omega arith
more_up (CannotWrite n) = omega arith
more_up (LinkFailed leg) = omega arith
more_up NoMemory = omega arith

never_found : (f : Fault) (t : Bool) (status : ℕ) → status ≡ fault_status f → status ≡ found_status t → ⊥
never_found f t status is e = omega (arith, more_up f, found_few t, is, e)

pub is_told : (told : checking.Report) (OutTells : Type 0) (before after : Output) (res : Result Bool Fault) (status : ℕ) → status ≡ or_found res (status_of (ending_of res))
    → IfOk res (λ taken. taken ≡ told.taken) → (OutTells → OnOk res (after.octets ≡ before.octets ++ told.text))
    → (OutTells → OnErr res ((n : ℕ) × (after.octets ≡ before.octets ++ take n told.text))) → IsTold told OutTells before after status
is_told told OutTells before after (Ok t) status is taken whole partly = record {
  taken = λ u e. found_same u t (sym e ∙ is) ∙ taken;
  whole = λ u e. whole;
  front = λ e. absurd (omega (arith, few t, is, e));
}
is_told told OutTells before after (Err f) status is taken whole partly = record {
  taken = λ u e. absurd (never_found f u status is e);
  whole = λ u e. absurd (never_found f u status is e);
  front = λ e. partly;
}

-- where this is told, that is what is told
pub told_so : (w : CheckWords) (WorldTells OutTells PortsTell : Type 0) (answers : Answers) (held : Contents) (before after : Output) (told : checking.Report) (status : ℕ)
    → (WorldTells → PortsTell → told_over answers held (look w.file) ≡ Some told) → IsTold told OutTells before after status
    → RunsLook (Some (Check w)) WorldTells OutTells PortsTell answers held before after status
told_so w WorldTells OutTells PortsTell answers held before after told status is so =
    λ t p r here. subst (λ (x : checking.Report). IsTold x OutTells before after status) (same_told here (is t p)) so

-- nothing was told
untold : (told : checking.Report) (OutTells : Type 0) (before after : Output) (f : Fault) (status : ℕ) → status ≡ fault_status f → (fault_status f ≡ 7 → ⊥) → IsTold told OutTells before after status
untold told OutTells before after f status is none = record {
  taken = λ u e. absurd (never_found f u status is e);
  whole = λ u e. absurd (never_found f u status is e);
  front = λ e. absurd (none (sym is ∙ e));
}

-- where the file could not be read, or an IN
stops_unprinted : (WorldTells : Type 0) (held : Contents) (c : Command) (Call Object : Type 0) (f : Fault) → Stops WorldTells held c Call Object f → fault_status f ≡ 7 → ⊥
stops_unprinted WorldTells held c Call Object WrongWords s e = s
stops_unprinted WorldTells held c Call Object (CannotOpen n) s e = omega (arith, e)
stops_unprinted WorldTells held c Call Object (CannotRead n) s e = omega (arith, e)
stops_unprinted WorldTells held c Call Object (Refused n (AtLine line kind)) s e = omega (arith, e)
stops_unprinted WorldTells held c Call Object (Refused n (AtTrunk line)) s e = omega (arith, e)
stops_unprinted WorldTells held c Call Object (Refused n (AtByte byte kind)) s e = omega (arith, e)
stops_unprinted WorldTells held c Call Object (Refused n (AtFrame byte kind)) s e = omega (arith, e)
stops_unprinted WorldTells held c Call Object (Refused n (AfterTurns turns)) s e = omega (arith, e)
stops_unprinted WorldTells held c Call Object CannotPrint s e = s
stops_unprinted WorldTells held c Call Object (CannotWrite n) s e = s
stops_unprinted WorldTells held c Call Object (LinkFailed leg) s e = omega (arith, e)
stops_unprinted WorldTells held c Call Object NoMemory s e = omega (arith, e)

unread_unprinted : {W S D P : Type 0} (w : worlds.Ghosts W S D P) (Is : ℕ → Type 0) (old new : W) (name : List ℕ) (f : Fault) → IsUnreadWhere w Is old new name f → fault_status f ≡ 7 → ⊥
unread_unprinted w Is old new name WrongWords u e = u
unread_unprinted w Is old new name (CannotOpen n) u e = omega (arith, e)
unread_unprinted w Is old new name (CannotRead n) u e = omega (arith, e)
unread_unprinted w Is old new name (Refused n refusal) u e = absurd u
unread_unprinted w Is old new name CannotPrint u e = u
unread_unprinted w Is old new name (CannotWrite n) u e = u
unread_unprinted w Is old new name (LinkFailed leg) u e = omega (arith, e)
unread_unprinted w Is old new name NoMemory u e = omega (arith, e)

pub stopped_untold : (w : CheckWords) (WorldTells OutTells PortsTell Call Object : Type 0) (answers : Answers) (held : Contents) (before after : Output) (f : Fault) (status : ℕ)
    → Stops WorldTells held (Check w) Call Object f → status ≡ fault_status f → RunsLook (Some (Check w)) WorldTells OutTells PortsTell answers held before after status
stopped_untold w WorldTells OutTells PortsTell Call Object answers held before after f status s is =
    λ t p r here. untold r OutTells before after f status is (stops_unprinted WorldTells held (Check w) Call Object f s)

pub unread_untold : {W S D P : Type 0} (g : worlds.Ghosts W S D P) (Is : ℕ → Type 0) (old new : W) (name : List ℕ) (w : CheckWords) (OutTells PortsTell : Type 0) (answers : Answers) (before after : Output) (f : Fault) (status : ℕ)
    → IsUnreadWhere g Is old new name f → status ≡ fault_status f → RunsLook (Some (Check w)) g.tells OutTells PortsTell answers (g.contents old) before after status
unread_untold g Is old new name w OutTells PortsTell answers before after f status u is =
    λ t p r here. untold r OutTells before after f status is (unread_unprinted g Is old new name f u)

pub memory_untold : (w : CheckWords) (WorldTells OutTells PortsTell : Type 0) (answers : Answers) (held : Contents) (before after : Output) (status : ℕ)
    → status ≡ 70 → RunsLook (Some (Check w)) WorldTells OutTells PortsTell answers held before after status
memory_untold w WorldTells OutTells PortsTell answers held before after status is =
    λ t p r here. untold r OutTells before after NoMemory status is (λ e. omega (arith, e))

-- ---- of another command nothing is, nor where memory ran out before the words were told apart
module _ (WorldTells OutTells PortsTell : Type 0) (answers : Answers) (held : Contents) (before after : Output) (status : ℕ) where
  pub other_untold : (c : Command) → is_check c ≡ false → RunsLook (Some c) WorldTells OutTells PortsTell answers held before after status
  other_untold (Read r) off = tt
  other_untold (ListRecords l) off = tt
  other_untold (Send s) off = tt
  other_untold (Mix m) off = tt
  other_untold (Attend m) off = tt
  other_untold (Cascade d) off = tt
  other_untold (Make m) off = tt
  other_untold (Live m) off = tt
  other_untold (Watch m) off = tt
  other_untold (Relay s) off = tt
  other_untold (Channel d) off = tt
  other_untold (Show l) off = tt
  other_untold (Times l) off = tt
  other_untold (Script r) off = tt
  other_untold (Check w) off = absurd (true≢false off)
  other_untold (Help t) off = tt
  other_untold Version off = tt

  pub failed_untold : (words : Option Command) → status ≡ 70 → RunsLook words WorldTells OutTells PortsTell answers held before after status
  failed_untold None is = tt
  failed_untold (Some (Read r)) is = tt
  failed_untold (Some (ListRecords l)) is = tt
  failed_untold (Some (Send s)) is = tt
  failed_untold (Some (Mix m)) is = tt
  failed_untold (Some (Attend m)) is = tt
  failed_untold (Some (Cascade d)) is = tt
  failed_untold (Some (Make m)) is = tt
  failed_untold (Some (Live m)) is = tt
  failed_untold (Some (Watch m)) is = tt
  failed_untold (Some (Relay s)) is = tt
  failed_untold (Some (Channel d)) is = tt
  failed_untold (Some (Show l)) is = tt
  failed_untold (Some (Times l)) is = tt
  failed_untold (Some (Script r)) is = tt
  failed_untold (Some (Check w)) is = memory_untold w WorldTells OutTells PortsTell answers held before after status is
  failed_untold (Some (Help t)) is = tt
  failed_untold (Some Version) is = tt

  pub wrong_untold : (words : Option Command) → words ≡ None → RunsLook words WorldTells OutTells PortsTell answers held before after status
  wrong_untold words is = subst (λ w. RunsLook w WorldTells OutTells PortsTell answers held before after status) (sym is) tt

  pub look_of : (words : Option Command) (c : Command) → words ≡ Some c → RunsLook (Some c) WorldTells OutTells PortsTell answers held before after status
      → RunsLook words WorldTells OutTells PortsTell answers held before after status
  look_of words c is r = subst (λ w. RunsLook w WorldTells OutTells PortsTell answers held before after status) (sym is) r

-- A look at a file, and at the INs or the ports of a conference.
use Rattle.std.proofs.Common.{◌≡◌, ◌≤◌, ℕ, suc, ◌+◌, ◌-◌, Bool, true, false, cond, Option, Some, None, List, [], ◌∷◌, length, drop, get_or, take, Result, Ok, Err, refl, ap, sym, subst, ◌∙◌, inl, inr, arith}
use Rattle.std.specs.Prelude.{◌≢◌, ◌<◌, nat_lt, IfErr, IfOk, IsSome, OnErr, OnOk, option_map}
use Rattle.std.proofs.lemmas.Bool.{cases_lt}
use Rattle.std.proofs.lemmas.List.{take_rest}
use Rattle.rtt_io.specs.Counts.{Rose}
use Rattle.rtt_io.specs.Names.{SameBut}
use Rattle.rtt_io.specs.declared.worlds.World as worlds
use Rattle.rtt_io.specs.declared.sinks.Sink as sinks
use Rattle.file_spec.specs.declared.conference_lines.LegLine.{LegLine}
use Rattle.file_spec.specs.declared.conference_lines.Form.TheVariants as of
use Rattle.file_spec.specs.declared.limits.TheConstants.{MOST_LEGS}
use Rattle.file_spec.specs.Conference.{Conference, conference_from}
use Rattle.file_spec.specs.Kept.{IsConference}
use Rattle.file_spec.specs.Lines as file
use Rattle.file_spec.proofs.KeptLines.{accepted_keeps}
use Rattle.report_spec.specs.declared.forms.FileForm.{FileForm}
use Rattle.report_spec.specs.declared.forms.FileForm.TheVariants.{Recordings}
use Rattle.report_spec.specs.Forms.{foreign, form_of}
use Rattle.report_spec.specs.Checking as checking
use Rattle.report_spec.specs.Checking.{report}
use Rattle.report_spec.specs.declared.limits.TheConstants.{MOST_CHECKED_OCTETS}
use Rattle.report_spec.specs.Inputs.{leg_told, most_of_input}
use Rattle.report_spec.specs.Looks.{Look, Opens, Tells, Tries, legs_as, legs_by, legs_in, legs_read, legs_unless, links_in, look, look_in, look_over, looks_at, steps_of, told_by, unless_told}
use Rattle.report_spec.proofs.LongFiles.{front_looks, long_inputs_alike, long_legs}
use Rattle.command_spec.specs.Cascading.{is_on_trunk, odd_line}
use Rattle.command_spec.specs.declared.faults.Fault.{Fault}
use Rattle.command_spec.specs.declared.faults.Fault.TheVariants.{WrongWords, CannotOpen, CannotRead, Refused, CannotPrint, CannotWrite, LinkFailed, NoMemory}
use Rattle.command_spec.specs.declared.faults.Refusal.{Refusal}
use Rattle.command_spec.specs.Messages.{status_of}
use Rattle.command_spec.specs.Outcomes.{Outcome, outcome_from, Done, Missing, Same}
use Rattle.command_spec.specs.Work.{Contents, IsInput}
use Rattle.rtt_check.specs.declared.reports.Report.{Report}
use Rattle.rtt_check.specs.Reports.{as_told, told_of}
use Rattle.rtt_words.specs.Words.{Check, CheckWords}
use Rattle.rtt_words.specs.Tasks.{work}
use Rattle.rtt_top.specs.Across.{EndsAcross}
use Rattle.rtt_top.specs.Files.{IsFrontOf, IsReadOf}
use Rattle.rtt_top.specs.Looks.{ending_of, fault_at, or_found, IsBegunIn, IsInputFrom, IsUnreadAmong, IsUnreadAt, IsUnreadWhere, LooksAmongIn, LooksAt, LooksAtIn, SameIn}
use Rattle.rtt_top.specs.Faults.{NoneBefore, RefusesSo, name_in}
use Rattle.rtt_top.specs.Outside.{Outside, Failed, outside_at}
use Rattle.rtt_top.specs.Runs.{Ends, HasStatus, IsInputOf, NoneFailedBefore, Prints, PrintsFront}
use Rattle.rtt_top.specs.Worlds.{IsUnreadIn, OpenFailedIn, StopsOver}
use Rattle.rtt_top.proofs.Lying.{lying_octets, short_front}
use Rattle.rtt_top.proofs.Since.{same_name}
use Rattle.rtt_top.proofs.Working.{printed, stopped}

-- ---- what is told is what comes of the steps
pub told_outcome : (held : Contents) (m : ℕ) (l : Look) (told : checking.Report) → told_by held l ≡ Some told → outcome_from m held (steps_of l) ≡ Done told.text []
told_outcome held m (Tells t) told e = let same : t ≡ told = cc e in ap (λ (r : checking.Report). Done r.text []) same
told_outcome held m (Tries c tells) told e = absurd (cc e)
told_outcome held m (Opens name next) told e = go (held name) (λ octets f. told_outcome held (m + 1) (next octets) told f) e
  where
    go : (o : Option (List ℕ)) → ((octets : List ℕ) → told_by held (next octets) ≡ Some told → outcome_from (m + 1) held (steps_of (next octets)) ≡ Done told.text [])
        → (let P : Option (List ℕ) → Option checking.Report = λ o. elim o [ None ↦ None | Some octets ↦ told_by held (next octets) ] in P o ≡ Some told)
        → (let Q : Option (List ℕ) → Outcome = λ o. elim o [ None ↦ Missing m | Some octets ↦ outcome_from (m + 1) held (steps_of (next octets)) ] in Q o ≡ Done told.text [])
    go None more e = absurd (cc e)
    go (Some octets) more e = more octets e

-- nothing is refused
none_refused : (held : Contents) (m : ℕ) (l : Look) (j : ℕ) → NoneBefore j (outcome_from m held (steps_of l))
none_refused held m (Tells told) j = tt
none_refused held m (Tries c tells) j = tt
none_refused held m (Opens name next) j = go (held name) (λ octets. none_refused held (m + 1) (next octets) j)
  where
    go : (o : Option (List ℕ)) → ((octets : List ℕ) → NoneBefore j (outcome_from (m + 1) held (steps_of (next octets))))
        → (let Q : Option (List ℕ) → Outcome = λ o. elim o [ None ↦ Missing m | Some octets ↦ outcome_from (m + 1) held (steps_of (next octets)) ] in NoneBefore j (Q o))
    go None more = tt
    go (Some octets) more = more octets

pub never_refuses : (WorldTells : Type 0) (held : Contents) (l : Look) (n : ℕ) (refusal : Refusal) → RefusesSo WorldTells held (steps_of l) n refusal → ⊥
never_refuses WorldTells held (Tells told) n refusal r = r
never_refuses WorldTells held (Tries c tells) n refusal r = r
never_refuses WorldTells held (Opens name next) n refusal r = never_refuses WorldTells held (next r.0) n refusal r.2

-- ---- a leg
at_trunk : (limit : ℕ) (conference : List ℕ) (leg : LegLine) (legs : List LegLine) (told : checking.Report) → is_on_trunk leg ≡ true
    → looks_at limit conference (leg ∷ legs) told ≡ looks_at limit conference legs told
at_trunk limit conference leg legs told e =
    let rest = looks_at limit conference legs told in
    ap (λ b. cond b rest (Opens leg.input (λ input. unless_told (leg_told limit conference leg input) rest))) e

at_input : (limit : ℕ) (conference : List ℕ) (leg : LegLine) (legs : List LegLine) (told : checking.Report) → is_on_trunk leg ≡ false
    → looks_at limit conference (leg ∷ legs) told ≡ Opens leg.input (λ input. unless_told (leg_told limit conference leg input) (looks_at limit conference legs told))
at_input limit conference leg legs told e =
    let rest = looks_at limit conference legs told in
    ap (λ b. cond b rest (Opens leg.input (λ input. unless_told (leg_told limit conference leg input) rest))) e

-- what was read is looked at as what lies there
pub looked_at : (WorldTells : Type 0) (held : Contents) (limit : ℕ) (conference : List ℕ) (leg : LegLine) (octets : List ℕ) (found : Option Report)
    → (WorldTells → IsReadOf MOST_CHECKED_OCTETS (held leg.input) octets) → option_map as_told found ≡ leg_told limit conference leg octets → LooksAt WorldTells held limit conference leg found
looked_at WorldTells held limit conference leg octets found read is =
    let lie = lying_octets WorldTells MOST_CHECKED_OCTETS (leg_told limit conference leg) (held leg.input) octets (long_inputs_alike limit conference leg) read in
    (lie.0, lie.1, is ∙ sym lie.2)

-- of a leg behind another mixer nothing is
pub told_behind : (WorldTells : Type 0) (held : Contents) (limit : ℕ) (conference : List ℕ) (leg : LegLine) (legs : List LegLine) (told : checking.Report) (result : Option checking.Report) → is_on_trunk leg ≡ true
    → told_by held (looks_at limit conference legs told) ≡ result → told_by held (looks_at limit conference (leg ∷ legs) told) ≡ result
told_behind WorldTells held limit conference leg legs told result on is = ap (told_by held) (at_trunk limit conference leg legs told on) ∙ is

read_so : (WorldTells : Type 0) (held : Contents) (limit : ℕ) (conference : List ℕ) (leg : LegLine) (legs : List LegLine) (told : checking.Report) (found : Option Report) → is_on_trunk leg ≡ false
    → LooksAt WorldTells held limit conference leg found → WorldTells
    → told_by held (looks_at limit conference (leg ∷ legs) told) ≡ told_by held (unless_told (option_map as_told found) (looks_at limit conference legs told))
read_so WorldTells held limit conference leg legs told found off l t =
    let rest = looks_at limit conference legs told in
    let P : Option (List ℕ) → Option checking.Report = λ o. elim o [ None ↦ None | Some octets ↦ told_by held (unless_told (leg_told limit conference leg octets) rest) ] in
    ap (told_by held) (at_input limit conference leg legs told off) ∙ (ap P (l.1 t) ∙ ap (λ r. told_by held (unless_told r rest)) (sym l.2))

-- something is told of its IN
pub told_here : (WorldTells : Type 0) (held : Contents) (limit : ℕ) (conference : List ℕ) (leg : LegLine) (legs : List LegLine) (told : checking.Report) (found : Report) → is_on_trunk leg ≡ false
    → LooksAt WorldTells held limit conference leg (Some found) → WorldTells → told_by held (looks_at limit conference (leg ∷ legs) told) ≡ Some (as_told found)
told_here WorldTells held limit conference leg legs told found off l t = read_so WorldTells held limit conference leg legs told (Some found) off l t

-- or of the INs behind it
pub told_later : (WorldTells : Type 0) (held : Contents) (limit : ℕ) (conference : List ℕ) (leg : LegLine) (legs : List LegLine) (told : checking.Report) (result : Option checking.Report) → is_on_trunk leg ≡ false
    → LooksAt WorldTells held limit conference leg None → WorldTells → told_by held (looks_at limit conference legs told) ≡ result → told_by held (looks_at limit conference (leg ∷ legs) told) ≡ result
told_later WorldTells held limit conference leg legs told result off l t is = read_so WorldTells held limit conference leg legs told None off l t ∙ is

-- ---- an input that is not read
pub unread_at : {W S D P : Type 0} (w : worlds.Ghosts W S D P) (input : ℕ) (old new : W) (name : List ℕ) (fault : Fault) → IsUnreadIn w old new name fault
    → (w.tells → SameBut name w.object_faults old new) → IsUnreadAt w input old new name (fault_at input fault)
unread_at w input old new name WrongWords u other = absurd u
unread_at w input old new name (CannotOpen n) u other = λ before same.
    let failed : OpenFailedIn w old new name = u.1 in (
      refl,
      (
        subst (λ k. Rose k (w.own_faults new name)) (same.1 name) failed.0,
        λ t there m differs.
            failed.1 t (subst (λ (o : Option (List ℕ)). IsSome o) (sym (same.0 t name)) there) m differs ∙ same.1 m,
      ),
    )
unread_at w input old new name (CannotRead n) u other = λ before same.
    (refl, subst (λ k. Rose k (w.object_faults new name)) (same.2 name) u.1, λ t m differs. other t m differs ∙ same.2 m)
unread_at w input old new name (Refused n refusal) u other = absurd u
unread_at w input old new name CannotPrint u other = absurd u
unread_at w input old new name (CannotWrite n) u other = absurd u
unread_at w input old new name (LinkFailed leg) u other = absurd u
unread_at w input old new name NoMemory u other = λ before same. tt

pub where_map : {W S D P : Type 0} (w : worlds.Ghosts W S D P) (Is Js : ℕ → Type 0) (old new : W) (name : List ℕ) (fault : Fault) → ((n : ℕ) → Is n → Js n)
    → IsUnreadWhere w Is old new name fault → IsUnreadWhere w Js old new name fault
where_map w Is Js old new name WrongWords f u = u
where_map w Is Js old new name (CannotOpen n) f u = (f n u.0, u.1)
where_map w Is Js old new name (CannotRead n) f u = (f n u.0, u.1, u.2)
where_map w Is Js old new name (Refused n refusal) f u = u
where_map w Is Js old new name CannotPrint f u = u
where_map w Is Js old new name (CannotWrite n) f u = u
where_map w Is Js old new name (LinkFailed leg) f u = u
where_map w Is Js old new name NoMemory f u = u

pub input_behind : (WorldTells : Type 0) (held : Contents) (limit : ℕ) (conference : List ℕ) (leg : LegLine) (legs : List LegLine) (told : checking.Report) (first : ℕ) (name : List ℕ) (n : ℕ) → is_on_trunk leg ≡ true
    → IsInputFrom WorldTells held (steps_of (looks_at limit conference legs told)) first name n → IsInputFrom WorldTells held (steps_of (looks_at limit conference (leg ∷ legs) told)) first name n
input_behind WorldTells held limit conference leg legs told first name n on i =
    subst (λ (l : Look). IsInputFrom WorldTells held (steps_of l) first name n) (sym (at_trunk limit conference leg legs told on)) i

pub input_here : (WorldTells : Type 0) (held : Contents) (limit : ℕ) (conference : List ℕ) (leg : LegLine) (legs : List LegLine) (told : checking.Report) (first n : ℕ) → is_on_trunk leg ≡ false → n ≡ first
    → IsInputFrom WorldTells held (steps_of (looks_at limit conference (leg ∷ legs) told)) first leg.input n
input_here WorldTells held limit conference leg legs told first n off e =
    let opened : Look = Opens leg.input (λ input. unless_told (leg_told limit conference leg input) (looks_at limit conference legs told)) in
    let here : IsInputFrom WorldTells held (steps_of opened) first leg.input n = (0, omega (arith, e), refl) in
    subst (λ (l : Look). IsInputFrom WorldTells held (steps_of l) first leg.input n) (sym (at_input limit conference leg legs told off)) here

pub input_later : (WorldTells : Type 0) (held : Contents) (limit : ℕ) (conference : List ℕ) (leg : LegLine) (legs : List LegLine) (told : checking.Report) (first : ℕ) (name : List ℕ) (n : ℕ) → is_on_trunk leg ≡ false
    → LooksAt WorldTells held limit conference leg None → IsInputFrom WorldTells held (steps_of (looks_at limit conference legs told)) (first + 1) name n
    → IsInputFrom WorldTells held (steps_of (looks_at limit conference (leg ∷ legs) told)) first name n
input_later WorldTells held limit conference leg legs told first name n off l i =
    let rest = looks_at limit conference legs told in
    let opened : Look = Opens leg.input (λ input. unless_told (leg_told limit conference leg input) rest) in
    let behind : IsInput WorldTells held (steps_of (unless_told (leg_told limit conference leg l.0) rest)) i.0 name =
    subst (λ r. IsInput WorldTells held (steps_of (unless_told r rest)) i.0 name) l.2 i.2 in
    let here : IsInputFrom WorldTells held (steps_of opened) first name n = (suc i.0, omega (arith, i.1), (l.0, l.1, behind)) in
    subst (λ (l : Look). IsInputFrom WorldTells held (steps_of l) first name n) (sym (at_input limit conference leg legs told off)) here

-- ---- the INs of legs, one after another
pub in_ok : {A B : Type 0} {P Q : A → Type 0} (r : Result A B) → ((a : A) → P a → Q a) → IfOk r P → IfOk r Q
in_ok (Ok a) f p = f a p
in_ok (Err b) f p = tt

pub in_err : {A B : Type 0} {P Q : B → Type 0} (r : Result A B) → ((b : B) → P b → Q b) → IfErr r P → IfErr r Q
in_err (Ok a) f p = tt
in_err (Err b) f p = f b p

same_through : {W S D P : Type 0} (w : worlds.Ghosts W S D P) (old mid new : W) → SameIn w old mid → SameIn w mid new → SameIn w old new
same_through w old mid new p q = ((λ t n. q.0 t n ∙ p.0 t n), (λ n. q.1 n ∙ p.1 n), (λ n. q.2 n ∙ p.2 n))

-- the first of the legs, and those behind it
pub first_and_more : (legs : List LegLine) (d : LegLine) → 1 ≤ length legs → (get_or legs 0 d ∷ take (length legs - 1) (drop 1 legs)) ≡ legs
first_and_more [] d some = absurd (omega arith)
first_and_more (leg ∷ more) d some = ap (λ (l : List LegLine). leg ∷ l) (take_rest (leg ∷ more) 1)

-- the leg stands behind another mixer
pub unread_behind : {W S D P : Type 0} (w : worlds.Ghosts W S D P) (limit : ℕ) (conference : List ℕ) (leg : LegLine) (legs : List LegLine) (first : ℕ) (old new : W) (name : List ℕ) (fault : Fault) → is_on_trunk leg ≡ true
    → IsUnreadAmong w limit conference legs first old new name fault → IsUnreadAmong w limit conference (leg ∷ legs) first old new name fault
unread_behind w limit conference leg legs first old new name fault on u = λ before same told.
    where_map w (IsInputFrom w.tells (w.contents before) (steps_of (looks_at limit conference legs told)) first name)
    (IsInputFrom w.tells (w.contents before) (steps_of (looks_at limit conference (leg ∷ legs) told)) first name) before new name fault
    (λ n i. input_behind w.tells (w.contents before) limit conference leg legs told first name n on i) (u before same told)

pub looks_behind : {W S D P : Type 0} (w : worlds.Ghosts W S D P) (limit : ℕ) (conference : List ℕ) (leg : LegLine) (legs : List LegLine) (old : W) (found : Option Report) → is_on_trunk leg ≡ true
    → LooksAmongIn w limit conference legs old found → LooksAmongIn w limit conference (leg ∷ legs) old found
looks_behind w limit conference leg legs old found on l = λ before same t told.
    told_behind w.tells (w.contents before) limit conference leg legs told (Some (told_of found told)) on (l before same t told)

-- its IN is not read, or something is told of it
pub unread_here : {W S D P : Type 0} (w : worlds.Ghosts W S D P) (limit : ℕ) (conference : List ℕ) (leg : LegLine) (legs : List LegLine) (input : ℕ) (old new : W) (name : List ℕ) (fault : Fault) → is_on_trunk leg ≡ false
    → name ≡ leg.input → IsUnreadAt w input old new leg.input fault → IsUnreadAmong w limit conference (leg ∷ legs) input old new name fault
unread_here w limit conference leg legs input old new name fault off named u = λ before same told.
    let Is : ℕ → Type 0 = IsInputFrom w.tells (w.contents before) (steps_of (looks_at limit conference (leg ∷ legs) told)) input leg.input in
    subst (λ n. IsUnreadWhere w (IsInputFrom w.tells (w.contents before) (steps_of (looks_at limit conference (leg ∷ legs) told)) input n) before new n fault) (sym named)
    (where_map w (λ n. n ≡ input) Is before new leg.input fault (λ n e. input_here w.tells (w.contents before) limit conference leg legs told input n off e) (u before same))

pub looks_here : {W S D P : Type 0} (w : worlds.Ghosts W S D P) (limit : ℕ) (conference : List ℕ) (leg : LegLine) (legs : List LegLine) (old : W) (found : Report) → is_on_trunk leg ≡ false
    → LooksAtIn w limit conference leg old (Some found) → LooksAmongIn w limit conference (leg ∷ legs) old (Some found)
looks_here w limit conference leg legs old found off l = λ before same t told.
    told_here w.tells (w.contents before) limit conference leg legs told found off (l before same) t

-- nothing is told of it
pub unread_later : {W S D P : Type 0} (w : worlds.Ghosts W S D P) (limit : ℕ) (conference : List ℕ) (leg : LegLine) (legs : List LegLine) (first : ℕ) (old mid new : W) (name : List ℕ) (fault : Fault) → is_on_trunk leg ≡ false
    → SameIn w old mid → LooksAtIn w limit conference leg old None → IsUnreadAmong w limit conference legs (first + 1) mid new name fault → IsUnreadAmong w limit conference (leg ∷ legs) first old new name fault
unread_later w limit conference leg legs first old mid new name fault off step l u = λ before same told.
    where_map w (IsInputFrom w.tells (w.contents before) (steps_of (looks_at limit conference legs told)) (first + 1) name)
    (IsInputFrom w.tells (w.contents before) (steps_of (looks_at limit conference (leg ∷ legs) told)) first name) before new name fault
    (λ n i. input_later w.tells (w.contents before) limit conference leg legs told first name n off (l before same) i) (u before (same_through w before old mid same step) told)

pub looks_later : {W S D P : Type 0} (w : worlds.Ghosts W S D P) (limit : ℕ) (conference : List ℕ) (leg : LegLine) (legs : List LegLine) (old mid : W) (found : Option Report) → is_on_trunk leg ≡ false
    → SameIn w old mid → LooksAtIn w limit conference leg old None → LooksAmongIn w limit conference legs mid found → LooksAmongIn w limit conference (leg ∷ legs) old found
looks_later w limit conference leg legs old mid found off step l m = λ before same t told.
    told_later w.tells (w.contents before) limit conference leg legs told (Some (told_of found told)) off (l before same) t (m before (same_through w before old mid same step) t told)

-- ---- the file
pub front_is : (name octets whole : List ℕ) → IsFrontOf MOST_CHECKED_OCTETS octets whole → look_in name whole ≡ look_in name octets
front_is name octets whole (inl e) = ap (look_in name) e
front_is name octets whole (inr f) = ap (look_in name) f.2 ∙ front_looks name octets f.1 f.0

look_begun : (file octets : List ℕ) (told : checking.Report) (legs : List LegLine) → links_in octets ≡ None → told ≡ report file octets → legs ≡ legs_in octets
    → looks_at (most_of_input legs) octets legs told ≡ look_in file octets
look_begun file octets told legs none is are =
    ap (λ (l : List LegLine). looks_at (most_of_input l) octets l told) are
    ∙ (ap (looks_at (most_of_input (legs_in octets)) octets (legs_in octets)) is
    ∙ sym (ap (λ (c : Option Conference). look_over c octets (report file octets)) none))

pub told_whole : {W S D P : Type 0} (w : worlds.Ghosts W S D P) (world : W) (file octets : List ℕ) (told result : checking.Report) (legs : List LegLine) → links_in octets ≡ None → IsBegunIn w world file octets told legs → w.tells
    → told_by (w.contents world) (looks_at (most_of_input legs) octets legs told) ≡ Some result → told_by (w.contents world) (look file) ≡ Some result
told_whole w world file octets told result legs none b t is =
    let held = w.contents world in
    let read = b.0 t in
    let P : Option (List ℕ) → Option checking.Report = λ o. elim o [ None ↦ None | Some octets ↦ told_by held (look_in file octets) ] in
    ap P read.1 ∙ (ap (told_by held) (front_is file octets read.0 read.2 ∙ sym (look_begun file octets told legs none b.1 b.2)) ∙ is)

-- an IN that is looked at is an input of the command
input_of_file : {W S D P : Type 0} (w : worlds.Ghosts W S D P) (world : W) (words : CheckWords) (octets : List ℕ) (told : checking.Report) (legs : List LegLine) (name : List ℕ) (n : ℕ) → links_in octets ≡ None → IsBegunIn w world words.file octets told legs
    → IsInputFrom w.tells (w.contents world) (steps_of (looks_at (most_of_input legs) octets legs told)) 1 name n → IsInput w.tells (w.contents world) (work (Check words)).steps n name
input_of_file w world words octets told legs name n unlinked b i = elim (cases_lt MOST_CHECKED_OCTETS (length octets)) [
  | inl long ↦
      let none : legs ≡ [] = b.2 ∙ long_legs octets long in
      absurd (subst (λ (l : List LegLine). IsInput w.tells (w.contents world) (steps_of (looks_at (most_of_input l) octets l told)) i.0 name) none i.2)
  | inr short ↦
      let lie : w.tells → w.contents world words.file ≡ Some octets = λ t. let r = b.0 t in r.1 ∙ ap (λ (o : List ℕ). Some o) (short_front MOST_CHECKED_OCTETS octets r.0 short r.2) in
      let behind : IsInput w.tells (w.contents world) (steps_of (look_in words.file octets)) i.0 name =
      subst (λ (l : Look). IsInput w.tells (w.contents world) (steps_of l) i.0 name) (look_begun words.file octets told legs unlinked b.1 b.2) i.2 in
      let one : suc i.0 ≡ n = omega (arith, i.1) in
      subst (λ k. IsInput w.tells (w.contents world) (work (Check words)).steps k name) one (octets, lie, behind)
]

-- ---- what was begun, where these are the octets and the legs as they are handed on
look_handed : (octets conference : List ℕ) (told : checking.Report) (legs slice : List LegLine) (limit : ℕ) → conference ≡ octets → slice ≡ legs → limit ≡ most_of_input slice
    → looks_at limit conference slice told ≡ looks_at (most_of_input legs) octets legs told
look_handed octets conference told legs slice limit are same most =
    ap (λ m. looks_at m conference slice told) most ∙ (ap (λ o. looks_at (most_of_input slice) o slice told) are ∙ ap (λ (l : List LegLine). looks_at (most_of_input l) octets l told) same)

pub told_all : {W S D P : Type 0} (w : worlds.Ghosts W S D P) (old mid : W) (file octets conference : List ℕ) (told : checking.Report) (legs slice : List LegLine) (limit : ℕ) (found : Option Report) → links_in octets ≡ None → IsBegunIn w old file octets told legs
    → conference ≡ octets → slice ≡ legs → limit ≡ most_of_input slice → SameIn w old mid → LooksAmongIn w limit conference slice mid found
    → w.tells → told_by (w.contents old) (look file) ≡ Some (told_of found told)
told_all w old mid file octets conference told legs slice limit found none b are same most step l t =
    told_whole w old file octets told (told_of found told) legs none b t
    (ap (told_by (w.contents old)) (sym (look_handed octets conference told legs slice limit are same most)) ∙ l old step t told)

none_failed : (c : CheckWords) (WorldTells : Type 0) (old new : Outside) (n : ℕ) (name : List ℕ) → IsInputOf (Check c) WorldTells old n name
    → ((m : List ℕ) → m ≢ name → new.objects m ≡ old.objects m) → NoneFailedBefore n (Check c) WorldTells old new
none_failed c WorldTells old new n name is other k one less i later =
    other one (λ e. later n (omega arith) (subst (λ m. IsInputOf (Check c) WorldTells old n m) (sym e) is))

-- it ends so where an IN is not read
pub ends_unread : {W S D P K : Type 0} (w : worlds.Ghosts W S D P) (k : sinks.Ghosts K) (old new : W) (out : K) (words : CheckWords) (octets : List ℕ) (told : checking.Report) (legs : List LegLine) (name : List ℕ) (fault : Fault)
    → links_in octets ≡ None → IsBegunIn w old words.file octets told legs
    → IsUnreadWhere w (IsInputFrom w.tells (w.contents old) (steps_of (looks_at (most_of_input legs) octets legs told)) 1 name) old new name fault
    → (w.tells → Same (w.contents old) (w.contents new)) → EndsAcross w k (Check words) old out new out name (Err fault)
ends_unread w k old new out words octets told legs name WrongWords none b u same = absurd u
ends_unread w k old new out words octets told legs name (CannotOpen n) none b u same =
    (input_of_file w old words octets told legs name n none b u.0, u.1, ((λ shown. refl), same))
ends_unread w k old new out words octets told legs name (CannotRead n) none b u same =
    let is = input_of_file w old words octets told legs name n none b u.0 in
    (is, u.1, (λ t. (none_refused (w.contents old) 0 (look words.file) n, none_failed words w.tells (outside_at w k old out) (outside_at w k new out) n name is (u.2 t))), ((λ shown. refl), same))
ends_unread w k old new out words octets told legs name (Refused n refusal) none b u same = absurd u
ends_unread w k old new out words octets told legs name CannotPrint none b u same = absurd u
ends_unread w k old new out words octets told legs name (CannotWrite n) none b u same = absurd u
ends_unread w k old new out words octets told legs name (LinkFailed leg) none b u same = absurd u
ends_unread w k old new out words octets told legs name NoMemory none b u same = ((λ shown. refl), same)

pub ends_among : {W S D P K : Type 0} (w : worlds.Ghosts W S D P) (k : sinks.Ghosts K) (old mid new : W) (out : K) (words : CheckWords) (octets conference : List ℕ) (told : checking.Report) (legs slice : List LegLine) (limit : ℕ) (name : List ℕ) (fault : Fault)
    → links_in octets ≡ None → IsBegunIn w old words.file octets told legs → conference ≡ octets → slice ≡ legs → limit ≡ most_of_input slice → SameIn w old mid → IsUnreadAmong w limit conference slice 1 mid new name fault
    → (w.tells → Same (w.contents old) (w.contents new)) → EndsAcross w k (Check words) old out new out name (Err fault)
ends_among w k old mid new out words octets conference told legs slice limit name fault none b are same most step u kept =
    ends_unread w k old new out words octets told legs name fault none b
    (subst (λ (l : Look). IsUnreadWhere w (IsInputFrom w.tells (w.contents old) (steps_of l) 1 name) old new name fault) (look_handed octets conference told legs slice limit are same most) (u old step told))
    kept

-- and where the file is not
pub ends_stopped : {W S D P K : Type 0} (w : worlds.Ghosts W S D P) (k : sinks.Ghosts K) (old new : W) (out : K) (words : CheckWords) (fault : Fault) → StopsOver w old new words.file (Check words) fault
    → (w.tells → Same (w.contents old) (w.contents new)) → EndsAcross w k (Check words) old out new out words.file (Err fault)
ends_stopped w k old new out words fault stops kept =
    subst (λ name. EndsAcross w k (Check words) old out new out name (Err fault)) (same_name words.file (Err fault))
    (stopped (Check words) w.tells k.tells (outside_at w k old out) (outside_at w k new out) words.file words.file fault refl stops ((λ shown. refl), kept))

-- and so where something is told
looked_in : (w : CheckWords) (WorldTells OutTells : Type 0) (old new : Outside) (told : checking.Report) (res : Result Bool Fault)
    → (WorldTells → told_by old.contents (look w.file) ≡ Some told) → (WorldTells → Same old.contents new.contents)
    → IfErr res (λ fault. fault ≡ CannotPrint) → OnErr res (Failed old.out new.out) → (OutTells → OnOk res (Prints told.text old new)) → (OutTells → OnErr res (PrintsFront told.text old new))
    → Ends (Check w) WorldTells OutTells old new (name_in w.file w.file (ending_of res)) (ending_of res)
looked_in w WorldTells OutTells old new told (Ok taken) is same fault cause whole partly =
    printed (Check w) WorldTells OutTells old new w.file w.file told.text (Ok tt) refl (λ t. told_outcome old.contents 0 (look w.file) told (is t)) same fault cause whole partly
looked_in w WorldTells OutTells old new told (Err f) is same fault cause whole partly =
    printed (Check w) WorldTells OutTells old new w.file w.file told.text (Err f) refl (λ t. told_outcome old.contents 0 (look w.file) told (is t)) same fault cause whole partly

pub looked : (w : CheckWords) (WorldTells OutTells : Type 0) (old new : Outside) (told : checking.Report) (res : Result Bool Fault)
    → (WorldTells → told_by old.contents (look w.file) ≡ Some told) → (WorldTells → Same old.contents new.contents)
    → IfErr res (λ fault. fault ≡ CannotPrint) → OnErr res (Failed old.out new.out) → (OutTells → OnOk res (Prints told.text old new)) → (OutTells → OnErr res (PrintsFront told.text old new))
    → Ends (Check w) WorldTells OutTells old new w.file (ending_of res)
looked w WorldTells OutTells old new told res is same fault cause whole partly =
    subst (λ name. Ends (Check w) WorldTells OutTells old new name (ending_of res)) (same_name w.file (ending_of res))
    (looked_in w WorldTells OutTells old new told res is same fault cause whole partly)

-- ---- the status
pub same_told : {a b : checking.Report} {found : Option checking.Report} → found ≡ Some a → found ≡ Some b → b ≡ a
same_told p q = cc (p, q)

pub taken_found : (w : CheckWords) (WorldTells : Type 0) (held : Contents) (told : checking.Report) (res : Result Bool Fault) → (WorldTells → told_by held (look w.file) ≡ Some told)
    → IfOk res (λ taken. taken ≡ told.taken) → IfOk res (λ taken. WorldTells → (r : checking.Report) → told_by held (look w.file) ≡ Some r → taken ≡ r.taken)
taken_found w WorldTells held told (Ok t) is e = λ tells r here. e ∙ ap (λ (x : checking.Report). x.taken) (same_told here (is tells))
taken_found w WorldTells held told (Err f) is e = tt

pub status_found : (w : CheckWords) (WorldTells : Type 0) (held : Contents) (found : Result Bool Fault) (status : ℕ)
    → IfOk found (λ taken. WorldTells → (r : checking.Report) → told_by held (look w.file) ≡ Some r → taken ≡ r.taken)
    → status ≡ or_found found (status_of (ending_of found)) → HasStatus (Some (Check w)) WorldTells held (ending_of found) status
status_found w WorldTells held (Ok true) status so is = record { taken = true; is_status = is; is_taken = so }
status_found w WorldTells held (Ok false) status so is = record { taken = false; is_status = is; is_taken = so }
status_found w WorldTells held (Err fault) status so is = is

-- ---- how many legs there are
few_unless : (odd : Option ℕ) (legs : List LegLine) → length legs ≤ MOST_LEGS → length (legs_unless odd legs) ≤ MOST_LEGS
few_unless None legs few = few
few_unless (Some line) legs few = omega arith

few_read : (r : Result Conference file.Refusal) → ((c : Conference) → r ≡ Ok c → IsConference c) → length (legs_read r) ≤ MOST_LEGS
few_read (Ok c) keeps = few_unless (odd_line c.legs) c.legs (keeps c refl).legs.most
few_read (Err refusal) keeps = omega arith

few_as : (form : FileForm) (octets : List ℕ) → length (legs_as form octets) ≤ MOST_LEGS
few_as Recordings octets = few_read (conference_from of.Files octets) (accepted_keeps of.Files octets)
few_as _ octets = omega arith

few_by : (found : Option FileForm) (octets : List ℕ) → length (legs_by found octets) ≤ MOST_LEGS
few_by (Some form) octets = omega arith
few_by None octets = go (nat_lt MOST_CHECKED_OCTETS (length octets))
  where
    go : (over : Bool) → length (cond over [] (legs_as (form_of octets) octets)) ≤ MOST_LEGS
    go true = omega arith
    go false = few_as (form_of octets) octets

pub few_slice : (octets : List ℕ) (legs slice : List LegLine) → legs ≡ legs_in octets → slice ≡ legs → 1 + length slice < 4294967296
few_slice octets legs slice are same =
    subst (λ (l : List LegLine). 1 + length l < 4294967296) (sym (same ∙ are)) (omega (arith, few_by (foreign octets) octets))

-- Files that are made one after another.
use Rattle.std.proofs.Common.{◌≡◌, ℕ, zero, suc, ◌+◌, ◌<◌, ◌≤◌, false, List, [], ◌∷◌, ◌++◌, length, take, drop, get_or, Result, Ok, Err, refl, ap, sym, subst, ◌∙◌, inl, inr, arith}
use Rattle.std.proofs.lemmas.List.{get_or_default, length-map}
use Rattle.std.specs.Prelude.{◌⊎◌, IfErr, OnOk, OnErr}
use Rattle.std.specs.Result.{is_err}
use Rattle.file_spec.specs.declared.conference_lines.LegLine.{LegLine}
use Rattle.sent_log.specs.States.{State, recording_of}
use Rattle.sent_log.specs.Files.{recording_at, recordings_of}
use Rattle.command_spec.specs.declared.faults.Fault.{Fault}
use Rattle.command_spec.specs.declared.faults.Fault.TheVariants.{CannotWrite}
use Rattle.command_spec.specs.Work.{Contents, Made, IsNth}
use Rattle.command_spec.specs.Outcomes.{Stores, AllStored}
use Rattle.rtt_top.specs.Files.{IsPartlyStored}
use Rattle.rtt_top.specs.Runs.{PartlyStored}
use Rattle.rtt_mix.specs.Mixes.{outputs_of}
use Rattle.rtt_top.specs.Outputs.{IsUnwritten}
use Rattle.rtt_top.specs.Outside.{RoseAt}
use Rattle.rtt_top.proofs.Counts.{rose_since}
use Rattle.wire_spec.proofs.Plain.{either}

-- what is stored is what was taken, which is all of this
pub stores_all : {A B : Type 0} (r : Result A B) (stored took all : List ℕ) → OnOk r (stored ≡ took) → OnOk r (took ≡ all) → OnOk r (stored ≡ all)
stores_all (Ok a) stored took all s t = s ∙ t
stores_all (Err e) stored took all s t = t

-- the first n of these are stored, and then one more
pub stored_more : (files : List Made) (file : Made) (old between new : Contents) → AllStored files old between → Stores file between new → AllStored (files ++ file ∷ []) old new
stored_more [] file old between new same s =
    (new, record { stored = s.stored; others = λ name other. s.others name other ∙ same name }, λ name. refl)
stored_more (first ∷ more) file old between new all s =
    (all.0, all.1, stored_more more file all.0 between new all.2 s)

-- the files before one are stored, and this one in part
pub partly_more : (Call Object : List ℕ → Type 0) (files : List Made) (file : Made) (behind : List Made) (old between new : Contents) → AllStored files old between
    → IsPartlyStored (Call file.name) (Object file.name) file between new → PartlyStored Call Object (length files) (files ++ file ∷ behind) old new
partly_more Call Object [] file behind old between new same (inl p) = inl (p.0, λ name. p.1 name ∙ same name)
partly_more Call Object [] file behind old between new same (inr p) =
    inr (p.0, (p.1.0, record { stored = p.1.1.stored; others = λ name other. p.1.1.others name other ∙ same name }))
partly_more Call Object (first ∷ more) file behind old between new all p =
    (all.0, all.1, partly_more Call Object more file behind all.0 between new all.2 p)

pub is_nth : (files : List Made) (file : Made) (behind : List Made) → IsNth (files ++ file ∷ behind) (length files) file.name
is_nth [] file behind = refl
is_nth (first ∷ more) file behind = is_nth more file behind

-- ---- of legs
abbrev file_of : LegLine → List ℕ → Made
file_of leg octets = record { name = leg.output; octets = octets }

-- the file of number n, with those before it and behind it
pub record IsFileAt (files : List Made) (n : ℕ) (file : Made) : Type 0 where
  pub whole : files ≡ take n files ++ file ∷ drop (suc n) files
  pub next : take (suc n) files ≡ take n files ++ file ∷ []
  pub count : length (take n files) ≡ n

pub file_at : (legs : List LegLine) (more : List (List ℕ)) (n : ℕ) (leg : LegLine) (octets : List ℕ) → n < length legs → length legs ≡ length more
    → leg ≡ get_or legs n leg → octets ≡ get_or more n octets → IsFileAt (outputs_of legs more) n (file_of leg octets)
file_at [] more n leg octets less same is_leg is_octets = absurd (omega arith)
file_at (l ∷ legs) [] n leg octets less same is_leg is_octets = absurd (omega arith)
file_at (l ∷ legs) (o ∷ more) zero leg octets less same is_leg is_octets =
    let f : file_of leg octets ≡ file_of l o = ap (λ (x : LegLine). file_of x octets) is_leg ∙ ap (λ (x : List ℕ). file_of l x) is_octets in
    record { whole = ap (λ (x : Made). x ∷ outputs_of legs more) (sym f); next = ap (λ (x : Made). x ∷ []) (sym f); count = refl }
file_at (l ∷ legs) (o ∷ more) (suc n) leg octets less same is_leg is_octets =
    let r = file_at legs more n leg octets (omega arith) (omega arith) is_leg is_octets in
    record { whole = ap (λ xs. file_of l o ∷ xs) r.whole; next = ap (λ xs. file_of l o ∷ xs) r.next; count = ap suc r.count }

-- the recording of what was sent to the terminal of number n, under the name of its output
pub recording_file : (legs : List LegLine) (log now : State) (n : ℕ) (leg : LegLine) (name : List ℕ) → n < length legs → length legs ≡ length log → leg ≡ get_or legs n leg → name ≡ leg.output → now ≡ log
    → IsFileAt (outputs_of legs (recordings_of log)) n (record { name = name; octets = recording_at now n })
recording_file legs log now n leg name less many is_leg named same =
    let as_many : length legs ≡ length (recordings_of log) = many ∙ sym (length-map log recording_of) in
    let saved : Made = record { name = name; octets = recording_at now n } in
    let file : saved ≡ file_of leg (recording_at log n) =
    ap (λ (x : List ℕ). record { name = x; octets = recording_at now n }) named ∙ ap (λ (s : State). record { name = leg.output; octets = recording_at s n }) same in
    subst (IsFileAt (outputs_of legs (recordings_of log)) n) (sym file)
    (file_at legs (recordings_of log) n leg (recording_at log n) less as_many is_leg (get_or_default (recordings_of log) n [] (recording_at log n) (omega (arith, less, as_many))))

pub take_whole : (legs : List LegLine) (more : List (List ℕ)) (n : ℕ) → length legs ≤ n → take n (outputs_of legs more) ≡ outputs_of legs more
take_whole [] more zero l = refl
take_whole [] more (suc n) l = refl
take_whole (leg ∷ legs) [] zero l = refl
take_whole (leg ∷ legs) [] (suc n) l = refl
take_whole (leg ∷ legs) (o ∷ more) zero l = absurd (omega arith)
take_whole (leg ∷ legs) (o ∷ more) (suc n) l = ap (λ xs. file_of leg o ∷ xs) (take_whole legs more n (omega arith))

-- ---- a file that could not be written
partly_since : (Call Object CallNow ObjectNow : Type 0) (file : Made) (old new : Contents) → (CallNow → Call) → (ObjectNow → Object)
    → IsPartlyStored CallNow ObjectNow file old new → IsPartlyStored Call Object file old new
partly_since Call Object CallNow ObjectNow file old new f g (inl p) = inl (f p.0, p.1)
partly_since Call Object CallNow ObjectNow file old new f g (inr p) = inr (g p.0, p.1)

pub unwritten : (WorldTells : Type 0) (calls objects calls_now objects_now calls_then objects_then : List ℕ → ℕ) (files : List Made) (n : ℕ) (file : Made) (old between new : Contents)
    (result : Result (Unit {0}) Fault) → IsFileAt files n file → ((name : List ℕ) → calls name ≤ calls_now name) → ((name : List ℕ) → objects name ≤ objects_now name)
    → (WorldTells → AllStored (take n files) old between) → IfErr result (λ fault. fault ≡ CannotWrite n)
    → OnErr result (RoseAt calls_now calls_then file.name ⊎ RoseAt objects_now objects_then file.name)
    → (WorldTells → OnErr result (IsPartlyStored (RoseAt calls_now calls_then file.name) (RoseAt objects_now objects_then file.name) file between new))
    → IfErr result (IsUnwritten WorldTells (RoseAt calls calls_then) (RoseAt objects objects_then) files old new)
unwritten WorldTells calls objects calls_now objects_now calls_then objects_then files n file old between new (Ok u) at f g before fault cause partly = tt
unwritten WorldTells calls objects calls_now objects_now calls_then objects_then files n file old between new (Err e) at f g before fault cause partly =
    let call : RoseAt calls_now calls_then file.name → RoseAt calls calls_then file.name = λ r. rose_since (calls file.name) (calls_now file.name) (calls_then file.name) (f file.name) r in
    let object : RoseAt objects_now objects_then file.name → RoseAt objects objects_then file.name = λ r. rose_since (objects file.name) (objects_now file.name) (objects_then file.name) (g file.name) r in
    let P : Fault → Type 0 = IsUnwritten WorldTells (RoseAt calls calls_then) (RoseAt objects objects_then) files old new in
    let nth : IsNth files n file.name =
    subst (λ k. IsNth files k file.name) at.count (subst (λ fs. IsNth fs (length (take n files)) file.name) (sym at.whole) (is_nth (take n files) file (drop (suc n) files))) in
    let part : WorldTells → PartlyStored (RoseAt calls calls_then) (RoseAt objects objects_then) n files old new = λ told.
    subst (λ k. PartlyStored (RoseAt calls calls_then) (RoseAt objects objects_then) k files old new) at.count
    (subst (λ fs. PartlyStored (RoseAt calls calls_then) (RoseAt objects objects_then) (length (take n files)) fs old new) (sym at.whole)
    (partly_more (RoseAt calls calls_then) (RoseAt objects objects_then) (take n files) file (drop (suc n) files) old between new (before told)
    (partly_since (RoseAt calls calls_then file.name) (RoseAt objects objects_then file.name) (RoseAt calls_now calls_then file.name) (RoseAt objects_now objects_then file.name) file between new call object (partly told)))) in
    subst P (sym fault) (file.name, nth, either (RoseAt calls_now calls_then file.name) (RoseAt objects_now objects_then file.name) (RoseAt calls calls_then file.name) (RoseAt objects objects_then file.name) call object cause, part)

pub stored_next : (files : List Made) (n : ℕ) (file : Made) (old between new : Contents) (result : Result (Unit {0}) Fault) → IsFileAt files n file → is_err result ≡ false
    → AllStored (take n files) old between → OnOk result (Stores file between new) → AllStored (take (n + 1) files) old new
stored_next files n file old between new (Ok u) at ok before stores =
    let one : suc n ≡ n + 1 = omega arith in
    subst (λ k. AllStored (take k files) old new) one (subst (λ fs. AllStored fs old new) (sym at.next) (stored_more (take n files) file old between new before stores))
stored_next files n file old between new (Err e) at ok before stores = absurd (cc ok)

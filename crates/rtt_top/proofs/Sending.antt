-- A script that is sent.
use Rattle.std.proofs.Common.{◌≡◌, ℕ, ◌<◌, ◌≤◌, true, cond, Option, Some, None, List, [], ◌∷◌, ◌++◌, length, take, Ok, Err, refl, ap, sym, subst, ◌∙◌, inl, inr, arith}
use Rattle.std.specs.Prelude.{◌⊎◌, nat_lt, IfErr, OnOk, OnErr}
use Rattle.std.proofs.lemmas.Bool.Decides.{nat_tests}
use Rattle.file_spec.specs.declared.kinds.ConfKind.{ConfKind}
use Rattle.file_spec.specs.declared.kinds.ConfKind.TheVariants.{Full, Large}
use Rattle.file_spec.specs.Script.{ScriptLine}
use Rattle.file_spec.specs.Lines.{read_lines, told, is_comment}
use Rattle.std.specs.Str.Lines as str
use Rattle.file_spec.specs.Script.{script, and_line}
use Rattle.rtt_words.specs.Words.{Command, SendWords, Send}
use Rattle.rtt_io.specs.Counts.{Rose}
use Rattle.command_spec.specs.declared.faults.Refusal.TheVariants.{AtLine}
use Rattle.command_spec.specs.declared.faults.Fault.{Fault}
use Rattle.command_spec.specs.declared.faults.Fault.TheVariants.{Refused, CannotWrite}
use Rattle.command_spec.specs.Scripts as scripts
use Rattle.command_spec.specs.Work.{Contents, Made, Steps, Reads, Refuses, Makes, IsOutput}
use Rattle.command_spec.specs.Outcomes.{outcome, outcome_from, Done, Same, Stores, AllStored}
use Rattle.rtt_words.specs.Tasks.{sending_of, sends, unless_full, work}
use Rattle.command_spec.specs.Messages.{Ending}
use Rattle.rtt_top.specs.Files.{IsFrontOf, IsPartlyStored, made_file}
use Rattle.rtt_top.specs.Faults.{Stops, WhereRead, name_in}
use Rattle.rtt_top.specs.Outside.{Outside, Output, CallFailed, ObjectFailed}
use Rattle.rtt_top.specs.Runs.{PartlyStored, Ends}
use Rattle.rtt_top.proofs.Counts.{rose_since}
use Rattle.rtt_top.proofs.Working.{lies, refuses_of, done}
use Rattle.rtt_top.proofs.Lying.{lying_octets}
use Rattle.file_spec.specs.declared.limits.TheConstants.{MOST_SCRIPT_OCTETS}
use Rattle.wire_spec.proofs.Plain.{either}
use Rattle.command_spec.proofs.Plain.{stores_since as stores_after}

-- ---- what was read is a script
too_large : (octets : List ℕ) → MOST_SCRIPT_OCTETS < length octets → script octets ≡ Err (record { line = 0; kind = Large })
too_large octets l =
    let over : nat_lt MOST_SCRIPT_OCTETS (length octets) ≡ true = grind (arith, nat_tests) in
    ap (λ b. cond b (Err (record { line = 0; kind = Large })) (read_lines and_line [] (told is_comment 1 (str.lines octets)))) over

accepted_front : (octets whole : List ℕ) (ls : List ScriptLine) → IsFrontOf MOST_SCRIPT_OCTETS octets whole → script octets ≡ Ok ls → whole ≡ octets
accepted_front octets whole ls (inl e) s = e
accepted_front octets whole ls (inr f) s = let large = too_large octets f.0 in absurd (cc (s, large))

-- the octets that were read, which lie there as far as that is told
pub read_octets : (WorldTells : Type 0) (held : Option (List ℕ)) (octets : List ℕ) (ls : List ScriptLine) → (WorldTells → (whole : List ℕ) × (held ≡ Some whole) × IsFrontOf MOST_SCRIPT_OCTETS octets whole)
    → script octets ≡ Ok ls → (o : List ℕ) × (WorldTells → held ≡ Some o) × (script o ≡ Ok ls)
read_octets WorldTells held octets ls given s = (octets, λ t. let g = given t in g.1 ∙ ap (λ (o : List ℕ). Some o) (accepted_front octets g.0 ls g.2 s), s)

-- ---- a line that is refused
refused_at : (WorldTells : Type 0) (held : Contents) (s : SendWords) (Call Object : Type 0) (line : ℕ) (kind : ConfKind)
    → (octets : List ℕ) × (WorldTells → held s.file ≡ Some octets) × (sends s (script octets) ≡ Refuses 0 (AtLine line kind))
    → Stops WorldTells held (Send s) Call Object (Refused 0 (AtLine line kind))
refused_at WorldTells held s Call Object line kind r =
    (refl, refuses_of WorldTells held s.file (λ octets. sends s (script octets)) 0 (AtLine line kind) r.0 r.1 r.2)

pub script_refused : (WorldTells : Type 0) (held : Contents) (s : SendWords) (Call Object : Type 0) (octets : List ℕ) (line : ℕ) (kind : ConfKind)
    → (WorldTells → (whole : List ℕ) × (held s.file ≡ Some whole) × IsFrontOf MOST_SCRIPT_OCTETS octets whole) → script octets ≡ Err (record { line = line; kind = kind })
    → Stops WorldTells held (Send s) Call Object (Refused 0 (AtLine line kind))
script_refused WorldTells held s Call Object octets line kind given e =
    let o = lying_octets WorldTells MOST_SCRIPT_OCTETS script (held s.file) octets (λ a b l m. too_large a l ∙ sym (too_large b m)) given in
    refused_at WorldTells held s Call Object line kind (o.0, o.1, ap (sends s) (o.2 ∙ e))

pub full_refused : (WorldTells : Type 0) (held : Contents) (s : SendWords) (Call Object : Type 0) (ls : List ScriptLine) (line : ℕ)
    → (octets : List ℕ) × (WorldTells → held s.file ≡ Some octets) × (script octets ≡ Ok ls) → scripts.full_line (sending_of s) ls ≡ Some line
    → Stops WorldTells held (Send s) Call Object (Refused 0 (AtLine line Full))
full_refused WorldTells held s Call Object ls line r full =
    let made : List Made = record { name = s.out; octets = scripts.recording (sending_of s) ls } ∷ [] in
    refused_at WorldTells held s Call Object line Full (r.0, r.1, ap (sends s) r.2 ∙ ap (λ o. unless_full o (Makes [] made)) full)

-- ---- a recording that is made
pub recorded : (s : SendWords) (octets file : List ℕ) (ls : List ScriptLine) → script octets ≡ Ok ls → scripts.full_line (sending_of s) ls ≡ None
    → file ≡ scripts.recording (sending_of s) ls → sends s (script octets) ≡ Makes [] (record { name = s.out; octets = file } ∷ [])
recorded s octets file ls read room is =
    let made : List ℕ → List Made = λ f. record { name = s.out; octets = f } ∷ [] in
    ap (sends s) read ∙ (ap (λ o. unless_full o (Makes [] (made (scripts.recording (sending_of s) ls)))) room ∙ ap (λ f. Makes [] (made f)) (sym is))

-- ---- how a command ends that makes one file of what it reads

module _ (c : Command) (input out : List ℕ) (next : List ℕ → Steps) (is_work : (work c).steps ≡ Reads input next) where
  output_is : (WorldTells : Type 0) (held : Contents) (octets file : List ℕ) → (WorldTells → held input ≡ Some octets)
      → next octets ≡ Makes [] (made_file out file ∷ []) → IsOutput WorldTells held (work c).steps 0 out
  output_is WorldTells held octets file t e =
      subst (λ steps. IsOutput WorldTells held steps 0 out) (sym is_work) (octets, t, subst (λ steps. IsOutput WorldTells held steps 0 out) (sym e) refl)

  made_of : (held : Contents) (octets file : List ℕ) → held input ≡ Some octets
      → next octets ≡ Makes [] (made_file out file ∷ []) → outcome held (work c).steps ≡ Done [] (made_file out file ∷ [])
  made_of held octets file h e = ap (outcome held) is_work ∙ (lies held input next octets h ∙ ap (outcome_from 1 held) e)

  pub only_makes : (WorldTells : Type 0) (held : Contents) (octets file : List ℕ) → (WorldTells → held input ≡ Some octets)
      → next octets ≡ Makes [] (made_file out file ∷ [])
      → IsOutput WorldTells held (work c).steps 0 out × (WorldTells → outcome held (work c).steps ≡ Done [] (made_file out file ∷ []))
  only_makes WorldTells held octets file t e = (output_is WorldTells held octets file t e, λ told. made_of held octets file (t told) e)

-- what was changed before the file is made is nothing
partly_after : (Call Object CallBefore ObjectBefore : Type 0) (file : Made) (old between new : Contents) → (CallBefore → Call) → (ObjectBefore → Object) → Same old between
    → IsPartlyStored CallBefore ObjectBefore file between new → IsPartlyStored Call Object file old new
partly_after Call Object CallBefore ObjectBefore file old between new f g same (inl p) = inl (f p.0, λ name. p.1 name ∙ same name)
partly_after Call Object CallBefore ObjectBefore file old between new f g same (inr p) =
    inr (g p.0, (p.1.0, stores_after (record file { octets = take p.1.0 file.octets }) old between new same p.1.1))

append_none : (xs : List ℕ) → xs ≡ xs ++ []
append_none [] = refl
append_none (x ∷ xs) = ap (λ ys. x ∷ ys) (append_none xs)

pub saves : (c : Command) (input out : List ℕ) (WorldTells OutTells : Type 0) (old new : Outside) (between : Contents) (calls objects : List ℕ → ℕ) (file : List ℕ) (res : Ending)
    → (WhereRead (work c).steps WorldTells → WorldTells) → IsOutput WorldTells old.contents (work c).steps 0 out
    → (WorldTells → outcome old.contents (work c).steps ≡ Done [] (made_file out file ∷ []))
    → new.out ≡ old.out → (WorldTells → Same old.contents between) → ((n : List ℕ) → old.calls n ≤ calls n) → ((n : List ℕ) → old.objects n ≤ objects n)
    → IfErr res (λ fault. fault ≡ CannotWrite 0)
    → (WorldTells → OnOk res (Stores (made_file out file) between new.contents))
    → OnErr res (Rose (calls out) (new.calls out) ⊎ Rose (objects out) (new.objects out))
    → (WorldTells → OnErr res (IsPartlyStored (Rose (calls out) (new.calls out)) (Rose (objects out) (new.objects out)) (made_file out file) between new.contents))
    → Ends c WorldTells OutTells old new (name_in input out res) res
saves c input out WorldTells OutTells old new between calls objects file (Ok u) reads path made same_out same f g fault saved cause partly =
    λ read. done (outcome old.contents (work c).steps) [] (made_file out file ∷ [])
    (λ printed files. (WorldTells → AllStored files old.contents new.contents) × (OutTells → new.out.octets ≡ old.out.octets ++ printed))
    (made (reads read)) (
      (λ told. (new.contents, stores_after (made_file out file) old.contents between new.contents (same told) (saved told), λ name. refl)),
      λ shown. ap (λ (o : Output). o.octets) same_out ∙ append_none old.out.octets,
    )
saves c input out WorldTells OutTells old new between calls objects file (Err fault) reads path made same_out same f g is saved cause partly =
    let P : Fault → Type 0 = λ q. Ends c WorldTells OutTells old new (name_in input out (Err q)) (Err q) in
    let call : Rose (calls out) (new.calls out) → CallFailed old new out = λ r. rose_since (old.calls out) (calls out) (new.calls out) (f out) r in
    let object : Rose (objects out) (new.objects out) → ObjectFailed old new out = λ r. rose_since (old.objects out) (objects out) (new.objects out) (g out) r in
    subst P (sym is) (
      path,
      either (Rose (calls out) (new.calls out)) (Rose (objects out) (new.objects out)) (CallFailed old new out) (ObjectFailed old new out) call object cause,
      (λ shown. ap (λ (o : Output). o.octets) same_out),
      λ told. done (outcome old.contents (work c).steps) [] (made_file out file ∷ [])
          (λ printed files. PartlyStored (CallFailed old new) (ObjectFailed old new) 0 files old.contents new.contents)
          (made told)
          (partly_after (CallFailed old new out) (ObjectFailed old new out) (Rose (calls out) (new.calls out)) (Rose (objects out) (new.objects out))
          (made_file out file) old.contents between new.contents call object (same told) (partly told)),
    )

-- A source that failed, and was handed back.
use Rattle.std.proofs.Common.{◌≡◌, ℕ, ◌+◌, List, inl, inr, ap, subst, ◌∙◌, arith}
use Rattle.std.proofs.lemmas.Bool.{cases_lt}
use Rattle.rtt_io.specs.Counts.{Rose, counted, last_count}
use Rattle.command_spec.specs.declared.faults.Refusal.TheVariants.{AtByte, AtFrame, AtLine, AtTrunk, AfterTurns}
use Rattle.command_spec.specs.declared.faults.Fault.{Fault}
use Rattle.command_spec.specs.declared.faults.Fault.TheVariants.{WrongWords, CannotOpen, CannotRead, Refused, CannotPrint, CannotWrite, LinkFailed, NoMemory}
use Rattle.rtt_show.specs.declared.heads.HeadReader.{HeadReader}
use Rattle.rtt_top.specs.Faults.{IsOfRecording}

-- the source of a recording that was looked at
pub same_source : {S : Type 0} (o p : HeadReader S) → o ≡ p → o.source ≡ p.source
same_source {S} o p e = ap (λ (q : HeadReader S). q.source) e

counted_rose : (before after faults : ℕ) → after ≡ counted before faults → Rose 0 faults → Rose before after
counted_rose before after faults e (inl r) = elim (cases_lt (before + faults) last_count) [ inl lt ↦ inl (omega arith) | inr ge ↦ inr (omega arith) ]
counted_rose before after faults e (inr r) = inr (omega arith)

-- the count of its name rose
pub source_failed : {S : Type 0} (name_of : S → List ℕ) (faults : S → ℕ) (before between after : List ℕ → ℕ) (file : List ℕ) (opened now back : S)
    → name_of opened ≡ file → faults opened ≡ 0 → name_of now ≡ name_of opened → back ≡ now → ((n : List ℕ) → between n ≡ before n)
    → after (name_of back) ≡ counted (between (name_of back)) (faults back) → Rose (faults opened) (faults now) → Rose (before file) (after file)
source_failed name_of faults before between after file opened now back is_file fresh same is_back kept added rose =
    let named : name_of back ≡ file = ap name_of is_back ∙ (same ∙ is_file) in
    let P : List ℕ → Type 0 = λ f. after f ≡ counted (between f) (faults back) in
    let sum : after file ≡ counted (before file) (faults now) =
    subst P named added ∙ (ap (λ k. counted k (faults back)) (kept file) ∙ ap (λ s. counted (before file) (faults s)) is_back) in
    let Q : ℕ → Type 0 = λ k. Rose k (faults now) in
    counted_rose (before file) (after file) (faults now) sum (subst Q fresh rose)

pub of_recording : (A B : Type 0) → (A → B) → (fault : Fault) → IsOfRecording A fault → IsOfRecording B fault
of_recording A B f WrongWords u = u
of_recording A B f (CannotOpen n) u = u
of_recording A B f (CannotRead n) u = (u.0, f u.1)
of_recording A B f (Refused n (AtByte byte kind)) u = u
of_recording A B f (Refused n (AtFrame byte kind)) u = u
of_recording A B f (Refused n (AtLine line kind)) u = u
of_recording A B f (Refused n (AtTrunk line)) u = u
of_recording A B f (Refused n (AfterTurns turns)) u = u
of_recording A B f CannotPrint u = u
of_recording A B f (CannotWrite n) u = u
of_recording A B f (LinkFailed leg) u = u
of_recording A B f NoMemory u = tt

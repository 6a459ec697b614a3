-- A conference that is read.
use Rattle.std.proofs.Common.{◌≡◌, ℕ, ◌+◌, ◌<◌, true, cond, Option, Some, List, length, Ok, Err, refl, ap, subst, sym, ◌∙◌, inl, inr, arith}
use Rattle.std.specs.Prelude.{nat_lt}
use Rattle.std.proofs.lemmas.Bool.Decides.{nat_tests}
use Rattle.std.specs.Str.Lines.{lines}
use Rattle.rtt_base.specs.Steps.{◌>>=◌}
use Rattle.file_spec.specs.declared.kinds.ConfKind.{ConfKind}
use Rattle.file_spec.specs.declared.kinds.ConfKind.TheVariants.{Large}
use Rattle.file_spec.specs.declared.conference_lines.Form.{Form}
use Rattle.file_spec.specs.declared.conference_lines.Form.TheVariants.{Files, Links}
use Rattle.file_spec.specs.Lines.{Refusal, told, at_line, read_lines}
use Rattle.file_spec.specs.Conference.{Conference, and_line, complete, conference_from, is_blank, nothing}
use Rattle.command_spec.specs.declared.faults.Refusal.TheVariants.{AtLine}
use Rattle.command_spec.specs.declared.faults.Fault.TheVariants.{Refused}
use Rattle.rtt_words.specs.Words.{Attend, Command, Live, Mix}
use Rattle.command_spec.specs.Work.{Contents}
use Rattle.command_spec.specs.Attending.{attends_read}
use Rattle.command_spec.specs.Mixing.{mixes_read}
use Rattle.command_spec.specs.Serving.{serves_read}
use Rattle.rtt_top.specs.declared.mix_modes.MixMode.{MixMode}
use Rattle.rtt_top.specs.declared.mix_modes.MixMode.TheVariants.{Attending, Plain}
use Rattle.rtt_top.specs.Files.{IsFrontOf}
use Rattle.rtt_top.specs.Conferences.{AsksConference}
use Rattle.rtt_top.specs.Recorded.{asked_as}
use Rattle.rtt_top.specs.Faults.{RefusesSo, Stops}
use Rattle.rtt_top.proofs.Working.{refuses_of}
use Rattle.rtt_top.proofs.Lying.{lying_octets}

abbrev large : Refusal
large = record { line = 0; kind = Large }

too_large : (form : Form) (octets : List ℕ) → 262144 < length octets → conference_from form octets ≡ Err large
too_large form octets l =
    let over : nat_lt 262144 (length octets) ≡ true = grind (arith, nat_tests) in
    ap (λ b. cond b (Err large) (read_lines (and_line form) nothing (told is_blank 1 (lines octets))
    >>= λ above. at_line (length (lines octets) + 1) (complete above above.mixer))) over

accepted_front : (form : Form) (octets whole : List ℕ) (c : Conference) → IsFrontOf 262144 octets whole → conference_from form octets ≡ Ok c → whole ≡ octets
accepted_front form octets whole c (inl e) s = e
accepted_front form octets whole c (inr f) s = let over = too_large form octets f.0 in absurd (cc (s, over))

-- the octets that were read, which lie there as far as that is told
pub read_conf_octets : (form : Form) (WorldTells : Type 0) (held : Option (List ℕ)) (octets : List ℕ) (c : Conference) → (WorldTells → (whole : List ℕ) × (held ≡ Some whole) × IsFrontOf 262144 octets whole)
    → conference_from form octets ≡ Ok c → (o : List ℕ) × (WorldTells → held ≡ Some o) × (conference_from form o ≡ Ok c)
read_conf_octets form WorldTells held octets c given s = (octets, λ t. let g = given t in g.1 ∙ ap (λ (o : List ℕ). Some o) (accepted_front form octets g.0 c g.2 s), s)

pub conference_refused : (form : Form) (WorldTells : Type 0) (held : Contents) (file : List ℕ) (c : Command) (Call Object : Type 0) (octets : List ℕ) (line : ℕ) (kind : ConfKind) → AsksConference form file c
    → (WorldTells → (whole : List ℕ) × (held file ≡ Some whole) × IsFrontOf 262144 octets whole) → conference_from form octets ≡ Err (record { line = line; kind = kind })
    → Stops WorldTells held c Call Object (Refused 0 (AtLine line kind))
conference_refused form WorldTells held file c Call Object octets line kind reads given e =
    let o = lying_octets WorldTells 262144 (conference_from form) (held file) octets (λ a b l k. too_large form a l ∙ sym (too_large form b k)) given in (
      refl,
      subst (λ steps. RefusesSo WorldTells held steps 0 (AtLine line kind)) (sym reads.steps)
          (refuses_of WorldTells held file reads.next 0 (AtLine line kind) o.0 o.1 (reads.refuses o.0 (record { line = line; kind = kind }) (o.2 ∙ e))),
    )

-- ---- what reads a conference
pub mix_reads : (file : List ℕ) → AsksConference Files file (Mix (record { conference = file }))
mix_reads file = record { next = λ octets. mixes_read (conference_from Files octets); steps = refl; refuses = λ octets refusal e. ap mixes_read e }

pub attend_reads : (file : List ℕ) → AsksConference Files file (Attend (record { conference = file }))
attend_reads file = record { next = λ octets. attends_read (conference_from Files octets); steps = refl; refuses = λ octets refusal e. ap attends_read e }

pub reads_as : (mixing : MixMode) (file : List ℕ) → AsksConference Files file (asked_as mixing (record { conference = file }))
reads_as Plain file = mix_reads file
reads_as Attending file = attend_reads file

pub live_reads : (file : List ℕ) → AsksConference Links file (Live (record { conference = file }))
live_reads file = record { next = λ octets. serves_read (conference_from Links octets); steps = refl; refuses = λ octets refusal e. ap serves_read e }

-- What comes to the mixing of a conference: `mix`, and `attend` with what the inputs tell of their legs.
use Rattle.std.proofs.Common.{◌≡◌, ℕ, ◌+◌, Some, Ok, List, length, refl, ap, sym, subst, ◌∙◌}
use Rattle.std.specs.Prelude.{IsSome}
use Rattle.file_spec.specs.declared.conference_lines.Form.TheVariants.{Files}
use Rattle.file_spec.specs.declared.conference_lines.LegLine.{LegLine}
use Rattle.file_spec.specs.Conference.{Conference, conference_from}
use Rattle.mixer_spec.specs.Setups.{leg_at}
use Rattle.rtt_words.specs.Words.{Attend, Mix}
use Rattle.command_spec.specs.Work.{Contents, IsInput, IsOutput}
use Rattle.command_spec.specs.Outcomes.{Same, outcome_from}
use Rattle.command_spec.specs.Inputs.{AllLie, LieBelow, inputs_under}
use Rattle.command_spec.specs.Mixing.{mixes, mixes_counted, mixes_read}
use Rattle.command_spec.specs.Attending.{Said, attending, attends, attends_read, named, named_by}
use Rattle.command_spec.proofs.Naming.{files_told}
use Rattle.command_spec.proofs.Outputs.{attended_output, is_output}
use Rattle.command_spec.proofs.SameFiles.{HaveFilesOf, back, same_inputs, same_many, there}
use Rattle.rtt_mix.specs.Mixes.{steps_of}
use Rattle.rtt_top.specs.Conferences.{ComesToMixing, steps_counted}
use Rattle.rtt_top.proofs.Chain.{chain, leg_input}
use Rattle.rtt_top.proofs.Working.{lies}
use Rattle.command_spec.proofs.SentBack.{below_legs as leg_within}

-- something lies under the input of each leg
each_lies : (held : Contents) (legs : List LegLine) → AllLie held legs → (k : ℕ) (leg : LegLine) → leg_at legs k ≡ Some leg → IsSome (held leg.input)
each_lies held legs lie k leg at = lie k leg (leg_within legs k leg at) at

pub mix_comes : (WorldTells : Type 0) (held : Contents) (file octets : List ℕ) (c : Conference) → (WorldTells → held file ≡ Some octets) → conference_from Files octets ≡ Ok c
    → ComesToMixing WorldTells held (Mix (record { conference = file })) c
mix_comes WorldTells held file octets c lies_there read = record {
  reads = λ t. t;
  prints = refl;
  mixed = refl;
  recordings = λ k. refl;
  input = λ k leg at lie. (octets, lies_there, subst (λ r. IsInput WorldTells held (mixes_read r) k leg.input) (sym read) (leg_input WorldTells held c.legs (mixes_counted c) k leg at lie));
  output = λ lie made. is_output WorldTells held file octets c lies_there read (λ told. each_lies held c.legs (lie told)) made;
  comes = λ told lie.
      lies held file (λ o. mixes_read (conference_from Files o)) octets (lies_there told)
      ∙ (ap (λ r. outcome_from 1 held (mixes_read r)) read ∙ chain held 1 c.legs (mixes_counted c) lie);
}

-- ---- other legs with the same files
lie_alike : (held : Contents) (olds news : List LegLine) → HaveFilesOf olds news → (n : ℕ) → LieBelow n held news → LieBelow n held olds
lie_alike held olds news same n lie k old less at =
    let new = there olds news same k old at in subst (λ name. IsSome (held name)) new.2.input (lie k new.0 less new.1)

pub all_lie_alike : (held : Contents) (olds news : List LegLine) → HaveFilesOf olds news → AllLie held news → AllLie held olds
all_lie_alike held olds news same lie = lie_alike held olds news same (length olds) (subst (λ n. LieBelow n held news) (same_many olds news same) lie)

-- what the inputs tell of the legs of a conference, as far as that is told
pub record IsToldOf (WorldTells : Type 0) (held : Contents) (c now : Conference) : Type 0 where
  pub says : ℕ → Said
  pub is : now ≡ named_by says c
  pub named : WorldTells → now ≡ named c (inputs_under held c.legs)

pub same_files_of : (WorldTells : Type 0) (held : Contents) (c now : Conference) → IsToldOf WorldTells held c now → HaveFilesOf c.legs now.legs
same_files_of WorldTells held c now n = subst (λ (d : Conference). HaveFilesOf c.legs d.legs) (sym n.is) (files_told c.wait n.says (length c.legs) c.legs)

-- the steps of the one are those of the other, with what the inputs tell
mixes_alike : (WorldTells : Type 0) (held : Contents) (c now : Conference) → IsToldOf WorldTells held c now → WorldTells → steps_of held now ≡ mixes (named c (inputs_under held c.legs)) (inputs_under held c.legs)
mixes_alike WorldTells held c now n told =
    ap (mixes now) (same_inputs held c.legs now.legs (same_files_of WorldTells held c now n)) ∙ ap (λ (d : Conference). mixes d (inputs_under held c.legs)) (n.named told)

steps_alike : (WorldTells : Type 0) (held : Contents) (c now : Conference) → IsToldOf WorldTells held c now → WorldTells → steps_counted held now ≡ attends c (inputs_under held c.legs)
steps_alike WorldTells held c now n told =
    ap (mixes_counted now) (same_inputs held c.legs now.legs (same_files_of WorldTells held c now n)) ∙ ap (λ (d : Conference). mixes_counted d (inputs_under held c.legs)) (n.named told)

pub attend_comes : (WorldTells : Type 0) (held : Contents) (file octets : List ℕ) (c now : Conference) → (WorldTells → held file ≡ Some octets) → conference_from Files octets ≡ Ok c → IsToldOf WorldTells held c now
    → ComesToMixing WorldTells held (Attend (record { conference = file })) now
attend_comes WorldTells held file octets c now lies_there read n = record {
  reads = λ t. t;
  prints = refl;
  mixed = refl;
  recordings = λ k. refl;
  input = λ k leg at lie.
      let old = back c.legs now.legs same k leg at in (
        octets,
        lies_there,
        subst (λ name. IsInput WorldTells held (attends_read (conference_from Files octets)) k name) (sym old.2.input)
            (subst (λ r. IsInput WorldTells held (attends_read r) k old.0.input) (sym read)
            (leg_input WorldTells held c.legs (attends c) k old.0 old.1 (λ told. lie_alike held c.legs now.legs same k (lie told)))),
      );
  output = λ lie made k leg at.
      let old = back c.legs now.legs same k leg at in
      subst (λ name. IsOutput WorldTells held (attending file) k name) (sym old.2.output)
      (attended_output WorldTells held file octets c lies_there read (λ told. each_lies held c.legs (all_lie_alike held c.legs now.legs same (lie told)))
      (λ told. let m = made told in (m.0, m.1, sym (mixes_alike WorldTells held c now n told) ∙ m.2)) k old.0 old.1);
  comes = λ told lie.
      lies held file (λ o. attends_read (conference_from Files o)) octets (lies_there told)
      ∙ (ap (λ r. outcome_from 1 held (attends_read r)) read
      ∙ (chain held 1 c.legs (attends c) (all_lie_alike held c.legs now.legs same lie)
      ∙ (ap (outcome_from (length c.legs + 1) held) (sym (steps_alike WorldTells held c now n told))
      ∙ ap (λ k. outcome_from (k + 1) held (steps_counted held now)) (sym (same_many c.legs now.legs same)))));
}
  where
    same : HaveFilesOf c.legs now.legs
    same = same_files_of WorldTells held c now n

-- the same where as much lies there
pub told_since : (WorldTells : Type 0) (held then : Contents) (c now : Conference) → (WorldTells → Same held then) → IsToldOf WorldTells held c now → IsToldOf WorldTells then c now
told_since WorldTells held then c now same n = record {
  says = n.says;
  is = n.is;
  named = λ told. n.named told ∙ ap (λ (h : Contents). named c (inputs_under h c.legs)) (λ i name. sym (same told name) i);
}

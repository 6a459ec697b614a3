use Rattle.std.proofs.Common.{◌+◌, ◌-◌, ◌∙◌, ◌∷◌, [], ap, refl}
use Rattle.command_spec.specs.Firsts.{Firsts, with_name}
use Rattle.rtt_show.specs.declared.surveys.Survey.{Survey}
use Rattle.rtt_show.proofs.Rowing.{survey_is}
use Rattle.rtt_show.proofs.surveys.Survey.of_row.Goals as goal

pub returns-clause-survey : goal.returns-clause-survey
returns-clause-survey c =
    let row = c.args.row in
    let first = c.from-first.result + 65536 in
    let s : Survey = record {
      from = row.from;
      to = row.to;
      refused = 0 ∷ 0 ∷ 0 ∷ 0 ∷ 0 ∷ 0 ∷ 0 ∷ 0 ∷ 0 ∷ 0 ∷ [];
      sources = c.name.new.self;
      spread = record { packets = row.packets; first = first; top = first + (row.packets - 1) };
    } in
    survey_is row s c.requires.some refl refl refl (c.in_ok-name.ensures.named ∙ ap (λ (f : Firsts). with_name f row.source) c.new-sources.ensures.none) refl (ap (λ n. n + 65536) c.from-first.ensures) (ap (λ n. n + 65536 + (row.packets - 1)) c.from-first.ensures)

pub returns-clause-kept : goal.returns-clause-kept
returns-clause-kept c = ap (λ (f : Firsts). f.kept) (c.in_ok-name.ensures.named ∙ ap (λ (f : Firsts). with_name f c.args.row.source) c.new-sources.ensures.none)

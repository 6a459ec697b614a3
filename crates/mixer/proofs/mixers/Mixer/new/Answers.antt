use Rattle.std.proofs.Common.{◌≡◌, ℕ, List, [], length, map, refl, ap, sym, ◌∙◌, arith}
use Rattle.std.specs.Prelude.{slice_index_or, if◌then◌else◌}
use Rattle.std.proofs.lemmas.List.{length-map}
use Rattle.file_spec.specs.declared.conference_lines.LegLine.{LegLine}
use Rattle.mixer_spec.specs.Setups.{setup}
use Rattle.mixer_spec.proofs.Conferences.{setup_law}
use Rattle.file_spec.specs.Conferences.{meaning_of}
use Rattle.mixer.specs.Making.{source_counts}
use Rattle.mixer.proofs.Counting.{counts_are}
use Rattle.mixer.proofs.Made.{name_there}
use Rattle.mixer.proofs.mixers.Mixer.new.Goals as goal

pub invariant_of-result : goal.invariant_of-result
invariant_of-result c =
    let legs : length c.as_slice-legs.result.now ≡ length c.args.conference.now.legs = ap (λ (xs : List LegLine). length xs) c.as_slice-legs.ensures in
    let made = c.in_ok-schedulers.ensures in
    let names : length c.in_ok-names.names.items ≡ length c.as_slice-legs.result.now = ap (λ (xs : List (List ℕ)). length xs) c.in_ok-names.ensures ∙ length-map c.as_slice-legs.result.now (λ l. l.name) in
    record {
      seats = c.in_ok-seating.ensures.legs ∙ (legs ∙ sym made.count);
      slots = c.in_ok-slots.ensures.legs ∙ (legs ∙ sym made.count);
      names = names ∙ (legs ∙ sym made.count);
      schedulers = λ j o g. let m = made.each j o g in record { own = m.own; all = m.legs ∙ sym made.count; next = omega (arith, m.next) };
      media = tt;
      turns = omega arith;
      calm = λ j o g e s k d h seats now t l. absurd (omega (arith, l));
    }

pub returns-clause-sources : goal.returns-clause-sources
returns-clause-sources c =
    let conference = meaning_of c.args.conference.now in
    let made = c.in_ok-schedulers.ensures in
    counts_are c.in_ok-schedulers.schedulers.items (source_counts conference) (made.count ∙ sym (length-map conference.legs (λ l. if l.aware then length conference.legs else 1))) (λ j o g. (made.each j o g).sources)

pub returns-clause-stands : goal.returns-clause-stands
returns-clause-stands c =
    let conference = meaning_of c.args.conference.now in
    let kept = c.args.conference.now.kept in
    let legs : length c.as_slice-legs.result.now ≡ length conference.legs = ap (λ (xs : List LegLine). length xs) c.as_slice-legs.ensures in
    let made = c.in_ok-schedulers.ensures in
    let names : c.in_ok-names.names.items ≡ map (λ l. l.name) conference.legs = c.in_ok-names.ensures ∙ ap (λ (xs : List LegLine). map (λ l. l.name) xs) c.as_slice-legs.ensures in
    record {
      setup = setup_law conference kept;
      near = omega (arith, kept.spacing.high);
      step = refl;
      allowed = tt;
      keeps = record {
        legs = made.count;
        seats = c.in_ok-seating.ensures.stands (setup conference) (sym legs) refl;
        waits = c.in_ok-slots.ensures.stands (setup conference) (sym legs);
        schedulers = λ j o g. (made.each j o g).stands;
        names = λ i l. ap (λ (xs : List (List ℕ)). slice_index_or xs i []) names ∙ name_there conference.legs i l;
      };
      media = refl;
      turns = refl;
    }

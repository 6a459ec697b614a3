use Rattle.unaware_view.proofs.composers.give.Goals as goal
use Rattle.std.proofs.Common.{ℕ, ◌≡◌, ◌<◌, List, [], length, subst, sym, ◌∙◌, arith}
use Rattle.std.proofs.lemmas.List.{get_or_default}
use Rattle.mixer_spec.specs.Composed.{after_cr}
use Rattle.unaware_view.specs.declared.composers.Choice.{Choice}
use Rattle.unaware_view.specs.Choices.{IsBelow}
use Rattle.unaware_view.specs.Giving.{Gives, GivesHeaded, GivesMore, GivesRun}
use Rattle.unaware_view.specs.Standing.{name_at}
use Rattle.unaware_view.proofs.Written.{begun_is}

pub returns-in-Begins-clause-gives : goal.returns-in-Begins-clause-gives
returns-in-Begins-clause-gives c = λ s t h alone behind_cr before a r.
    let i = c.in-Begins.speaker in
    let below : i < length c.args.slots.now = subst (IsBelow (length c.args.slots.now)) c.in-Begins.is c.requires.leg in
    let named : c.index-names-speaker.result ≡ name_at c.args.names.now i = c.index-names-speaker.is ∙ get_or_default c.args.names.now i c.index-names-speaker.result [] (omega (arith, below, c.requires.names)) in
    let run : GivesRun s t c.args.own c.args.room (name_at c.args.names.now i) c.args.run.now c.give_headed.new.run (after_cr alone behind_cr before) i c.give_headed.new.text c.give_headed.new.slots = record {
      start = c.begin.new.self;
      begun = c.begin.ensures;
      headed =
          subst (λ (n : List ℕ). GivesHeaded s t c.args.own c.args.room n c.begin.new.self c.give_headed.new.run (after_cr alone behind_cr before) [] i c.give_headed.new.text c.give_headed.new.slots) named
          (c.give_headed.ensures.gives s t h (after_cr alone behind_cr before) [] (a i) (begun_is c.args.run.now c.begin.new.self alone behind_cr before r c.begin.ensures));
    } in
    subst (λ (k : Choice). Gives s t c.args.own c.args.room c.args.names.now c.args.run.now c.give_headed.new.run alone behind_cr before k c.give_headed.new.text c.give_headed.new.slots) (sym c.in-Begins.is) run

pub returns-in-GoesOn-clause-gives : goal.returns-in-GoesOn-clause-gives
returns-in-GoesOn-clause-gives c = λ s t h alone behind_cr before a r.
    let i = c.in-GoesOn.speaker in
    let below : i < length c.args.slots.now = subst (IsBelow (length c.args.slots.now)) c.in-GoesOn.is c.requires.leg in
    let named : c.index-names-speaker-in-GoesOn.result ≡ name_at c.args.names.now i = c.index-names-speaker-in-GoesOn.is ∙ get_or_default c.args.names.now i c.index-names-speaker-in-GoesOn.result [] (omega (arith, below, c.requires.names)) in
    let more : GivesMore s t c.args.own c.args.room (name_at c.args.names.now i) c.args.run.now c.give_more.new.run alone behind_cr before i c.give_more.new.text c.give_more.new.slots =
    subst (λ (n : List ℕ). GivesMore s t c.args.own c.args.room n c.args.run.now c.give_more.new.run alone behind_cr before i c.give_more.new.text c.give_more.new.slots) named (c.give_more.ensures.gives s t h alone behind_cr before (a i) r) in
    subst (λ (k : Choice). Gives s t c.args.own c.args.room c.args.names.now c.args.run.now c.give_more.new.run alone behind_cr before k c.give_more.new.text c.give_more.new.slots) (sym c.in-GoesOn.is) more

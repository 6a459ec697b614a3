use Rattle.unaware_view.proofs.composers.Composer.new.Goals as goal
use Rattle.std.proofs.Common.{rules, ℕ, ◌≡◌, None, Option, List, length, replicate, refl, ap, sym, ◌∙◌, arith}
use Rattle.std.proofs.lemmas.List.{get_or-replicate, length-replicate}
use Rattle.unaware_view.specs.Choices.{since_at}
use Rattle.unaware_view.proofs.Turning.{at_first, no_text}

pub returns-clause-stands : goal.returns-clause-stands
returns-clause-stands c = λ s e room again.
    let none : Option ℕ = None in
    let all : c.in_ok-vec-2.field-0.items ≡ replicate c.args.legs none = c.in_ok-vec-2.ensures.items_if_clones_equal (λ y q. search rules) in
    record {
      legs = ap (λ (xs : List (Option ℕ)). length xs) all ∙ (length-replicate c.args.legs none ∙ sym e);
      current = tt;
      waits_since = λ i l o. ap (λ (xs : List (Option ℕ)). since_at xs i) all ∙ get_or-replicate c.args.legs i none none (omega (arith, l, e));
      run = record { is_run = at_first c.new.result c.new.ensures.run; utf8 = no_text; chunk = c.new.ensures.empty; begun = refl; line = c.new.ensures.closed };
      asked = refl;
      relabel = sym again;
      room = sym room;
    }

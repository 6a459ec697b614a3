use Rattle.unaware_view.proofs.composers.head.Goals as goal
use Rattle.std.proofs.Common.{ℕ, List, false, length, subst, sym, ap, ◌∙◌, arith}
use Rattle.mixer_spec.proofs.Texts.{label_less}
use Rattle.std.proofs.lemmas.Bool.{not-true, not-false}
use Rattle.unaware_view.specs.Runs.{GoesOn}
use Rattle.unaware_view.proofs.Written.{heads_none, heads_some, no_chunks}

pub returns-then-is_empty-clause-heads : goal.returns-then-is_empty-clause-heads
returns-then-is_empty-clause-heads c behind_cr before chunks r a e =
    heads_none c.args.name.now c.args.run.now c.begin_alone.new.self behind_cr before chunks c.begin_alone.new.out
    (not-true _ (sym (no_chunks c.args.octets.now chunks a e) ∙ (sym c.is_empty.ensures ∙ c.if-is_empty.true))) c.begin_alone.ensures.alone

pub returns-clause-heads : goal.returns-clause-heads
returns-clause-heads c behind_cr before chunks r a e =
    heads_some c.args.name.now c.args.run.now c.write.new.run behind_cr before chunks c.write.new.text
    (not-false _ (sym (no_chunks c.args.octets.now chunks a e) ∙ (sym c.is_empty.ensures ∙ c.if-is_empty.false)))
    (subst (λ (l : List ℕ). GoesOn c.args.name.now c.args.run.now c.write.new.run false behind_cr before chunks l c.write.new.text) c.requires.text (c.write.ensures.goes_on false behind_cr before chunks r a e))

pub begin_alone-requires-clause-fits : goal.begin_alone-requires-clause-fits
begin_alone-requires-clause-fits c =
    let none = ap length c.requires.text in
    let octets = c.requires.fits in
    omega (arith, none, octets, label_less c.args.run.now.is_open c.args.name.now)

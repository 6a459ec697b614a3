use Rattle.unaware_view.proofs.runs.Run.write.Goals as goal
use Rattle.std.proofs.Common.{◌≡◌, [], sym, ◌∙◌, arith, length, chars}
use Rattle.std.proofs.lemmas.List.{nil_from_length}
use Rattle.std.proofs.lemmas.Bool.{eqb-true}
use Rattle.view_spec.specs.TextViews.{without_directions}
use Rattle.unaware_view.proofs.RunSteps.{write_end}

pub returns-clause-sends : goal.returns-clause-sends
returns-clause-sends c alone behind_cr run u h =
    let rest = c.loop-rest.rest.now in
    let none : rest ≡ [] = nil_from_length rest (eqb-true (length rest) 0 (sym c.is_empty.ensures ∙ c.loop-rest-test.false)) in
    write_end c.args.name.now c.args.self.now c.loop-rest.self alone behind_cr run (without_directions (chars c.args.text.now)) c.args.out.now c.loop-rest.out rest none (c.loop-rest.invariant.writes alone behind_cr run u h)

pub loop-rest-preserved : goal.loop-rest-preserved
loop-rest-preserved c = record {
  text = c.write_first-rest.utf8;
  writes = λ alone behind_cr run u h.
      let cs = without_directions (chars c.args.text.now) in
      c.write_first-rest.ensures.writes c.args.self.now alone behind_cr run cs c.args.out.now
      (c.write_plain-others.ensures.writes c.args.self.now alone behind_cr run cs c.args.out.now (c.loop-rest.invariant.writes alone behind_cr run u h));
  bound = omega (arith, c.write_first-rest.ensures.bound, c.write_plain-others.ensures.bound, c.loop-rest.invariant.bound);
  kept = c.write_first-rest.ensures.kept ∙ (c.write_plain-others.ensures.kept ∙ c.loop-rest.invariant.kept);
  fits = c.write_first-rest.ensures.fits;
}

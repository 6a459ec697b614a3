use Rattle.std.proofs.Common.{◌≡◌, ◌+◌, ◌-◌, ℕ, List, get_or, ap, subst, ◌∙◌, arith}
use Rattle.std.specs.List.Sorted.{IsNonDecreasingBy}
use Rattle.std.proofs.lemmas.List.{get_or_default, take_all}
use Rattle.sent_log.specs.declared.terminals.LoggedPacket.{LoggedPacket}
use Rattle.sent_log.specs.Insides.{turn_at}
use Rattle.sent_log.proofs.Rendering.{rises_more}
use Rattle.sent_log.proofs.terminals.never_fall.Goals as goal

pub loop-entry-preserved : goal.loop-entry-preserved
loop-entry-preserved c =
    let moment = λ (e : LoggedPacket). (turn_at c.args.turns.now e.turn).now in
    let entries = c.args.entries.now in
    let i = c.loop-entry.entry-index in
    let none : LoggedPacket = record { turn = 0; place = 0; len = 0; source = 0 } in
    let entry = get_or entries i none in
    let l = c.loop-entry-test.true in
    record {
      rises =
          rises_more moment entries i entry c.loop-entry.last l (get_or_default entries i none entry l) c.loop-entry.invariant.rises c.loop-entry.invariant.last c.if-now-last.false;
      last = λ d p.
          let n : i + 1 - 1 ≡ i = omega arith in
          ap moment (ap (λ (k : ℕ). get_or entries k d) n ∙ get_or_default entries i d none l);
    }

pub returns : goal.returns
returns c = λ _.
    subst (λ (xs : List LoggedPacket). IsNonDecreasingBy (λ (e : LoggedPacket). (turn_at c.args.turns.now e.turn).now) xs) (take_all c.loop-entry.entry-index c.args.entries.now c.loop-entry-test.false) c.loop-entry.invariant.rises

use Rattle.std.proofs.Common.{◌<◌, List, length, sym, subst, arith}
use Rattle.std.specs.Prelude.{flat_map}
use Rattle.std.proofs.lemmas.List.{take_all}
use Rattle.mixer_spec.specs.Arrives.{item_of}
use Rattle.playback.specs.declared.copies.Arrival.{Arrival}
use Rattle.playback.specs.Arriving.{copies_of}
use Rattle.terminal.specs.Terminals.{Listens}
use Rattle.playback.proofs.PlayedCopies.{copies_more}
use Rattle.playback.proofs.heard_texts.hear_copies.Goals as goal

pub loop-copy-preserved : goal.loop-copy-preserved
loop-copy-preserved c =
    let i = c.loop-copy.invariant in
    let k = c.loop-copy.copy-index in
    let below : k < length c.args.copies.now = omega (arith, c.loop-copy-test.true) in
    record {
      few = omega (arith, i.few, c.hear_copy.ensures.packets);
      hears_on = c.hear_copy.ensures.open;
      heard = λ q sources all a f li.
          subst (Listens c.hear_copy.new.terminal q sources) (sym (copies_more all c.args.copies.now k _ below)) (c.in_ok-hear_copy.ensures.listens q sources _ all a f (i.heard q sources all a f li));
    }

pub returns-clause-listens : goal.returns-clause-listens
returns-clause-listens c = λ q sources all a f li.
    subst (λ (xs : List Arrival). Listens c.loop-copy.terminal q sources (flat_map (item_of all) (copies_of xs))) (take_all c.loop-copy.copy-index c.args.copies.now (omega (arith, c.loop-copy-test.false))) (c.loop-copy.invariant.heard q sources all a f li)

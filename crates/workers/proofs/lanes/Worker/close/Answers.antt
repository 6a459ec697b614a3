use Rattle.std.proofs.Common.{List, ◌++◌, ap, refl, sym, subst, ◌∙◌, append_assoc}
use Rattle.std.specs.Prelude.{option_to_list}
use Rattle.workers.specs.Passes.{popped}
use Rattle.workers.specs.declared.producers.GatedProducer.{GatedProducer}
use Rattle.workers.proofs.lanes.Worker.close.Goals as goal

pub returns : goal.returns
returns g c = λ first began.
    let lane = c.args.self in
    let x : GatedProducer _ _ = record { gives = first; gate = lane.gate; number = lane.number } in
    let feed = c.join_runner-feed.result in
    let left = c.close-gated.ensures.all in
    let more = left.0 ++ option_to_list feed.hand in
    let items = ap (λ l. l ++ option_to_list feed.hand) left.1 ∙ append_assoc (popped lane.pop) left.0 (option_to_list feed.hand) in (
      more,
      subst (λ (f : GatedProducer _ _). g.F.Producer.stands first f.gives (popped lane.pop ++ more)) (sym c.close-gated.ensures.is)
          (subst (λ (l : List g.row.Q.Denot). g.F.Producer.stands first feed.gives.gives l) items (c.join_runner-feed.ensures.stands x (began x refl))),
    )

use Rattle.unaware_view.proofs.composers.give_headed.Goals as goal
use Rattle.std.proofs.Common.{ℕ, ◌≡◌, ◌++◌, List, true, length, subst, ap, ◌∙◌, arith}
use Rattle.view_spec.specs.TextViews.{label_after}
use Rattle.mixer_spec.specs.Chunks.{joined, front}
use Rattle.mixer_spec.proofs.Texts.{front_texts}
use Rattle.mixer_places.specs.SlotStanding.{SlotsStandFor}
use Rattle.mixer_places.specs.Words.{fetched}
use Rattle.unaware_view.specs.Runs.{Heads}

pub head-requires-clause-fits : goal.head-requires-clause-fits
head-requires-clause-fits c =
    let name = ap (λ (n : List ℕ). length (label_after true n)) c.as_str.ensures in
    let octets = ap length c.as_slice.ensures.value in
    let none = ap length c.clear.ensures in
    omega (arith, name, octets, none, c.take.ensures.fits, c.room_beside-beside.ensures.fits)

pub returns-clause-gives : goal.returns-clause-gives
returns-clause-gives c = λ s t h behind_cr before a r.
    let w = (t.terminals c.args.own).waits c.args.speaker in
    let e : c.as_slice.result.now ≡ joined (front c.room_beside-beside.result w) =
    c.as_slice.ensures.value ∙ (c.take.ensures.text s t h ∙ ap (λ (l : List ℕ). l ++ joined (front c.room_beside-beside.result w)) c.clear.ensures) in
    let heads : Heads c.as_str.result.now c.args.run.now c.head.new.run behind_cr before (front c.room_beside-beside.result w) c.head.new.text =
    c.head.ensures.heads behind_cr before (front c.room_beside-beside.result w) r (front_texts c.room_beside-beside.result w a) e in
    record {
      heads =
          subst (λ (n : ℕ). Heads c.args.name.now c.args.run.now c.head.new.run behind_cr before (front n w) c.head.new.text) c.room_beside-beside.ensures.value
          (subst (λ (n : List ℕ). Heads n c.args.run.now c.head.new.run behind_cr before (front c.room_beside-beside.result w) c.head.new.text) c.as_str.ensures heads);
      stands = subst (λ (n : ℕ). SlotsStandFor s c.take.new.self (fetched c.args.own c.args.speaker n t)) c.room_beside-beside.ensures.value (c.take.ensures.stands s t h);
    }

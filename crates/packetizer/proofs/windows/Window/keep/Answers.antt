use Rattle.std.proofs.Common.{ℕ, List, take, set, ap, subst, sym, ◌∙◌}
use Rattle.packetizer.specs.declared.slots.KeptBlock.{KeptBlock}
use Rattle.packetizer.specs.WindowStanding.{WindowStandsFor}
use Rattle.packetizer.specs.Kept.{in_turn}
use Rattle.packetizer.proofs.Repeating.{kept_more, written_over, next_is, shifted}
use Rattle.packetizer.proofs.windows.Window.keep.Goals as goal
use Rattle.packetizer.proofs.windows.Window.keep.Goals.{then-self-2, else-self-2}

pub returns-after-self-2 : goal.returns-after-self-2
returns-after-self-2 c = λ g base past e s q t.
    let generations = c.self.inside.generations in
    let oldest = c.self.inside.oldest in
    let next = next_is generations oldest c.if-self-2.self
    (λ e. elim c.if-self-2.branch [ then-self-2 w ↦ w.self-is | else-self-2 w ↦ absurd (w.if-self-2.false e) ])
    (λ n. elim c.if-self-2.branch [ then-self-2 w ↦ absurd (n w.if-self-2.true) | else-self-2 w ↦ w.self-is ]) in
    let over = written_over generations oldest c.self.inside.places c.set.new.self c.self.invariant.2 c.self.invariant.0 c.if-self.true in
    kept_more g base past e c.args.timestamp c.args.text.now _ _ (subst (λ (kept : List KeptBlock). WindowStandsFor g base kept past) (sym c.self.view_is) s) q t
    (ap (λ (n : ℕ). in_turn n (take generations (set c.self.inside.places oldest c.set.new.self))) next
    ∙ (over ∙ ap (λ (b : KeptBlock). shifted (in_turn oldest (take generations c.self.inside.places)) b) c.set.ensures))

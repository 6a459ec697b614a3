use Rattle.std.proofs.Common.{ap, ◌∙◌, List, ℕ}
use Rattle.std.specs.Prelude.{slice_get}
use Rattle.packetizer.proofs.Fronts.{end_past, end_low, end_high}
use Rattle.packetizer.proofs.waiting_text.WaitingText.ends_at.Goals as goal

pub returns-in-None : goal.returns-in-None
returns-in-None c = end_past c.args.self.now c.args.place (c.in-None.ensures ∙ ap (λ (w : List ℕ). slice_get w c.args.place) c.self.view_is)

pub returns-then-octet-lt128 : goal.returns-then-octet-lt128
returns-then-octet-lt128 c = end_low c.args.self.now c.args.place c.in-Some.field-0.now (c.in-Some.ensures ∙ ap (λ (w : List ℕ). slice_get w c.args.place) c.self.view_is) c.if-octet-lt128.true

pub returns-else-octet-lt128 : goal.returns-else-octet-lt128
returns-else-octet-lt128 c = end_high c.args.self.now c.args.place c.in-Some.field-0.now (c.in-Some.ensures ∙ ap (λ (w : List ℕ). slice_get w c.args.place) c.self.view_is) c.if-octet-lt128.false

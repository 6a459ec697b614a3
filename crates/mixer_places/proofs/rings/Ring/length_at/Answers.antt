use Rattle.std.proofs.Common.{ap, ◌∙◌, None}
use Rattle.std.specs.Prelude.{slice_get}
use Rattle.mixer_places.specs.Rings.{Chunks}
use Rattle.mixer_places.proofs.Lists.{number_at}
use Rattle.mixer_places.proofs.rings.Ring.length_at.Goals as goal

pub returns-in-None-clause-value : goal.returns-in-None-clause-value
returns-in-None-clause-value c = number_at c.args.self.now.lengths c.args.index None (c.in-None.ensures ∙ ap (λ (w : Chunks). slice_get w.lengths c.args.index) c.self.view_is)

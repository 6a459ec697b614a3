use Rattle.std.proofs.Common.{ℕ, ◌∷◌, [], ap, ◌∙◌}
use Rattle.std.specs.Prelude.{take}
use Rattle.packetizer.specs.Kept.{in_turn}
use Rattle.packetizer.proofs.Repeating.{fresh}
use Rattle.packetizer.proofs.windows.Window.with.Goals as goal

pub returns : goal.returns
returns c = λ base. record {
  last = ap (λ (g : ℕ). in_turn 0 (take g (c.default.result ∷ c.default-2.result ∷ c.default-3.result ∷ []))) c.from.ensures
      ∙ fresh c.args.generations base c.default.result c.default-2.result c.default-3.result c.requires c.default.ensures c.default-2.ensures c.default-3.ensures;
}

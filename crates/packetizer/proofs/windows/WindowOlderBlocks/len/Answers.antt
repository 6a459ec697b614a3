use Rattle.std.proofs.Common.{List, ◌≡◌, length, subst, sym}
use Rattle.packetizer.specs.declared.slots.KeptBlock.{KeptBlock}
use Rattle.packetizer.specs.Kept.{blocks_kept}
use Rattle.packetizer.proofs.Repeating.{blocks_size}
use Rattle.packetizer.proofs.windows.WindowOlderBlocks.len.Goals as goal

pub returns : goal.returns
returns c = λ timestamp. subst (λ (kept : List KeptBlock). c.self.inside.generations ≡ length (blocks_kept timestamp kept)) c.self.view_is
    (sym (blocks_size c.self.inside.generations c.self.inside.oldest timestamp c.self.inside.places c.self.invariant.2 c.self.invariant.0 c.self.invariant.1))

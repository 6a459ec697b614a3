use Rattle.std.proofs.Common.{◌<◌, ℕ, List, Some, length, get_or, ap, subst, sym, ◌∙◌, arith}
use Rattle.std.specs.Prelude.{slice_get}
use Rattle.rtt_base.specs.declared.blocks.TextBlock.{TextBlock}
use Rattle.packetizer.specs.declared.slots.KeptBlock.{KeptBlock}
use Rattle.packetizer.specs.Kept.{blocks_kept}
use Rattle.packetizer.proofs.Repeating.{blocks_size, block_at}
use Rattle.packetizer.proofs.windows.WindowOlderBlocks.block.Goals as goal
use Rattle.packetizer.proofs.windows.WindowOlderBlocks.block.Goals.{then-behind-self, else-behind-self}

pub returns-clause-block : goal.returns-clause-block
returns-clause-block c =
    let g = c.self.inside.generations in
    let size = blocks_size g c.self.inside.oldest c.args.timestamp c.self.inside.places c.self.invariant.2 c.self.invariant.0 c.self.invariant.1 in
    let within : c.args.place < g = subst (λ (n : ℕ). c.args.place < n) size (subst (λ (kept : List KeptBlock). c.args.place < length (blocks_kept c.args.timestamp kept)) (sym c.self.view_is) c.requires) in
    let at = block_at g c.self.inside.oldest c.args.place c.if-behind-self.index c.args.timestamp c.self.inside.places c.index-self-index.result c.self.invariant.2 c.self.invariant.0 (omega (arith, within, c.self.invariant.1)) within
    (λ l. elim c.if-behind-self.branch [ then-behind-self w ↦ w.index-is | else-behind-self w ↦ let n = w.if-behind-self.false in absurd (omega (arith, l, n)) ])
    (λ l. elim c.if-behind-self.branch [ then-behind-self w ↦ let n = w.if-behind-self.true in absurd (omega (arith, l, n)) | else-behind-self w ↦ w.index-is ]) in
    ap (λ (kept : List KeptBlock). slice_get (blocks_kept c.args.timestamp kept) c.args.place) (sym c.self.view_is)
    ∙ (at ∙ (ap (λ (o : ℕ). let b : TextBlock = record { offset = o; text = (get_or c.self.inside.places c.if-behind-self.index c.index-self-index.result).text } in Some b) (sym c.offset.ensures.value)
    ∙ ap (λ (t : List ℕ). let b : TextBlock = record { offset = c.offset.result; text = t } in Some b) (sym c.as_slice.ensures.value)))

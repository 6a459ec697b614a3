use Rattle.std.proofs.Common.{length, List, ap, sym, ◌≡◌, ◌≤◌, ◌∙◌, Some, get_or, ℕ, arith}
use Rattle.rtt_base.specs.declared.blocks.TextBlock.{TextBlock}
use Rattle.rtp_text.specs.Writing.{clamped}
use Rattle.rtp_text.proofs.Spelling.{redundant_length, redundant_at}
use Rattle.rtp_text.proofs.block_writers.BlocksOlderBlocks.block.Goals as goal

pub offset_bounds-as_slice-place : goal.offset_bounds-as_slice-place
offset_bounds-as_slice-place c =
    let few : length c.as_slice.result.now ≤ 9 = c.as_slice.ensures.fits in
    omega (arith, few, c.requires, redundant_length c.args.self.now, ap (λ (bs : List TextBlock). length bs) c.as_slice.ensures.value)

pub bounds-as_slice-place : goal.bounds-as_slice-place
bounds-as_slice-place c = omega (arith, c.requires, redundant_length c.args.self.now, ap (λ (bs : List TextBlock). length bs) c.as_slice.ensures.value)

pub returns-clause-block : goal.returns-clause-block
returns-clause-block c =
    let is : c.index-as_slice-place.result ≡ get_or c.args.self.now c.args.place c.index-as_slice-place.result =
    c.index-as_slice-place.is ∙ ap (λ (bs : List TextBlock). get_or bs c.args.place c.index-as_slice-place.result) c.as_slice.ensures.value in
    redundant_at c.args.self.now c.args.place c.index-as_slice-place.result c.requires
    ∙ (ap (λ (b : TextBlock). Some (clamped b)) (sym is)
    ∙ (ap (λ (o : ℕ). let b : TextBlock = record { offset = o; text = c.index-as_slice-place.result.text } in Some b) (sym c.min.ensures)
    ∙ ap (λ (t : List ℕ). let b : TextBlock = record { offset = c.min.result; text = t } in Some b) (sym c.as_slice-2.ensures.value)))

use Rattle.std.proofs.Common.{List, ℕ, ◌≡◌, ◌-◌, length, map, get_or, ap, subst, ◌∙◌}
use Rattle.rtt_base.specs.declared.blocks.TextBlock.{TextBlock}
use Rattle.rtt_base.specs.Buffers.{Appends}
use Rattle.wire_spec.specs.Packets.{redundant, primary_text}
use Rattle.wire_spec.specs.Red.{red_spelling}
use Rattle.rtp_text.specs.Writing.{clamped}
use Rattle.rtp_text.proofs.Spelling.{clamped_all, primary_is}
use Rattle.rtp_text.proofs.block_writers.write_blocks.Goals as goal

pub returns : goal.returns
returns g c =
    let written = g.O.OctetBuffer.written in
    let is : c.index-all-all.result ≡ get_or c.args.blocks.now (length c.args.blocks.now - 1) c.index-all-all.result =
    c.index-all-all.is ∙ ap (λ (bs : List TextBlock). get_or bs (length bs - 1) c.index-all-all.result) c.as_slice-all.ensures.value in
    let text : c.as_slice.result.now ≡ primary_text c.args.blocks.now =
    c.as_slice.ensures.value ∙ (ap (λ (b : TextBlock). b.text) is ∙ primary_is c.args.blocks.now c.index-all-all.result c.requires.some) in
    subst (λ (xs : List ℕ). Appends g.O.OctetBuffer.greatest (written c.args.out.now) (written c.write_red.new.out) xs c.write_red.result)
    (ap (λ (older : List TextBlock). red_spelling c.args.payload_types.t140 older c.as_slice.result.now) (clamped_all c.args.blocks.now c.requires.offsets)
    ∙ ap (λ (t : List ℕ). red_spelling c.args.payload_types.t140 (redundant c.args.blocks.now) t) text)
    c.write_red.ensures

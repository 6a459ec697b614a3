use Rattle.std.proofs.Common.{◌≡◌, ℕ, List, ◌++◌, flat_map, codes, ap, ◌∙◌}
use Rattle.rtp_text.specs.Views.{packet_in, blocks_in}
use Rattle.command_spec.specs.Listing.{block_length}
use Rattle.recording_views.proofs.Sizes.{packet_is}
use Rattle.recording_views.proofs.records.write_view.Goals as goal

pub returns : goal.returns
returns c =
    let v = c.args.view.now in
    let line_end : c.prepend.new.self ≡ codes "\n" = c.prepend.ensures ∙ ap (λ (o : List ℕ). codes "\n" ++ o) c.clear.ensures in
    let lengths : c.write_sizes.new.line ≡ flat_map block_length (blocks_in v) ++ codes "\n" = c.write_sizes.ensures.lengths ∙ ap (λ (o : List ℕ). flat_map block_length (blocks_in v) ++ o) line_end in
    packet_is c.args.at (packet_in v) c.write_sizes.new.line c.write_head.new.line lengths c.write_head.ensures

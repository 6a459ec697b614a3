use Rattle.std.proofs.Common.{◌≡◌, ℕ, List, [], ◌∷◌, ◌++◌, flat_map, codes, decimal, length, append_assoc, ap, sym, ◌∙◌}
use Rattle.std.proofs.lemmas.Grind.{flat_map-append}
use Rattle.std.proofs.lemmas.List.{append-nil}
use Rattle.wire_spec.specs.Packets.{packet_of, blocks_of, primary}
use Rattle.command_spec.specs.Listing.{block_length}
use Rattle.recording_views.proofs.Sizes.{packet_is}
use Rattle.recording_views.proofs.records.write_packet.Goals as goal

pub returns : goal.returns
returns c =
    let p = packet_of c.args.packet.now in
    let number : List ℕ = decimal (length p.primary) in
    let line_end : c.prepend.new.self ≡ codes "\n" = c.prepend.ensures ∙ ap (λ (o : List ℕ). codes "\n" ++ o) c.clear.ensures in
    let last : c.prepend-2.new.self ≡ flat_map block_length (primary p.primary ∷ []) ++ codes "\n" =
    c.prepend-2.ensures
    ∙ (ap (λ (o : List ℕ). codes " " ++ o) (c.prepend_number.ensures.line ∙ (λ i. decimal (c.len.ensures.value i) ++ line_end i))
    ∙ (sym (append_assoc (codes " ") number (codes "\n")) ∙ ap (λ (o : List ℕ). o ++ codes "\n") (sym (append-nil (codes " " ++ number))))) in
    let lengths : c.write_lengths.new.line ≡ flat_map block_length (blocks_of p) ++ codes "\n" =
    c.write_lengths.ensures.lengths
    ∙ ((λ i. flat_map block_length (c.as_slice.ensures.value i) ++ last i)
    ∙ (sym (append_assoc (flat_map block_length p.older) (flat_map block_length (primary p.primary ∷ [])) (codes "\n"))
    ∙ ap (λ (o : List ℕ). o ++ codes "\n") (sym (flat_map-append block_length p.older (primary p.primary ∷ []))))) in
    packet_is c.args.at p c.write_lengths.new.line c.write_head.new.line lengths c.write_head.ensures

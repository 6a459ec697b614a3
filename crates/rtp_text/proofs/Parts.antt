-- A packet is its header with the payload behind it.
use Rattle.std.proofs.Common.{◌≡◌, ℕ, List, [], ◌∷◌, ◌++◌, length, false, ap, ◌∙◌, append_assoc}
use Rattle.std.specs.Prelude.{option_to_list}
use Rattle.std.specs.Int.{w32, to_be_bytes}
use Rattle.std.specs.List.{flat_map}
use Rattle.std.proofs.lemmas.List.{append-nil}
use Rattle.wire_spec.specs.Rtp.{Head, fixed_header, reading_of, rtp_written}

behind : (fixed sources payload : List ℕ) → (fixed ++ (sources ++ [])) ++ payload ≡ fixed ++ (sources ++ payload)
behind fixed sources payload =
    ap (λ (xs : List ℕ). (fixed ++ xs) ++ payload) (append-nil sources) ∙ append_assoc fixed sources payload

pub headed : (h : Head) (payload : List ℕ) → rtp_written h [] ++ payload ≡ rtp_written h payload
headed h payload =
    behind (fixed_header false false (length (option_to_list h.csrc)) (reading_of h [])) (flat_map (to_be_bytes w32) (option_to_list h.csrc)) payload

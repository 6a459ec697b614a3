-- 3000 octets in three changes of 1000: all are counted, and the last 2048 are shown; of the other leg nothing is.
use Rattle.std.proofs.Common.{◌≡◌, ℕ, [], ◌∷◌, refl}
use Rattle.std.specs.Prelude.{replicate, ◌++◌}
use Rattle.rtt_base.specs.declared.records.Chunk.{Chunk}
use Rattle.live_board.specs.Folds.{fold_of}

-- a change of this leg by 1000 times this octet
abbrev thousand : ℕ → ℕ → Chunk
thousand leg octet = record { source = leg; ready = 0; text = replicate 1000 octet }

board_tail : fold_of 0 (thousand 0 65 ∷ thousand 0 66 ∷ thousand 0 67 ∷ [])
    ≡ record { total = 3000; last = replicate 48 65 ++ replicate 1000 66 ++ replicate 1000 67 }
board_tail = refl

board_tail_not_yet : fold_of 0 (thousand 0 65 ∷ thousand 0 66 ∷ []) ≡ record { total = 2000; last = replicate 1000 65 ++ replicate 1000 66 }
board_tail_not_yet = refl

-- a change whose source is no leg of a board of two
board_stranger : fold_of 1 (thousand 0 65 ∷ thousand 7 66 ∷ []) ≡ record { total = 0; last = [] }
board_stranger = refl

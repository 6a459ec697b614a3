-- The lines of what is read at a board.
use Rattle.std.specs.Prelude.{ℕ, List, flat_map}
use Rattle.std.specs.List.{enumerate_from}
use Rattle.rtt_base.specs.declared.records.Chunk.{Chunk}
use Rattle.file_spec.specs.Conference.{Conference}
use Rattle.live_board.specs.Folds.{fold_of}
use Rattle.live_spec.specs.Watched.{board_line}

-- where these changes are shown
abbrev pub totals_of : Conference → List Chunk → List ℕ
totals_of c changes = flat_map (λ x. board_line x.1 (fold_of x.0 changes).total) (enumerate_from 0 c.legs)

-- What `watch` prints of a call whose links are closed.
use Rattle.std.proofs.Common.{◌≡◌, ◌<◌, ◌+◌, ℕ, List, [], ◌∷◌, ◌++◌, length, refl, ap, ◌∙◌, arith}
use Rattle.std.specs.Prelude.{flat_map}
use Rattle.std.specs.List.{enumerate_from}
use Rattle.stream_spec.specs.Ready.{Chunk}
use Rattle.file_spec.specs.declared.conference_lines.LegLine.{LegLine}
use Rattle.file_spec.specs.Conference.{Conference}
use Rattle.mixer_spec.specs.Chunks.{octets}
use Rattle.mixer_spec.specs.Table.{chunks_taken}
use Rattle.stream_spec.specs.Links.{Takes}
use Rattle.live_spec.specs.Served.{End, IsServed, chunks_live}
use Rattle.live_spec.specs.Watched.{IsBoardOf, board_line, board_lines}

-- lines of the legs from number n on
abbrev lines_from : ℕ → List LegLine → (ℕ → List Chunk) → List ℕ
lines_from n legs chunks = flat_map (λ x. board_line x.1 (octets (chunks x.0))) (enumerate_from n legs)

same_lines : (n : ℕ) (legs : List LegLine) (a b : ℕ → List Chunk) → ((j : ℕ) → j < n + length legs → a j ≡ b j) → lines_from n legs a ≡ lines_from n legs b
same_lines n [] a b same = refl
same_lines n (leg ∷ legs) a b same =
    ap (λ (cs : List Chunk). board_line leg (octets cs) ++ lines_from (n + 1) legs a) (same n (omega arith))
    ∙ ap (λ (more : List ℕ). board_line leg (octets (b n)) ++ more) (same_lines (n + 1) legs a b (λ j low. same j (omega (arith, low))))

-- the lines of what the mixer took are those of a board
pub board_law : (c : Conference) (takes : ℕ → Takes) (given : ℕ → List (List ℕ)) (end : End) (printed : List ℕ) (w : IsServed c takes given end printed) → IsBoardOf c takes w.table end (board_lines c (λ j. chunks_taken (w.table.taken j)))
board_law c takes given end printed w = record {
  taken = refl;
  whole = λ closed. same_lines 0 c.legs (λ j. chunks_taken (w.table.taken j)) (chunks_live c takes) (λ j low. (w.drained closed j (omega (arith, low))).taken);
}

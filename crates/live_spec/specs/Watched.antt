-- What `watch` prints of a live call behind what the terminals show: how many octets of each leg's text the mixer took (profile).
use Rattle.std.specs.Prelude.{◌≡◌, ◌≤◌, ℕ, List, ◌++◌, codes, decimal, flat_map, length}
use Rattle.std.specs.List.{concat, enumerate_from}
use Rattle.stream_spec.specs.Carries.{texts_by}
use Rattle.stream_spec.specs.History.{History}
use Rattle.stream_spec.specs.Ready.{Chunk}
use Rattle.file_spec.specs.declared.conference_lines.LegLine.{LegLine}
use Rattle.file_spec.specs.Conference.{Conference}
use Rattle.mixer_spec.specs.Bridged.{IsPair, told_at}
use Rattle.mixer_spec.specs.Chunks.{octets}
use Rattle.mixer_spec.specs.Setups.{setup}
use Rattle.mixer_spec.specs.Table.{Table, chunks_taken}
use Rattle.view_spec.specs.Views.{printed_line}
use Rattle.stream_spec.specs.Links.{Takes}
use Rattle.live_spec.specs.Served.{Closed, End, chunks_live}

-- the line of a leg, of which so many octets were taken
abbrev pub board_line : LegLine → ℕ → List ℕ
board_line leg total = printed_line (codes "-- board " ++ leg.name ++ codes " total " ++ decimal total)

-- one for each leg, in leg order, where these chunks are those of each
abbrev pub board_lines : Conference → (ℕ → List Chunk) → List ℕ
board_lines c chunks = flat_map (λ x. board_line x.1 (octets (chunks x.0))) (enumerate_from 0 c.legs)

-- The lines of a board, where the links gave this and the mixer came to this table: they count what the mixer took. At `Closed`
-- that is all that is heard.
pub record IsBoardOf (c : Conference) (takes : ℕ → Takes) (table : Table) (end : End) (lines : List ℕ) : Type 0 where
  pub taken : lines ≡ board_lines c (λ j. chunks_taken (table.taken j))
  pub whole : end ≡ Closed → lines ≡ board_lines c (chunks_live c takes)

-- how many octets of this source's text a history tells
abbrev pub octets_told : History → ℕ → ℕ
octets_told h s = length (concat (texts_by s h.entries))

-- What the mixer took of each leg is at least what it gave of it to any aware terminal.
abbrev pub CoversTold : Conference → Table → Type 0
CoversTold c table =
    (j i : ℕ) → IsPair (setup c) j i
    → octets_told (told_at (setup c) table j) ((setup c).ssrc i) ≤ octets (chunks_taken (table.taken i))

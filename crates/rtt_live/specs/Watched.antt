-- A live call with a board.
use Rattle.std.specs.Prelude.{◌≡◌, ℕ, List, ◌++◌, map}
use Rattle.stream_spec.specs.Ready.{Chunk, chunk_of}
use Rattle.file_spec.specs.Conference.{Conference}
use Rattle.stream_spec.specs.Links.{Takes}
use Rattle.live_spec.specs.Served.{End}
use Rattle.live_spec.specs.Watched.{IsBoardOf}
use Rattle.live_board.specs.Values.{BoardId, Writing}
use Rattle.rtt_live.specs.Calls.{WasServed}
use Rattle.rtt_live.specs.Spans.{Span}
use Rattle.rtt_live.specs.Taps.{Notice, chunks_shown_in, chunks_taken_in}

-- to this board all of these chunks were written, and those were published
pub record IsWrittenBy (board : BoardId) (writer : Writing) (took shown : List Chunk) : Type 0 where
  pub same : writer.board ≡ board
  pub took_are : map chunk_of (writer.published ++ writer.pending) ≡ took
  pub shown_are : map chunk_of writer.published ≡ shown

-- the same by what its tap was told
abbrev pub IsWrittenFor : BoardId → Writing → List Notice → Type 0
IsWrittenFor board writer past = IsWrittenBy board writer (chunks_taken_in past) (chunks_shown_in past)

-- A live call of the conference ended so, and this is printed of it: what its terminals show, how it ended, and how many octets of
-- each leg's text were read at its board, which are all that the mixer took.
pub record WasWatched (tells : Type 0) (span : Span) (taken_at : ℕ → Takes) (given_at : ℕ → List (ℕ × List ℕ)) (c : Conference) (end : End) (printed : List ℕ) : Type 0 where
  pub views : List ℕ
  pub lines : List ℕ
  pub printed_is : printed ≡ views ++ lines
  pub was : WasServed tells span taken_at given_at c end views
  pub board : IsBoardOf c was.takes was.served.table end lines

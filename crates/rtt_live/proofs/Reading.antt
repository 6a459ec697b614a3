-- What is read of a board at the end is what the mixer took.
use Rattle.std.proofs.Common.{◌≡◌, ◌<◌, ◌≤◌, ◌+◌, ℕ, true, false, Bool, List, [], ◌∷◌, ◌++◌, length, get_or, take, map, cond, refl, ap, sym, ◌∙◌, subst, arith}
use Rattle.std.specs.Prelude.{◌==◌, IfOk, Ok, Result, flat_map}
use Rattle.std.specs.List.{enumerate_from}
use Rattle.std.proofs.lemmas.List.FromFn.{length-enumerate_from}
use Rattle.std.proofs.lemmas.Grind.{flat_map-append}
use Rattle.std.proofs.lemmas.List.{append-nil, append_assoc, length-append, take_all}
use Rattle.rtt_base.specs.declared.records.Chunk.{Chunk as ChunkValue}
use Rattle.stream_spec.specs.Ready.{Chunk, chunk_of}
use Rattle.file_spec.specs.declared.conference_lines.LegLine.{LegLine}
use Rattle.file_spec.specs.Conference.{Conference}
use Rattle.mixer_spec.specs.Chunks.{octets}
use Rattle.mixer_spec.specs.Setups.{setup}
use Rattle.mixer_spec.specs.Table.{Table, chunks_taken}
use Rattle.stream_spec.specs.Links.{Takes}
use Rattle.live_spec.specs.Served.{End}
use Rattle.live_spec.specs.Watched.{board_line, board_lines}
use Rattle.live_spec.proofs.Watching.{board_law}
use Rattle.live_board.specs.Folds.{fold_of, text_of}
use Rattle.mixer_posts.proofs.LegLines.{legs_more}
use Rattle.live_board.specs.Values.{BoardId, Writing}
use Rattle.rtt_live.specs.Calls.{AreTaken, WasTapped}
use Rattle.rtt_live.specs.Spans.{Span}
use Rattle.rtt_live.specs.Taps.{chunks_of, chunks_taken_in, notices_by}
use Rattle.rtt_live.proofs.Taking.{all_taken}
use Rattle.rtt_live.specs.Lines.{totals_of}
use Rattle.rtt_live.specs.Watched.{IsWrittenFor, WasWatched}

-- ---- totals
more_of : (i : ℕ) (c : ChunkValue) (changes : List ChunkValue) (b : Bool) → length (text_of i changes) ≡ octets (chunks_of i (map chunk_of changes))
    → length (cond b c.text [] ++ text_of i changes) ≡ octets (cond b (chunk_of c ∷ chunks_of i (map chunk_of changes)) (chunks_of i (map chunk_of changes)))
more_of i c changes true e = length-append c.text (text_of i changes) ∙ ap (λ (n : ℕ). length c.text + n) e
more_of i c changes false e = e

-- so many octets have the chunks of a leg
pub total_is : (i : ℕ) (changes : List ChunkValue) → (fold_of i changes).total ≡ octets (chunks_of i (map chunk_of changes))
total_is i [] = refl
total_is i (c ∷ changes) = more_of i c changes (c.source == i) (total_is i changes)

-- ---- lines
same_lines : (n : ℕ) (legs : List LegLine) (a b : ℕ → ℕ) → ((j : ℕ) → a j ≡ b j) → flat_map (λ x. board_line x.1 (a x.0)) (enumerate_from n legs) ≡ flat_map (λ x. board_line x.1 (b x.0)) (enumerate_from n legs)
same_lines n [] a b same = refl
same_lines n (leg ∷ legs) a b same =
    ap (λ (k : ℕ). board_line leg k ++ flat_map (λ x. board_line x.1 (a x.0)) (enumerate_from (n + 1) legs)) (same n)
    ∙ ap (λ (more : List ℕ). board_line leg (b n) ++ more) (same_lines (n + 1) legs a b same)

-- what is read of changes that are these chunks counts what the table has
pub totals_are : (c : Conference) (changes : List ChunkValue) (chunks : List Chunk) (table : Table) → map chunk_of changes ≡ chunks → AreTaken table chunks → totals_of c changes ≡ board_lines c (λ j. chunks_taken (table.taken j))
totals_are c changes chunks table is taken =
    same_lines 0 c.legs (λ j. (fold_of j changes).total) (λ j. octets (chunks_taken (table.taken j)))
    (λ j. total_is j changes ∙ ap octets (ap (chunks_of j) is ∙ taken j))

-- those of the first k legs
abbrev pub totals_below : Conference → List ChunkValue → ℕ → List ℕ
totals_below c changes k = flat_map (λ x. board_line x.1 (fold_of x.0 changes).total) (take k (enumerate_from 0 c.legs))

-- one line more
pub line_more : (c : Conference) (changes : List ChunkValue) (k : ℕ) (d : LegLine) (first old new : List ℕ) → k < length c.legs → old ≡ first ++ totals_below c changes k
    → new ≡ old ++ board_line (get_or c.legs k d) (fold_of k changes).total → new ≡ first ++ totals_below c changes (k + 1)
line_more c changes k d first old new low is more =
    let line : ℕ × LegLine → List ℕ = λ x. board_line x.1 (fold_of x.0 changes).total in
    let leg = get_or c.legs k d in
    let below = take k (enumerate_from 0 c.legs) in
    more
    ∙ (ap (λ (xs : List ℕ). xs ++ line (k, leg)) is
    ∙ (append_assoc first (totals_below c changes k) (line (k, leg))
    ∙ ap (λ (xs : List ℕ). first ++ xs) (sym (ap (flat_map line) (legs_more c k d low) ∙ (flat_map-append line below ((k, leg) ∷ []) ∙ ap (λ (xs : List ℕ). flat_map line below ++ xs) (append-nil (line (k, leg))))))))

-- and all of them
pub lines_all : (c : Conference) (changes : List ChunkValue) (k : ℕ) (first printed : List ℕ) → length c.legs ≤ k → printed ≡ first ++ totals_below c changes k → printed ≡ first ++ totals_of c changes
lines_all c changes k first printed low is =
    is ∙ ap (λ (xs : List (ℕ × LegLine)). first ++ flat_map (λ x. board_line x.1 (fold_of x.0 changes).total) xs) (take_all k (enumerate_from 0 c.legs) (omega (arith, length-enumerate_from 0 c.legs, low)))

-- ---- the whole
pub ok_has : {X E : Type 0} (P : X → Type 0) (r : Result X E) (x : X) → r ≡ Ok x → IfOk r P → P x
ok_has P r x is h = subst (λ q. IfOk q P) is h

pub was_watched : (tells : Type 0) (span : Span) (taken_at : ℕ → Takes) (given_at : ℕ → List (ℕ × List ℕ)) (c : Conference) (end : End) (views printed : List ℕ) (board : BoardId) (writer : Writing) (changes : List ChunkValue)
    → WasTapped (IsWrittenFor board writer) tells span taken_at given_at c end views → writer.published ++ writer.pending ≡ changes → printed ≡ views ++ totals_of c changes
    → WasWatched tells span taken_at given_at c end printed
was_watched tells span taken_at given_at c end views printed board writer changes w all is =
    let served = w.was.served in
    let lines = board_lines c (λ j. chunks_taken (served.table.taken j)) in
    record {
      views = views;
      lines = lines;
      printed_is = is ∙ ap (λ (xs : List ℕ). views ++ xs) (totals_are c changes (chunks_taken_in (notices_by (setup c) w.told.calls)) served.table (ap (map chunk_of) (sym all) ∙ w.told.told.took_are) (all_taken c w.told.calls served.table w.told.made));
      was = w.was;
      board = board_law c w.was.takes w.was.given end views served;
    }

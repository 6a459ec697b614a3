-- A sheet after a list of changes.
use Rattle.std.specs.Prelude.{◌≡◌, ℕ, ◌+◌, ◌<◌, List, length, ◌++◌, fold, slice_get, slice_set, nat_lt, Option, Some, None, if◌then◌else◌}
use Rattle.rtt_base.specs.declared.records.Chunk.{Chunk}
use Rattle.live_board.specs.Folds.{Shown, fold_of, tail_of}

-- a sheet of so many legs, which shows of each what the changes make
pub record IsSheetOf (legs : ℕ) (changes : List Chunk) (sheet : List Shown) : Type 0 where
  pub wide : length sheet ≡ legs
  pub shows : (leg : ℕ) → leg < legs → slice_get sheet leg ≡ Some (fold_of leg changes)

-- what is shown of a leg after a text more
abbrev pub grown : Shown → List ℕ → Shown
grown t text = record { total = t.total + length text; last = tail_of (t.last ++ text) }

-- the same, where its octets can be counted
abbrev pub grown_or_same : Shown → List ℕ → Shown
grown_or_same t text = if nat_lt (t.total + length text) 18446744073709551616 then grown t text else t

abbrev pub put : List Shown → Chunk → Option Shown → List Shown
put sheet c None = sheet
put sheet c (Some t) = slice_set sheet c.source (grown_or_same t c.text)

-- a sheet after a change, which counts for no leg where its source is none
abbrev pub added : List Shown → Chunk → List Shown
added sheet c = put sheet c (slice_get sheet c.source)

-- a sheet after these changes
abbrev pub added_all : List Shown → List Chunk → List Shown
added_all sheet changes = fold added sheet changes

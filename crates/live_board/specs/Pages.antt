-- What is published, and how a page becomes it.
use Rattle.std.specs.Prelude.{◌≡◌, ◌+◌, ◌<◌, [], ◌∷◌, ◌++◌, length}
use mathlib.Core.List.{IsPrefix}
use Rattle.live_board.specs.declared.pages.Page.{Page}
use Rattle.live_board.specs.declared.pages.Publish.{Publish}
use Rattle.live_board.specs.Sheets.{IsSheetOf, added_all}
use Rattle.live_board.specs.Histories.{changes_of, ended_in, EndsOnce, entry_of, octets_of}

-- a page after what is published
abbrev pub published : Page → Publish → Page
published x p = record { sheet = added_all x.sheet p.fresh.chunks.items; count = p.count; ended = p.ended; seen = p.seen }

-- it shows what its history published
pub record IsGood (x : Page) : Type 0 where
  pub count : x.count ≡ length x.seen.log
  pub ended : x.ended ≡ ended_in x.seen.log
  pub once : EndsOnce x.seen.log
  pub shows : IsSheetOf (length x.sheet) (changes_of x.seen.log) x.sheet

-- what is published is one entry more of the history of a page, and its octets can be counted
pub record IsNext (x : Page) (p : Publish) : Type 0 where
  pub book : p.seen.book ≡ x.seen.book
  pub log : p.seen.log ≡ x.seen.log ++ entry_of p.fresh ∷ []
  pub once : EndsOnce p.seen.log
  pub count : p.count ≡ length p.seen.log
  pub ended : p.ended ≡ ended_in p.seen.log
  pub fits : octets_of (changes_of p.seen.log) < 18446744073709551616

-- of one history, a page as far as another, or further
pub record IsFurther (x y : Page) : Type 0 where
  pub book : y.seen.book ≡ x.seen.book
  pub wide : length y.sheet ≡ length x.sheet
  pub front : IsPrefix x.seen.log y.seen.log

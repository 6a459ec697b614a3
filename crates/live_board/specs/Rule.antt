-- What is true of the page that readers take, and of what each end knows.
use Rattle.std.specs.Prelude.{◌≡◌, ℕ, true, false, List, [], length}
use mathlib.Core.Option.{some}
use lib.ListN.{get_elem?}
use Rattle.logbook.specs.Pages.{Book}
use Rattle.live_board.specs.declared.pages.Page.{Page}
use Rattle.live_board.specs.declared.rule.EndView.{EndView}
use Rattle.live_board.specs.Pages.{IsGood}

-- who knows of no board
abbrev pub nobody : EndView
nobody = record { known = false; legs = 0; number = 0; log_name = 0; cells_name = 0 }

-- who knows the board of this page
abbrev pub view_of : Page → EndView
view_of x = record { known = true; legs = length x.sheet; number = x.seen.book.number; log_name = x.seen.book.log_name; cells_name = x.seen.book.cells_name }

abbrev pub book_in : EndView → Book
book_in v = record { number = v.number; log_name = v.log_name; cells_name = v.cells_name }

-- what is known is the board of this page
pub record Knows (x : Page) (v : EndView) : Type 0 where
  pub book : book_in v ≡ x.seen.book
  pub wide : v.legs ≡ length x.sheet

abbrev pub IsKept : Page → List EndView → Type 0
IsKept x views = IsGood x × ((seat : ℕ) (v : EndView) → get_elem? views seat ≡ some v → v.known ≡ true → Knows x v)

-- a page was taken or published: its board is known now, and it is the one that was known before
abbrev pub Sees : EndView → Page → Page → EndView → Type 0
Sees v x y w = (w ≡ view_of y) × IsGood y × (v.known ≡ true → Knows y v)

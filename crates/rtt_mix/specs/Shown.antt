-- What is printed of a source at a terminal that keeps its sources apart, and of a terminal.
use Rattle.std.specs.Prelude.{◌≡◌, ℕ, List, [], ◌++◌}
use Rattle.std.specs.List.{concat}
use Rattle.view_spec.specs.Shown.{shown}
use Rattle.view_spec.specs.Views.{source_view}
use Rattle.terminal.specs.declared.terminals.Terminal.{Terminal}
use Rattle.terminal.specs.declared.views.View.{View}
use Rattle.terminal.specs.Told.{AppendsSeen}

-- of the source of this name, of which this text was heard
abbrev pub lines_of : (name text : List ℕ) → List ℕ
lines_of name text = source_view (record { name = name; display = shown text })

-- what this view shows of the terminal was added behind these pieces
pub record AddsView (t : Terminal) (view : View) (old new : List (List ℕ)) : Type 0 where
  pub shown : List ℕ
  pub is_shown : AppendsSeen t view [] shown
  pub added : concat new ≡ concat old ++ shown

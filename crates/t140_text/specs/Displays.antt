-- A shown text as the record that the definitions speak of; and what print keeps.
use Rattle.std.specs.Prelude.{◌≡◌, ℕ, List, ◌++◌}
use Rattle.view_spec.specs.Shown.{Display}
use Rattle.t140_text.specs.declared.displays.Shown.{Shown}

abbrev pub display_of : Shown → Display
display_of s = record { lines = s.lines; bells = s.bells }

-- what was printed before stands first
pub record Extends (old new : List ℕ) : Type 0 where
  pub more : List ℕ
  pub is : new ≡ old ++ more

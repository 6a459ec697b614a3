-- What a clause says of what gives items.
use Rattle.std.specs.Prelude.{Bool, true, false, List, [], ◌∷◌, ◌++◌}

module _ {Q : Type 0} where
  -- this item, where one was given
  abbrev pub items_by : Bool → Q → List Q
  items_by true x = x ∷ []
  items_by false x = []

module _ {Q F : Type 0} where
  -- whatever was given from the first on, these are more
  abbrev pub GivesMore : (F → F → List Q → Type 0) → F → F → List Q → Type 0
  GivesMore stands old new more = (first : F) (gave : List Q) → stands first old gave → stands first new (gave ++ more)

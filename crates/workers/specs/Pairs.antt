-- Two lists, element by element.
use Rattle.std.specs.Prelude.{◌≡◌, ℕ, Some, List, length, slice_get}

module _ {A B : Type 0} where
  -- as many of each, and this holds of those with the same number
  pub record Pairs (holds : A → B → Type 0) (xs : List A) (ys : List B) : Type 0 where
    pub many : length ys ≡ length xs
    pub are : (j : ℕ) (x : A) (y : B) → slice_get xs j ≡ Some x → slice_get ys j ≡ Some y → holds x y

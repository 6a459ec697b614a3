-- What was typed, and what is heard of it behind two hops.
use Rattle.std.specs.Prelude.{◌≡◌, ℕ, List, ◌++◌, map}
use Rattle.std.specs.List.{concat}
use Rattle.stream_spec.specs.Lists.{In}
use Rattle.stream_spec.specs.History.{Placed}
use Rattle.stream_spec.specs.Kept.{Item, Block, Rising, blocks_in}
use Rattle.mixer_spec.specs.Pieces.{Apart, IsPieceOf}
use Rattle.mixer_spec.specs.Through.{text_entries}
use Rattle.mixer_spec.specs.Headline.{AllUsed, Hop, IsBlock, hears, said}

-- all that the source of this hop typed
abbrev pub all_typed : Hop → List ℕ
all_typed p = said (map Block (text_entries p.sent p.source))

-- What is heard behind both hops are texts that the source of the first typed, in its order, each at most once, and markers.
pub record IsOnlyTyped (p q : Hop) : Type 0 where
  pub items : List Item
  pub heard : concat (hears q) ≡ said items
  pub typed : (k : Placed) → In (Block k) items → IsBlock p k
  pub order : Rising (blocks_in items)

-- What is heard behind both hops is text that the source of the first typed, cut so, in its order, each octet at most once, and
-- markers.
pub record IsOnlyPieces (cutting : List ℕ → List (List ℕ)) (p q : Hop) : Type 0 where
  pub items : List Item
  pub heard : concat (hears q) ≡ said items
  pub typed : (k : Placed) → In (Block k) items → (x : Placed) × IsBlock p x × IsPieceOf cutting x k
  pub order : Apart (blocks_in items)

-- Where each packet of both was used, that and these texts, which are not sent on yet, are all that it typed.
abbrev pub IsTypedBut : Hop → Hop → List (List ℕ) → Type 0
IsTypedBut p q waiting = AllUsed p → AllUsed q → concat (hears q) ++ concat waiting ≡ all_typed p

-- Where each packet of both was used, it is all that it typed.
abbrev pub IsAllTyped : Hop → Hop → Type 0
IsAllTyped p q = AllUsed p → AllUsed q → concat (hears q) ≡ all_typed p

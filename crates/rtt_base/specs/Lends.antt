-- Who holds an item of a growing list writes through it.
use Rattle.std.specs.Prelude.{ℕ, List, slice_set}
use Rattle.std.specs.Borrow.{Lends, Fml, RattleType, MutBor}
use Rattle.rtt_base.specs.contracts.long_lists.GrowingList.{the_row}

-- the list ends with what is last written through r as its item with that index
abbrev pub LendsItem : (T : RattleType) → MutBor (List T.Denot) → ℕ → MutBor T.Denot → Fml
LendsItem T g index r = Lends (the_row T) T g r (slice_set g.now index)

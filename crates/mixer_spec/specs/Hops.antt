-- What the laws say of two hops, where h1 was sent on the first one and h2 on the second, the places i1 and i2 came, and the
-- sources s1 and s2 are listened to. The second hop carries what the first one tells from its n-th item on.
use Rattle.std.specs.Prelude.{◌≡◌, ℕ, ◌⊎◌, ◌↔◌, List, map, drop}
use Rattle.stream_spec.specs.Lists.{In}
use Rattle.stream_spec.specs.History.{History, Placed, placed}
use Rattle.stream_spec.specs.Carries.{Carries}
use Rattle.stream_spec.specs.Kept.{ArePlaces, Block, Item, Marker, Parts, Rising, blocks_in, kept, texts}
use Rattle.mixer_spec.specs.Through.{carried_by, group_of, text_entries, through}
use Rattle.mixer_spec.specs.Laws.{PartsAt}

-- what the places i of the history h tell of the source s, from the n-th item on
abbrev pub told_from : ℕ → History → List Placed → ℕ → List Item
told_from n h i s = drop n (kept h i s)

-- ---- order
-- What both hops tell has its blocks in order, each at most once.
abbrev pub HopsRise : Type 0
HopsRise =
    (h1 h2 : History) (i1 i2 : List Placed) (s1 s2 n : ℕ)
    → ArePlaces h1 i1 → ArePlaces h2 i2
    → Rising (blocks_in (through (told_from n h1 i1 s1) h2 i2 s2))

-- Both hops tell a block exactly where the second one tells an entry that carries it.
abbrev pub HopsTellCarried : Type 0
HopsTellCarried =
    (h1 h2 : History) (i1 i2 : List Placed) (s1 s2 n : ℕ) (k : Placed)
    → In (Block k) (through (told_from n h1 i1 s1) h2 i2 s2)
    ↔ ((y : Placed) × In (Block y) (kept h2 i2 s2) × In (Block k) (carried_by (told_from n h1 i1 s1) h2 s2 y))

-- A block that an entry carries is told by the first hop.
abbrev pub CarriedIsTold : Type 0
CarriedIsTold =
    (h1 : History) (i1 : List Placed) (s1 n : ℕ) (es : List Placed) (y k : Placed)
    → In (Block k) (group_of es (told_from n h1 i1 s1) y)
    → In (Block k) (kept h1 i1 s1)

-- ---- losses
-- Each block that the first hop tells is carried by an entry of the second.
abbrev pub BlocksAreCarried : Type 0
BlocksAreCarried =
    (h1 h2 : History) (i1 : List Placed) (s1 s2 n : ℕ) (k : Placed)
    → ArePlaces h1 i1
    → Carries h2 s2 (texts (told_from n h1 i1 s1))
    → In (Block k) (told_from n h1 i1 s1)
    → (y : Placed) × In y (text_entries h2 s2) × In (Block k) (carried_by (told_from n h1 i1 s1) h2 s2 y)

-- Where the second hop lost the entry that carries a block, and shows a marker for it, a marker stands for the block.
abbrev pub SecondIsMarked : Type 0
SecondIsMarked =
    (h1 h2 : History) (i1 i2 : List Placed) (s1 s2 n : ℕ) (k y : Placed)
    → ArePlaces h1 i1 → ArePlaces h2 i2
    → In y (placed h2)
    → y.source ≡ s2
    → In (Block k) (carried_by (told_from n h1 i1 s1) h2 s2 y)
    → Parts y (kept h2 i2 s2)
    → PartsAt k (through (told_from n h1 i1 s1) h2 i2 s2)

-- Where the first hop shows a marker for a block, an entry carries that marker: where the entry came, or the second hop shows a
-- marker for it in turn, a marker stands for the block.
abbrev pub FirstIsMarked : Type 0
FirstIsMarked =
    (h1 h2 : History) (i1 i2 : List Placed) (s1 s2 n : ℕ) (k : Placed)
    → ArePlaces h1 i1 → ArePlaces h2 i2
    → Carries h2 s2 (texts (told_from n h1 i1 s1))
    → In k (placed h1)
    → k.source ≡ s1
    → Parts k (told_from n h1 i1 s1)
    → (y : Placed) × In y (text_entries h2 s2)
    × (In (Block y) (kept h2 i2 s2) ⊎ Parts y (kept h2 i2 s2) → PartsAt k (through (told_from n h1 i1 s1) h2 i2 s2))

-- ---- nothing is added
-- Where neither hop shows a marker none stands behind both.
abbrev pub NoMarkerIsAdded : Type 0
NoMarkerIsAdded =
    (h1 h2 : History) (i1 i2 : List Placed) (s1 s2 n : ℕ)
    → (In Marker (told_from n h1 i1 s1) → ⊥)
    → (In Marker (kept h2 i2 s2) → ⊥)
    → In Marker (through (told_from n h1 i1 s1) h2 i2 s2) → ⊥

-- Where the second hop tells all its entries with text, and no marker, both tell what the first one tells.
abbrev pub WholeIsPassed : Type 0
WholeIsPassed =
    (h1 h2 : History) (i1 i2 : List Placed) (s1 s2 n : ℕ)
    → ArePlaces h1 i1
    → Carries h2 s2 (texts (told_from n h1 i1 s1))
    → kept h2 i2 s2 ≡ map Block (text_entries h2 s2)
    → through (told_from n h1 i1 s1) h2 i2 s2 ≡ told_from n h1 i1 s1

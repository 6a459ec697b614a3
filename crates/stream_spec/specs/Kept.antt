-- What the places that came tell of a history: its blocks, and markers between them. There are no timestamps, arrivals
-- or clocks here: a list is filtered by a set (profile).
use Rattle.std.specs.Prelude.{◌≡◌, ℕ, ◌+◌, ◌<◌, ◌≤◌, ◌==◌, Bool, true, Option, None, Some, List, [], ◌∷◌, ◌++◌, map, filter, ◌&&◌, nat_lt, if◌then◌else◌}
use Rattle.std.specs.List.{list_any}
use Rattle.wire_spec.specs.Packets.{has_text}
use Rattle.stream_spec.specs.Hearing.{missing_between, marker}
use Rattle.stream_spec.specs.Lists.{In, RisingBy}
use Rattle.stream_spec.specs.History.{History, Placed, placed, low, window}

-- the block of an entry, or a marker that blocks may be missing
pub data Item : Type 0 where
  Marker : Item
  Block : Placed → Item

abbrev pub has_place : List Placed → ℕ → Bool
has_place i k = list_any (λ x. x.place == k) i

-- y lies behind the entry before, if there is one
abbrev pub is_above : Option Placed → Placed → Bool
is_above None y = true
is_above (Some a) y = nat_lt a.index y.index

-- the oldest block of b lies behind the entry before, if there is one
abbrev pub is_linked_after : Option Placed → Placed → Bool
is_linked_after None b = true
is_linked_after (Some a) b = nat_lt (a.media + b.reach) b.media

-- how many places are missing before b: after the entry before, or from the least place on
abbrev pub lost_before : (ℕ → Bool) → ℕ → Option Placed → Placed → ℕ
lost_before present least None b = missing_between present least b.place
lost_before present least (Some a) b = missing_between present a.place b.place

-- the blocks of those of these entries that have text and lie behind the entry before
abbrev pub blocks_of : Option Placed → List Placed → List Item
blocks_of prev [] = []
blocks_of prev (y ∷ ys) = (if is_above prev y && has_text y.text then Block y ∷ [] else []) ++ blocks_of prev ys

abbrev pub has_marker : (ℕ → Bool) → ℕ → Option Placed → Placed → Bool
has_marker present least prev b = nat_lt b.generations (lost_before present least prev b) && is_linked_after prev b

-- what b gives: a marker where more places are missing than b repeats, and the new blocks that it carries
abbrev pub items_of : History → (ℕ → Bool) → ℕ → Option Placed → Placed → List Item
items_of h present least prev b =
    (if has_marker present least prev b then Marker ∷ [] else [])
    ++ blocks_of prev (window h b ++ b ∷ [])

-- what these entries of one source give, which came, where prev is the one before them that came
abbrev pub kept_over : History → (ℕ → Bool) → ℕ → Option Placed → List Placed → List Item
kept_over h present least prev [] = []
kept_over h present least prev (b ∷ bs) = items_of h present least prev b ++ kept_over h present least (Some b) bs

abbrev pub least_place : List Placed → ℕ
least_place [] = 0
least_place (x ∷ xs) = x.place

abbrev pub is_entry_of : ℕ → Placed → Bool
is_entry_of s b = b.source == s

-- what the places i of h, which rise, tell of the source s
abbrev pub kept : History → List Placed → ℕ → List Item
kept h i s = kept_over h (has_place i) (least_place i) None (filter (is_entry_of s) i)

abbrev pub text_of : Item → List ℕ
text_of Marker = marker
text_of (Block x) = x.text

abbrev pub texts : List Item → List (List ℕ)
texts items = map text_of items

-- rising strictly in place
abbrev pub Rising : List Placed → Type 0
Rising xs = RisingBy (λ x. x.place) xs

-- a set of places of h
pub record ArePlaces (h : History) (i : List Placed) : Type 0 where
  pub within : (x : Placed) → In x i → In x (placed h)
  pub rising : Rising i

-- the packet of c carries the block of k
pub record IsCarrier (k c : Placed) : Type 0 where
  pub source : c.source ≡ k.source
  pub reaches : low c ≤ k.index
  pub behind : k.index ≤ c.index

-- k is an entry of s with text, and a carrier of it came
pub record IsCarried (h : History) (i : List Placed) (s : ℕ) (k : Placed) : Type 0 where
  pub entry : In k (placed h)
  pub source : k.source ≡ s
  pub text : has_text k.text ≡ true
  pub carrier : Placed
  pub came : In carrier i
  pub carries : IsCarrier k carrier

abbrev pub blocks_in : List Item → List Placed
blocks_in [] = []
blocks_in (Marker ∷ items) = blocks_in items
blocks_in (Block x ∷ items) = x ∷ blocks_in items

-- no place between two that came is missing
abbrev pub NoGap : List Placed → Type 0
NoGap i = (x y : Placed) (k : ℕ) → In x i → In y i → x.place < k → k < y.place → has_place i k ≡ true

abbrev pub is_text_of : ℕ → Placed → Bool
is_text_of s x = is_entry_of s x && has_text x.text

-- a marker parts the blocks below k from those above
abbrev pub Parts : Placed → List Item → Type 0
Parts k items = (xs ys : List Item) × (items ≡ xs ++ Marker ∷ ys) × ((x : Placed) → In (Block x) xs → x.index < k.index) × ((x : Placed) → In (Block x) ys → k.index < x.index)

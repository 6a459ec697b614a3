-- What two hops tell where the first is that of several senders, one behind the other (profile). Items of all of them stand in one
-- list, so the places of each are counted on behind those of the senders before.
use Rattle.std.specs.Prelude.{◌≡◌, ◌⊎◌, ◌↔◌, ℕ, ◌+◌, ◌≤◌, List, [], ◌∷◌, ◌++◌, length, map}
use Rattle.std.specs.List.{AllByRecursion, concat}
use Rattle.stream_spec.specs.Lists.{In}
use Rattle.stream_spec.specs.Hearing.{marker}
use Rattle.stream_spec.specs.History.{Placed}
use Rattle.stream_spec.specs.Kept.{Item, Marker, Block, blocks_in}
use Rattle.mixer_spec.specs.Laws.{PartsAt}
use Rattle.mixer_spec.specs.Pieces.{Apart, IsPieceOf, in_pieces}
use Rattle.mixer_spec.specs.Headline.{AllLost, AllUsed, Hop, IsBetween, IsBlock, IsHop, IsLostBehind, IsMarkerBehind, OneHop, groups, hears, said, told, told_by}

-- ---- one behind the other
-- an entry, so many places later
abbrev pub later : ℕ → Placed → Placed
later n k = record { place = n + k.place; index = k.index; source = k.source; media = k.media; text = k.text; generations = k.generations; reach = k.reach }

abbrev pub item_later : ℕ → Item → Item
item_later n Marker = Marker
item_later n (Block k) = Block (later n k)

-- how many places its sender took
abbrev pub places_of : Hop → ℕ
places_of p = length p.sent.entries

-- What the hops of the senders before and of the last one tell, behind n places, a marker between two: what was lost with a sender
-- nobody knows.
abbrev pub told_in_turn : ℕ → List Hop → Hop → List Item
told_in_turn n [] last = map (item_later n) (told last)
told_in_turn n (p ∷ before) last = map (item_later n) (told p) ++ Marker ∷ told_in_turn (n + places_of p) before last

-- the text that is heard of them
abbrev pub heard_in_turn : List Hop → Hop → List (List ℕ)
heard_in_turn [] last = hears last
heard_in_turn (p ∷ before) last = hears p ++ marker ∷ heard_in_turn before last

pub record AreHops (ps : List Hop) (p : Hop) : Type 0 where
  pub before : AllByRecursion IsHop ps
  pub last : IsHop p

-- ---- one of them
-- x is an entry of one of these hops, at its place among all, of which this holds there
abbrev pub HoldsOfOne : (Hop → Placed → Type 0) → ℕ → List Hop → Hop → Placed → Type 0
HoldsOfOne P n [] last x = (k : Placed) × (x ≡ later n k) × P last k
HoldsOfOne P n (p ∷ before) last x = ((k : Placed) × (x ≡ later n k) × P p k) ⊎ HoldsOfOne P (n + places_of p) before last x

-- a block that was lost: every packet that carries it is lost or late
pub record IsLostBlock (p : Hop) (k : Placed) : Type 0 where
  pub block : IsBlock p k
  pub lost : AllLost p k

-- a block for which a marker stands
pub record IsMarkedBlock (p : Hop) (k : Placed) : Type 0 where
  pub block : IsBlock p k
  pub parts : PartsAt k (told p)

-- ---- two hops
-- what they tell, in pieces
abbrev pub pieces_in_turn : (List ℕ → List (List ℕ)) → List Hop → Hop → List Item
pieces_in_turn cutting before last = in_pieces cutting (told_in_turn 0 before last)

-- The hop q carries of the pieces of what these tell `sent`, in entries of whole pieces, and `waiting` is not sent on yet.
pub record InTurn (cutting : List ℕ → List (List ℕ)) (before : List Hop) (last q : Hop) (sent waiting : List Item) : Type 0 where
  pub firsts : AllByRecursion OneHop before
  pub first : OneHop last
  pub second : OneHop q
  pub is : pieces_in_turn cutting before last ≡ sent ++ waiting
  -- What is heard is, entry by entry, the text of what both tell.
  pub text : hears q ≡ map said (groups sent q (told q))
  pub joined : concat (hears q) ≡ said (told_by sent q)
  -- Those are pieces of blocks of the senders,
  pub pieces : (k : Placed) → In (Block k) (told_by sent q)
      → (x : Placed) × HoldsOfOne IsBlock 0 before last x × IsPieceOf cutting x k
  -- and their octets are in order, each at most once.
  pub order : Apart (blocks_in (told_by sent q))
  -- A piece is absent exactly where every packet carrying its block on the first hop, or every packet carrying the piece on the second,
  -- was lost or late, or where it is not sent on yet.
  pub absent : (x k : Placed) → HoldsOfOne IsBlock 0 before last x → IsPieceOf cutting x k
      → ((In (Block k) (told_by sent q) → ⊥)
      ↔ (HoldsOfOne IsLostBlock 0 before last x ⊎ (IsLostBehind q sent k ⊎ In (Block k) waiting)))
  -- Where it was lost on the second hop, a marker stands there between packets that came.
  pub marked_behind : (k : Placed) (lost : IsLostBehind q sent k) → IsBetween q lost.entry → PartsAt k (told_by sent q)
  -- Each marker of a first hop stands among what they tell, for each piece of its block; it is sent on too, or is not sent on yet; and
  -- where it is sent on, so does one stand behind both.
  pub marker_stands : (x k : Placed) → HoldsOfOne IsMarkedBlock 0 before last x → IsPieceOf cutting x k
      → PartsAt k (pieces_in_turn cutting before last)
  pub marker_is : (k : Placed) (parts : PartsAt k (pieces_in_turn cutting before last))
      → PartsAt k sent ⊎ (length sent ≤ length parts.0)
  pub marked : (k : Placed) → PartsAt k sent → IsMarkerBehind q sent k
  -- With every packet of the second hop used, both tell all that was sent on.
  pub passed : AllUsed q → told_by sent q ≡ sent

-- The headline of two hops, where the second carries, piece by piece, what the first one tells (profile).
use Rattle.std.specs.Prelude.{◌≡◌, ℕ, ◌⊎◌, ◌↔◌, List, [], ◌++◌, length, map}
use Rattle.std.specs.List.{concat}
use Rattle.stream_spec.specs.Lists.{In}
use Rattle.stream_spec.specs.History.{Placed}
use Rattle.stream_spec.specs.Carries.{CarriesFront}
use Rattle.stream_spec.specs.Kept.{Item, Marker, Block, blocks_in, NoGap}
use Rattle.mixer_spec.specs.Laws.{PartsAt}
use Rattle.mixer_spec.specs.Bridged.{IsPart, pieces_heard}
use Rattle.mixer_spec.specs.Through.{text_entries}
use Rattle.mixer_spec.specs.Headline.{Hop, IsHop, OneHop, hears, used, told, IsBlock, AllLost, IsBetween, AllUsed, Cut, IsUnshared, IsNotSent, told_by, groups, in_a_row, said, IsLostBehind, IsMarkerBehind, IsCutAt}
use Rattle.mixer_spec.specs.Pieces.{IsCutting, in_pieces, IsPieceOf, Apart}

-- what the hop tells, in pieces
abbrev pub pieces_told : (List ℕ → List (List ℕ)) → Hop → List Item
pieces_told cutting p = in_pieces cutting (told p)

-- where the second carries all of it
abbrev pub all_pieces : (List ℕ → List (List ℕ)) → Hop → Cut
all_pieces cutting p = record { before = []; sent = pieces_told cutting p; waiting = []; behind = [] }

-- What two hops tell of the source of the first, where what the first tells is cut in pieces and then so in four: the second
-- carries `sent`, in entries of whole pieces.
pub record PieceHeadline (cutting : List ℕ → List (List ℕ)) (p q : Hop) (cut : Cut) : Type 0 where
  pub first : OneHop p
  pub second : OneHop q
  -- What the first tells is, in pieces and in order, the four parts.
  pub is_cut : pieces_told cutting p ≡ cut.before ++ (cut.sent ++ (cut.waiting ++ cut.behind))
  -- What is heard is, entry by entry, the text of what both tell: a mark for a mark, and for each entry the pieces that it carries.
  pub text : hears q ≡ map said (groups cut.sent q (told q))
  pub items : told_by cut.sent q ≡ in_a_row (groups cut.sent q (told q))
  pub joined : concat (hears q) ≡ said (told_by cut.sent q)
  -- These are pieces of the source's blocks.
  pub pieces : (k : Placed) → In (Block k) (told_by cut.sent q) → (x : Placed) × IsBlock p x × IsPieceOf cutting x k
  -- Their octets are in order, each at most once.
  pub order : Apart (blocks_in (told_by cut.sent q))
  -- A piece is absent exactly where every packet carrying its block on the first hop was lost or late, or every packet carrying
  -- the piece on the second, or where it is not sent on yet, or is not shared.
  pub absent : (x k : Placed) → IsBlock p x → IsPieceOf cutting x k
      → ((In (Block k) (told_by cut.sent q) → ⊥)
      ↔ (AllLost p x ⊎ (IsLostBehind q cut.sent k ⊎ (In (Block k) cut.waiting ⊎ IsUnshared cut k))))
  -- Where it was lost on the second hop, a mark stands there between packets that came.
  pub marked_behind : (k : Placed) (lost : IsLostBehind q cut.sent k) → IsBetween q lost.entry
      → PartsAt k (told_by cut.sent q)
  -- Where its block was lost on the first, between packets that came, a mark of the first stands for the piece. That is sent on,
  -- or stands at the number of an item that is not; where it is sent on, one stands behind both, unless it was lost in turn at an
  -- end of the second stream.
  pub marked_first : (x k : Placed) → IsBlock p x → IsPieceOf cutting x k → AllLost p x → IsBetween p x
      → PartsAt k (pieces_told cutting p)
  pub marker_is : (k : Placed) (marker_part : PartsAt k (pieces_told cutting p))
      → PartsAt k cut.sent ⊎ IsNotSent cut (length marker_part.0)
  pub marked : (k : Placed) → PartsAt k cut.sent → IsMarkerBehind q cut.sent k
  -- Each mark is one of a hop; so with no number missing on either there is none.
  pub markers : In Marker (told_by cut.sent q) → In Marker (told p) ⊎ In Marker (told q)
  pub no_marker : NoGap (used p) → NoGap (used q) → In Marker (told_by cut.sent q) → ⊥
  -- With every packet of the second hop used, both tell all that was sent on.
  pub passed : AllUsed q → told_by cut.sent q ≡ cut.sent
  -- With every packet of both used that is, between the other parts, all pieces of all blocks and no mark.
  pub whole : AllUsed p → AllUsed q
      → cut.before ++ (told_by cut.sent q ++ (cut.waiting ++ cut.behind)) ≡ in_pieces cutting (map Block (text_entries p.sent p.source))

-- the headline of two hops, where the first is cut at these pieces
abbrev pub PieceHeadlineAt : (List ℕ → List (List ℕ)) → Hop → Hop → List (List ℕ) → List (List ℕ)
    → List (List ℕ) → Type 0
PieceHeadlineAt cutting p q front rest back = (cut : Cut) × IsCutAt cut front rest back × PieceHeadline cutting p q cut

-- That is so of any two hops, where the second carries a front of texts that are shared of the pieces of what is heard on the first.
abbrev pub HopsHavePieces : Type 0
HopsHavePieces =
    (cutting : List ℕ → List (List ℕ)) → IsCutting cutting
    → (p q : Hop) → IsHop p → IsHop q
    → (n : ℕ) (shared rest : List (List ℕ)) (part : IsPart n (pieces_heard cutting p) shared)
    → CarriesFront q.sent q.source shared rest
    → PieceHeadlineAt cutting p q part.before rest part.after

-- What the laws say of pieces.
use Rattle.std.specs.Prelude.{◌≡◌, ℕ, ◌≤◌, ◌↔◌, List, [], ◌++◌, length, map, flat_map, IsUtf8, chars, encode_utf8}
use Rattle.std.specs.List.{AllByRecursion, concat}
use Rattle.stream_spec.specs.Lists.{In}
use Rattle.stream_spec.specs.Carries.{Groups}
use Rattle.stream_spec.specs.Hearing.{AreHeardTexts, text_list}
use Rattle.stream_spec.specs.History.{Placed}
use Rattle.stream_spec.specs.Kept.{Item, Marker, Block}
use Rattle.stream_spec.specs.Ready.{Chunk, ReadyRises}
use Rattle.mixer_spec.specs.Laws.{AreTexts}
use Rattle.rtt_base.specs.declared.limits.TheConstants.{MOST_TEXT_OCTETS}
use Rattle.mixer_spec.specs.Headline.{said}
use Rattle.mixer_spec.specs.Pieces.{IsCutting, IsPieceOf, characters, chunks_cut, in_pieces, pieces}

-- ---- a text
-- Cut into pieces of at most n octets, four or more, a text is whole, no piece is empty, and a marker is not cut.
abbrev pub CutIsWhole : Type 0
CutIsWhole = (n : ℕ) → 4 ≤ n → IsCutting (pieces n)

abbrev pub CutIsShort : Type 0
CutIsShort = (n : ℕ) (text : List ℕ) → 4 ≤ n → AllByRecursion (λ piece. length piece ≤ n) (pieces n text)

-- A text that is UTF-8 is cut between characters.
abbrev pub CutIsText : Type 0
CutIsText = (n : ℕ) (text : List ℕ) → 4 ≤ n → IsUtf8 text → AllByRecursion IsUtf8 (pieces n text)

-- A short text is left as it is.
abbrev pub ShortStays : Type 0
ShortStays = (n : ℕ) (text : List ℕ) → length text ≤ n → pieces n text ≡ text_list text

-- ---- characters
-- Cut into its characters, a text is whole, no piece is empty, and a marker is not cut.
abbrev pub CharactersAreWhole : Type 0
CharactersAreWhole = IsCutting characters

-- Where it is UTF-8, each piece is a character of it, as UTF-8 writes it.
abbrev pub EachIsACharacter : Type 0
EachIsACharacter = (text : List ℕ) → IsUtf8 text → characters text ≡ map encode_utf8 (chars text)

-- So the characters of two texts, one behind the other, are those of the one and those of the other,
abbrev pub CharactersFollow : Type 0
CharactersFollow = (a b : List ℕ) → IsUtf8 b → characters (a ++ b) ≡ characters a ++ characters b

-- and the characters of a text in pieces of at most n octets, four or more, are those of the text.
abbrev pub PiecesHaveCharacters : Type 0
PiecesHaveCharacters = (n : ℕ) (text : List ℕ) → 4 ≤ n → IsUtf8 text → flat_map characters (pieces n text) ≡ characters text

-- So where texts that are heard say what others say, their pieces are groups of the characters of those.
abbrev pub PiecesAreGroups : Type 0
PiecesAreGroups =
    (n : ℕ) → 4 ≤ n → n ≤ MOST_TEXT_OCTETS
    → (xs ys : List (List ℕ)) → AreHeardTexts xs → AreHeardTexts ys
    → concat xs ≡ concat ys
    → Groups (flat_map (pieces n) xs) (flat_map characters ys) []

-- ---- chunks
abbrev pub CutsAreTexts : Type 0
CutsAreTexts = (n : ℕ) → 4 ≤ n → (cs : List Chunk) → AreTexts cs → AreTexts (chunks_cut (pieces n) cs)

abbrev pub CutsAreShort : Type 0
CutsAreShort = (n : ℕ) → 4 ≤ n → (cs : List Chunk) → AllByRecursion (λ c. length c.text ≤ n) (chunks_cut (pieces n) cs)

abbrev pub ChunksRise : Type 0
ChunksRise = (cutting : List ℕ → List (List ℕ)) (cs : List Chunk) → ReadyRises cs → ReadyRises (chunks_cut cutting cs)

-- Short ones are left as they are.
abbrev pub ChunksStay : Type 0
ChunksStay = (n : ℕ) (cs : List Chunk) → AreTexts cs → AllByRecursion (λ c. length c.text ≤ n) cs
    → chunks_cut (pieces n) cs ≡ cs

-- ---- what is told
abbrev pub PiecesSayTheText : Type 0
PiecesSayTheText =
    (cutting : List ℕ → List (List ℕ)) → IsCutting cutting
    → (items : List Item)
    → said (in_pieces cutting items) ≡ said items

-- A piece is told exactly where a block is told whose piece it is, and a mark where one is.
pub record TellsPieces (cutting : List ℕ → List (List ℕ)) (items : List Item) : Type 0 where
  pub pieces : (k : Placed) → In (Block k) (in_pieces cutting items) ↔ ((x : Placed) × In (Block x) items × IsPieceOf cutting x k)
  pub markers : In Marker (in_pieces cutting items) ↔ In Marker items

abbrev pub PiecesAreTold : Type 0
PiecesAreTold = (cutting : List ℕ → List (List ℕ)) (items : List Item) → TellsPieces cutting items

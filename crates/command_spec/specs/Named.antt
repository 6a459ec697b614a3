-- Which name stands before each character of the mixer's one text (profile).
use Rattle.std.specs.Prelude.{◌≡◌, ℕ, Bool, false, ◌⊎◌, Option, None, Some, List, [], ◌∷◌, ◌++◌, option_to_list, encode_utf8_all}
use Rattle.std.specs.List.{AllZip, list_any}
use Rattle.view_spec.specs.Characters.{class_of, is_print}
use Rattle.view_spec.specs.TextViews.{is_bracket, label_after}
use Rattle.stream_spec.specs.Ready.{Chunk}
use Rattle.mixer_spec.specs.Setups.{Setup}
use Rattle.mixer_spec.specs.Composed.{Answer, Asked, chars_of, written}
use Rattle.mixer_spec.specs.Laws.{AreTexts, IsComposed}

-- ---- a text that was given, in its parts
-- Whose it is; the characters that go ahead of its label; whether it has a label, and then whether behind a line's break; and
-- the characters behind.
pub record Piece : Type 0 where
  pub leg : ℕ
  pub ahead : List ℕ
  pub label : Option Bool
  pub behind : List ℕ

abbrev pub label_text : List ℕ → Option Bool → List ℕ
label_text name None = []
label_text name (Some is_open) = label_after is_open name

-- the text, where the legs have these names
abbrev pub piece_text : (ℕ → List ℕ) → Piece → List ℕ
piece_text name p = encode_utf8_all p.ahead ++ (label_text (name p.leg) p.label ++ encode_utf8_all p.behind)

-- The piece is this answer's. What is typed goes ahead of the label as it is, and behind it as it is sent there; and no
-- bracket is among it, so the label is the only thing in the text that has one.
pub record IsPieceOf (name : ℕ → List ℕ) (g : Answer) (p : Piece) : Type 0 where
  pub leg : p.leg ≡ g.source
  pub text : g.text ≡ piece_text name p
  pub own : List ℕ
  pub typed : List ℕ
  pub chars : chars_of g.chunks ≡ p.ahead ++ typed
  pub behind : p.behind ≡ written own typed
  pub no_bracket : list_any is_bracket (p.ahead ++ p.behind) ≡ false

-- ---- whose name stands where
-- the leg whose label stands last, where `who` is the one before this piece
abbrev pub named_if : Option ℕ → ℕ → Option Bool → Option ℕ
named_if who leg None = who
named_if who leg (Some is_open) = Some leg

abbrev pub named : Option ℕ → Piece → Option ℕ
named who p = named_if who p.leg p.label

-- behind these pieces
abbrev pub named_after : Option ℕ → List Piece → Option ℕ
named_after who [] = who
named_after who (p ∷ ps) = named_after (named who p) ps

abbrev pub prints : ℕ → Bool
prints c = is_print (class_of c)

-- Nothing that goes ahead of the label prints: it is new lines, bells, what is silent, and erasures of these new lines. And
-- where anything stands behind, the label that stands last before it is the label of the leg that typed it.
pub record IsNamed (who : Option ℕ) (p : Piece) : Type 0 where
  pub unseen : list_any prints p.ahead ≡ false
  pub names : (p.behind ≡ []) ⊎ (named who p ≡ Some p.leg)

-- so it is with each of these pieces, which stand one behind the other
abbrev pub AreNamed : Option ℕ → List Piece → Type 0
AreNamed who [] = Unit {0}
AreNamed who (p ∷ ps) = IsNamed who p × AreNamed (named who p) ps

-- ---- what that says of labels
-- none of these has a label
abbrev pub AreUnlabelled : List Piece → Type 0
AreUnlabelled [] = Unit {0}
AreUnlabelled (p ∷ ps) = (p.label ≡ None) × AreUnlabelled ps

-- what prints in these was typed by this leg: nothing that goes ahead of a label prints
abbrev pub AreTypedBy : ℕ → List Piece → Type 0
AreTypedBy leg [] = Unit {0}
AreTypedBy leg (p ∷ ps) = (list_any prints p.ahead ≡ false) × ((p.behind ≡ []) ⊎ (p.leg ≡ leg)) × AreTypedBy leg ps

-- What stands behind a label, up to the next one, was typed by its leg.
abbrev pub BehindLabelIsTyped : Type 0
BehindLabelIsTyped =
    (who : Option ℕ) (before : List Piece) (p : Piece) (more rest : List Piece) (is_open : Bool)
    → AreNamed who (before ++ (p ∷ more ++ rest))
    → p.label ≡ Some is_open
    → AreUnlabelled more
    → AreTypedBy p.leg more

-- What stands before the first label was typed by one leg.
abbrev pub BeforeLabelIsOnes : Type 0
BeforeLabelIsOnes =
    (who : Option ℕ) (first rest : List Piece)
    → AreNamed who (first ++ rest)
    → AreUnlabelled first
    → (leg : ℕ) × AreTypedBy leg first

-- ---- the law
-- the answers of these asks, oldest first
abbrev pub answers : List Asked → List Answer
answers [] = []
answers (a ∷ past) = answers past ++ option_to_list a.given

-- Pieces of the answers, in their order: each character that prints stands behind the label of the leg that typed it, up to the
-- next label. At the beginning no label stands.
pub record AreAllNamed (s : Setup) (asks : List Asked) (pieces : List Piece) : Type 0 where
  pub of : AllZip (IsPieceOf s.name) (answers asks) pieces
  pub named : AreNamed None pieces

-- Whatever the legs type, so it is with all that a composer gives.
abbrev pub ComposedIsNamed : Type 0
ComposedIsNamed =
    (s : Setup) (chunks : ℕ → List Chunk) (own : ℕ) (asks : List Asked)
    → ((i : ℕ) → AreTexts (chunks i))
    → IsComposed s chunks own asks
    → (pieces : List Piece) × AreAllNamed s asks pieces

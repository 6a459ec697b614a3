-- What is printed of a terminal (profile).
use Rattle.std.specs.Prelude.{◌≡◌, ◌<◌, ℕ, List, [], ◌∷◌, length}
use Rattle.receiver.specs.declared.source_texts.SourceText.{SourceText}
use Rattle.view_spec.specs.Shown.{Display, shown}
use Rattle.view_spec.specs.Views.{Source, text_view, unaware_view, aware_view}
use Rattle.terminal.specs.declared.terminals.Terminal.{Terminal}
use Rattle.terminal.specs.declared.views.View.{View}
use Rattle.terminal.specs.declared.views.View.TheVariants.{Text, Unaware, Aware}
use Rattle.terminal.specs.Terminals.{texts_of, counts_of, AreUtf8}

-- there is a text to be shown, and each is UTF-8
pub record AreShown (texts : List SourceText) : Type 0 where
  pub some : 0 < length texts
  pub utf8 : AreUtf8 texts

-- the text of the first of these
abbrev pub first_text : List SourceText → List ℕ
first_text [] = []
first_text (t ∷ ts) = t.text

-- and what it shows
abbrev pub first_shown : List SourceText → Display
first_shown ts = shown (first_text ts)

-- the source of this name, and what it shows
abbrev pub source_shown : List ℕ → SourceText → Source
source_shown name t = record { name = name; display = shown t.text }

-- the sources of these names, and what they show
abbrev pub named : List (List ℕ) → List SourceText → List Source
named [] ts = []
named (name ∷ names) [] = []
named (name ∷ names) (t ∷ ts) = source_shown name t ∷ named names ts

-- the text of the one source
abbrev pub text_view_of : Terminal → List ℕ
text_view_of t = text_view (first_shown (texts_of t)) (counts_of t)

-- the view of an unaware terminal of this name
abbrev pub unaware_view_of : List ℕ → Terminal → List ℕ
unaware_view_of name t = unaware_view name (first_shown (texts_of t)) (counts_of t)

-- that of an aware one, whose sources have these names
abbrev pub aware_view_of : List ℕ → List (List ℕ) → Terminal → List ℕ
aware_view_of name names t = aware_view name (named names (texts_of t)) (counts_of t)

abbrev pub view_of : View → Terminal → List ℕ
view_of Text t = text_view_of t
view_of (Unaware name) t = unaware_view_of name.now t
view_of (Aware name names) t = aware_view_of name.now names.now t

-- it is a view of so many sources
abbrev pub Fits : View → ℕ → Type 0
Fits Text sources = sources ≡ 1
Fits (Unaware name) sources = sources ≡ 1
Fits (Aware name names) sources = length names.now ≡ sources

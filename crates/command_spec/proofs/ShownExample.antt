-- What is shown of stretches, by computing: Ann says Nothing; Cy's No is lost with his label, and then he takes it back and says Yes.
use Rattle.std.proofs.Common.{◌≡◌, ℕ, false, Some, None, List, [], ◌∷◌, ◌++◌, cond, refl}
use Rattle.std.specs.Prelude.{codes, flat_map, ◌==◌}
use Rattle.std.specs.Char.{encode_utf8}
use Rattle.std.specs.Str.{chars}
use Rattle.view_spec.specs.Characters.{class_of}
use Rattle.view_spec.specs.Shown.{shown}
use Rattle.view_spec.specs.TextViews.{label, label_after}
use Rattle.command_spec.specs.Named.{Piece}
use Rattle.command_spec.specs.Seen.{AreTheirs, IsShownRun, Words, parted, stand, words, words_stand}

abbrev names : ℕ → List ℕ
names leg = cond (leg == 1) (codes "Ann") (codes "Cy")

abbrev anns : Piece
anns = record { leg = 1; ahead = []; label = Some false; behind = codes "Nothing. " }

-- four erasures
abbrev taken : List ℕ
taken = 8 ∷ 8 ∷ 8 ∷ 8 ∷ []

abbrev cys : Piece
cys = record { leg = 2; ahead = []; label = None; behind = taken ++ codes "Yes. " }

-- what stands before the first label of his stretch was typed by him alone
his_words : words names (Some 2) (cys ∷ []) ≡ record { label = []; leg = Some 2; typed = taken ++ codes "Yes. "; ahead = [] } ∷ []
his_words = refl

his_are_shown : flat_map words_stand (words names (Some 2) (cys ∷ [])) ≡ codes "Yes. "
unfolding class_of chars
his_are_shown = refl

-- her words stay, behind them the marker, and behind it his
both_shown : parted (shown (codes "[Ann] Nothing. ") ∷ shown (taken ++ codes "Yes. ") ∷ []) ≡ record { lines = (codes "[Ann] Nothing. " ++ (0xEF ∷ 0xBF ∷ 0xBD ∷ codes "Yes. ")) ∷ []; bells = 0 }
unfolding shown class_of chars encode_utf8
both_shown = refl

-- without the marker his erasures would take back hers
not_parted : shown (codes "[Ann] Nothing. " ++ (taken ++ codes "Yes. ")) ≡ record { lines = codes "[Ann] NothiYes. " ∷ []; bells = 0 }
unfolding shown class_of chars encode_utf8
not_parted = refl

-- ---- where characters are lost, erasures of them take back nothing
-- `ab`, then `cd`, three erasures and `e`, of which `ab` is lost
whole_stands : stand (codes "ab" ++ (codes "cd" ++ (8 ∷ 8 ∷ 8 ∷ codes "e"))) ≡ codes "ae"
unfolding class_of
whole_stands = refl

part_stands : stand (codes "cd" ++ (8 ∷ 8 ∷ 8 ∷ codes "e")) ≡ codes "e"
unfolding class_of
part_stands = refl

-- ---- what the definitions refuse
-- erasures behind a label that take back a part of it
abbrev reaches : Piece
reaches = record { leg = 2; ahead = []; label = Some false; behind = 8 ∷ 8 ∷ [] }

refused_label : IsShownRun names None (reaches ∷ []) (codes "[Cy] " ++ (8 ∷ 8 ∷ [])) → ⊥
unfolding shown class_of chars encode_utf8 label label_after
refused_label r = let x : codes "[Cy" ∷ [] ≡ codes "[Cy] " ∷ [] = r.lines in cc x

-- an erasure ahead of a label that takes back what another leg typed
refused_ahead : AreTheirs (record { label = []; leg = Some 1; typed = codes "Hi"; ahead = 8 ∷ [] }) → ⊥
unfolding class_of
refused_ahead a = let x : codes "H" ≡ codes "Hi" = a.kept in cc x

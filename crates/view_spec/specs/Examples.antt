-- The printed views of small texts, each by computing.
use Rattle.std.specs.Prelude.{◌≡◌, [], ◌∷◌, codes, refl}
use Rattle.std.specs.Str.{chars}
use Rattle.std.specs.Char.{encode_utf8}
use Rattle.std.specs.Fmt.{digits}
use Rattle.view_spec.specs.Characters.{class_of}
use Rattle.view_spec.specs.Shown.{shown}
use Rattle.view_spec.specs.Views.{text_view, counts_line, aware_view, aware_title, source_view}

view_of_two_letters : text_view (shown (65 ∷ 66 ∷ [])) (record { packets = 4; used = 4; refused = 0; foreign = 0 })
    ≡ codes "| AB\n-- bells 0\n-- packets 4 used 4 refused 0 foreign 0\n"
unfolding shown class_of chars encode_utf8 digits text_view counts_line
view_of_two_letters = refl

view_of_nothing : text_view (shown []) (record { packets = 0; used = 0; refused = 0; foreign = 0 })
    ≡ codes "| \n-- bells 0\n-- packets 0 used 0 refused 0 foreign 0\n"
unfolding shown class_of chars encode_utf8 digits text_view counts_line
view_of_nothing = refl

-- an aware terminal with one source
view_of_one_source : aware_view (codes "Bob") (record { name = codes "Cy"; display = shown (codes "yes") } ∷ []) (record { packets = 3; used = 3; refused = 0; foreign = 0 })
    ≡ codes "== Bob aware\nCy: yes\n-- Cy bells 0\n-- packets 3 used 3 refused 0 foreign 0\n"
unfolding shown class_of chars encode_utf8 digits aware_view aware_title source_view counts_line
view_of_one_source = refl

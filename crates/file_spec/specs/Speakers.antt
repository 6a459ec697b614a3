-- Those to whom a terminal listens (profile).
use Rattle.std.specs.Prelude.{ℕ, List, map, IsTrue, All}
use Rattle.file_spec.specs.declared.conference_lines.LegLine.{LegLine}
use Rattle.file_spec.specs.Conference.{is_name}

-- each leg has a name
abbrev pub AreNamed : List LegLine → Type 0
AreNamed legs = All (λ leg. IsTrue (is_name leg.name)) legs

abbrev pub ssrcs_of : List LegLine → List ℕ
ssrcs_of legs = map (λ leg. leg.ssrc) legs

abbrev pub names_of : List LegLine → List (List ℕ)
names_of legs = map (λ leg. leg.name) legs

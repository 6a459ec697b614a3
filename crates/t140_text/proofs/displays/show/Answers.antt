use Rattle.std.proofs.Common.{List, ℕ, ap, ◌∙◌, map, chars, encode_utf8_all}
use Rattle.view_spec.specs.Shown.{shown, signs, survivors, lines_of, bells}
use Rattle.view_spec.proofs.Octets.{lines_of-encode}
use Rattle.t140_text.proofs.displays.show.Goals as goal

pub returns-clause-lines : goal.returns-clause-lines
unfolding shown
returns-clause-lines c =
    let same = c.in-Ok.ensures.cases.0 in
    c.of.ensures ∙ (ap lines_of c.in_ok-screen.ensures.text ∙ (lines_of-encode (survivors (signs (chars c.in-Ok.text.now)))
    ∙ ap (λ (text : List ℕ). map encode_utf8_all (lines_of (survivors (signs (chars text))))) same))

pub returns-clause-bells : goal.returns-clause-bells
unfolding shown
returns-clause-bells c = c.in_ok-screen.ensures.rung ∙ ap (λ (text : List ℕ). bells (chars text)) c.in-Ok.ensures.cases.0

use Rattle.std.proofs.Common.{ℕ, List, [], ◌∷◌, ◌++◌, sym, ap, ◌∙◌, append_assoc, chars, encode_utf8}
use Rattle.std.proofs.lemmas.Str.{chars_past_char}
use Rattle.t140_text.proofs.screens.Screen.read_first.Goals as goal

pub returns-clause-reads : goal.returns-clause-reads
returns-clause-reads c whole r =
    let first = c.in-Some.c in
    record {
      past = r.past ++ first ∷ [];
      holds = c.in_ok-read.ensures r.past r.holds;
      is = append_assoc r.past (first ∷ []) (chars c.as_str.result.now) ∙ (ap (λ (l : List ℕ). r.past ++ l) (sym (chars_past_char c.args.text.now c.as_str.result.now first c.utf8.text (sym c.chars-chars.ensures.rest ∙ (c.in-Some.ensures.steps.0 ∙ ap (λ (l : List ℕ). encode_utf8 first ++ l) (sym c.as_str.ensures))))) ∙ r.is);
    }

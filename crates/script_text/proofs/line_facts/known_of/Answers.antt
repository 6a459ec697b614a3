use Rattle.std.proofs.Common.{◌≡◌, eqb, false, sym, ◌∙◌}
use Rattle.script_text.proofs.EachLine.{each_is_text, each_has_all}
use Rattle.script_text.proofs.line_facts.known_of.Goals as goal

pub returns : goal.returns
returns c = record {
  text = λ t. each_is_text c.args.bytes.now (sym c.is_text.ensures ∙ t);
  plain = λ t. each_has_all (λ x. eqb x 92 ≡ false) c.args.bytes.now (c.is_plain.ensures.0 t);
}

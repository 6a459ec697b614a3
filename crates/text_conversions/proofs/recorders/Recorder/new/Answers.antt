use Rattle.text_conversions.proofs.Steps.{at_start}
use Rattle.std.proofs.lemmas.List.Elements.{All-nil}
use Rattle.std.proofs.Common.{◌++◌, ℕ, List, ap, ◌∙◌, ◌≤◌}
use Rattle.file_spec.specs.Script.{ScriptLine}
use Rattle.wire_spec.specs.Dump.{dump_opening}
use Rattle.text_conversions.proofs.recorders.Recorder.new.Goals as goal

pub returns-clause-at : goal.returns-clause-at
returns-clause-at c = record {
  records = at_start c.args.settings c.in_ok-sender.sender c.write_opening.new.out c.requires c.in_ok-sender.ensures (c.in_ok-write_opening.ensures.ok ∙ ap (λ (xs : List ℕ). xs ++ dump_opening) c.new-octets.ensures);
  typed = All-nil (λ (l : ScriptLine). l.at ≤ 0);
}

use Rattle.std.proofs.Common.{List, ◌∷◌, [], ◌++◌, length, ap, ◌∙◌}
use Rattle.file_spec.specs.Script.{ScriptLine}
use Rattle.script_text.specs.ScriptLines.{line_of}
use Rattle.script_text.specs.Spans.{lines_in}
use Rattle.script_text.proofs.SpanLines.{lines_pushed}
use Rattle.script_text.proofs.scripts.Script.push.Goals as goal

pub returns-in-Ok-clause-ok : goal.returns-in-Ok-clause-ok
returns-in-Ok-clause-ok c =
    let s = c.self.inside in
    let t = c.args.line.text.now in
    let grown = c.in_ok-append.ensures.ok in
    ap (λ texts. lines_in texts c.push.new.self.items) grown
    ∙ ap (λ spans. lines_in (s.texts ++ t) spans) c.in-Ok.ensures.items
    ∙ lines_pushed s.texts t s.spans.items (record { line = c.args.line.line; at = c.args.line.at; from = c.len-from.result; to = c.len-to.result }) c.self.invariant c.len-from.ensures (c.len-to.ensures ∙ ap length grown)
    ∙ ap (λ (ls : List ScriptLine). ls ++ line_of c.args.line ∷ []) c.self.view_is

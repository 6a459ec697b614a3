use Rattle.std.proofs.Common.{◌+◌, ◌<◌, ◌≤◌, ◌∷◌, length, drop, ap, sym, ◌∙◌, arith}
use Rattle.std.specs.Str.Lines.{lines}
use Rattle.std.proofs.lemmas.List.{drop_all, take_rest}
use Rattle.script_text.proofs.FirstLine.{a_line_ends, no_line_ends}
use Rattle.script_text.proofs.lines.next_line.Goals as goal

pub returns-in-Some-clause-lines : goal.returns-in-Some-clause-lines
returns-in-Some-clause-lines c =
    let first = a_line_ends c.args.octets.now c.in-Some.end (sym c.line_end.ensures ∙ c.in-Some.is) in
    rw take_rest (first ∙ ap (λ l. l ∷ lines (drop (c.in-Some.end + 1) c.args.octets.now)) (sym c.without_return.ensures))

pub returns-in-None-clause-lines : goal.returns-in-None-clause-lines
returns-in-None-clause-lines c =
    let some : 0 < length c.args.octets.now = grind (arith, c.if-is_empty.ensures) in
    let all : length c.args.octets.now ≤ length c.args.octets.now = omega arith in
    rw (take_rest, drop_all (length c.args.octets.now) c.args.octets.now all) (no_line_ends c.args.octets.now (sym c.line_end.ensures ∙ c.in-None.is) some)

use Rattle.std.proofs.Common.{◌≡◌, ◌≤◌, ◌+◌, List, length, take, drop, sym, subst, ◌∙◌, arith}
use Rattle.std.specs.Prelude.{IsUtf8}
use Rattle.std.proofs.lemmas.List.Elements.{All-head}
use Rattle.std.proofs.lemmas.Option.{get_or_from_slice_get}
use Rattle.file_spec.specs.Script.{ScriptLine}
use Rattle.script_text.specs.ScriptLines.{line_of}
use Rattle.packetizer.specs.SenderStanding.{waits_for}
use Rattle.command_spec.specs.Scripts.{events_until}
use Rattle.text_conversions.proofs.Steps.{err_over, ok_fits, from_ok}
use Rattle.text_conversions.proofs.SendLines.{Sends, Sent, at_line, above_to, all_lines, next_line, full_here, at_last}
use Rattle.text_conversions.proofs.Firsts.{at_end}
use Rattle.text_conversions.proofs.scripts.send_script.Goals as goal

pub type_line-requires-clause-text : goal.type_line-requires-clause-text
type_line-requires-clause-text c =
    let s = at_line c.args.settings c.args.script.now c.loop-index.index (line_of c.line-line.result) c.loop-index.recorder (omega (arith, c.loop-index-test.true, c.len-index-end.ensures)) (sym (get_or_from_slice_get c.args.script.now c.loop-index.index (line_of c.line-line.result) (line_of c.line-line.result) c.line-line.ensures)) c.loop-index.invariant in
    All-head (λ (l : ScriptLine). IsUtf8 l.text) (line_of c.line-line.result) _ s.lines_below.texts

pub type_line-requires-clause-now : goal.type_line-requires-clause-now
type_line-requires-clause-now c =
    let s = at_line c.args.settings c.args.script.now c.loop-index.index (line_of c.line-line.result) c.loop-index.recorder (omega (arith, c.loop-index-test.true, c.len-index-end.ensures)) (sym (get_or_from_slice_get c.args.script.now c.loop-index.index (line_of c.line-line.result) (line_of c.line-line.result) c.line-line.ensures)) c.loop-index.invariant in
    let h = All-head (λ (l : ScriptLine). c.loop-index.recorder.now ≤ l.at) (line_of c.line-line.result) _ s.later in
    c.in_ok-pass_to.ensures.now (omega (arith, h, c.from.ensures)) ∙ c.from.ensures

pub returns-then-is_err-clause-cause : goal.returns-then-is_err-clause-cause
returns-then-is_err-clause-cause c =
    let settings = c.args.settings in
    let xs = c.args.script.now in
    let i = c.loop-index.index in
    let line = (line_of c.line-line.result) in
    let passed = c.pass_to.new.self in
    let s = at_line settings xs i line c.loop-index.recorder (omega (arith, c.loop-index-test.true, c.len-index-end.ensures)) (sym (get_or_from_slice_get c.args.script.now c.loop-index.index (line_of c.line-line.result) (line_of c.line-line.result) c.line-line.ensures)) c.loop-index.invariant in
    let h = All-head (λ (l : ScriptLine). c.loop-index.recorder.now ≤ l.at) line _ s.later in
    let now : passed.now ≡ line.at = c.in_ok-pass_to.ensures.now (omega (arith, h, c.from.ensures)) ∙ c.from.ensures in
    let at = c.in_ok-pass_to.ensures.at settings (take i xs) s.is_at in
    let over = err_over c.type_line.result (length (waits_for settings (events_until (take i xs) passed.now)) + length line.text) (sym c.is_err.ensures.value ∙ c.if-is_err.true) (c.type_line.ensures.room settings (take i xs) at) in
    full_here settings xs (take i xs) (drop (i + 1) xs) line c.loop-index.recorder passed s now over

pub loop-index-preserved : goal.loop-index-preserved
loop-index-preserved c =
    let settings = c.args.settings in
    let xs = c.args.script.now in
    let i = c.loop-index.index in
    let line = (line_of c.line-line.result) in
    let passed = c.pass_to.new.self in
    let typed = c.type_line.new.self in
    let s = at_line settings xs i line c.loop-index.recorder (omega (arith, c.loop-index-test.true, c.len-index-end.ensures)) (sym (get_or_from_slice_get c.args.script.now c.loop-index.index (line_of c.line-line.result) (line_of c.line-line.result) c.line-line.ensures)) c.loop-index.invariant in
    let h = All-head (λ (l : ScriptLine). c.loop-index.recorder.now ≤ l.at) line _ s.later in
    let now : passed.now ≡ line.at = c.in_ok-pass_to.ensures.now (omega (arith, h, c.from.ensures)) ∙ c.from.ensures in
    let at = c.in_ok-pass_to.ensures.at settings (take i xs) s.is_at in
    let ok = sym c.is_err.ensures.value ∙ c.if-is_err.false in
    let fits = ok_fits c.type_line.result (length (waits_for settings (events_until (take i xs) passed.now)) + length line.text) ok (c.type_line.ensures.room settings (take i xs) at) in
    let more = from_ok c.type_line.result ok c.type_line.ensures.ok settings (take i xs) at in
    subst (λ (above : List ScriptLine). Sends settings xs above (drop (i + 1) xs) typed) (sym (above_to xs i line (omega (arith, c.loop-index-test.true, c.len-index-end.ensures)) (sym (get_or_from_slice_get c.args.script.now c.loop-index.index (line_of c.line-line.result) (line_of c.line-line.result) c.line-line.ensures))))
    (next_line settings xs (take i xs) (drop (i + 1) xs) line c.loop-index.recorder passed typed s now fits more c.type_line.ensures.now)

pub returns-clause-sent : goal.returns-clause-sent
returns-clause-sent c =
    let settings = c.args.settings in
    let xs = c.args.script.now in
    let i = c.loop-index.index in
    let last = c.pass_to-2.new.self in
    let s = all_lines settings xs i c.loop-index.recorder (omega (arith, c.loop-index-test.false, c.len-index-end.ensures)) c.loop-index.invariant in
    let at = c.in_ok-pass_to-2.ensures.at settings (take i xs) s.is_at in
    let done : Sent settings xs last.octets 82999999 = at_last settings xs (take i xs) c.loop-index.recorder last 82999999 s at (c.in_ok-pass_to-2.ensures.now (omega (arith, s.early))) (omega arith) (omega arith) in
    let end : Sent settings c.args.script.now last.octets 82999999 = done in
    end.recording ∙ at_end settings c.args.script.now 82999999 (omega arith) end.is_end

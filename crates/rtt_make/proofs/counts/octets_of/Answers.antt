use Rattle.std.proofs.Common.{◌≡◌, ◌<◌, ℕ, List, length, take, ap, sym, ◌∙◌, arith}
use Rattle.std.specs.List.{sum_by}
use Rattle.std.proofs.lemmas.List.Concat.{length-flat_map}
use Rattle.std.proofs.lemmas.List.Sums.{sum_by_more, sum_by_more_le}
use Rattle.std.proofs.Math.Seq.{take-length}
use Rattle.std.proofs.lemmas.Option.{get_or_from_slice_get}
use Rattle.file_spec.specs.Script.{ScriptLine}
use Rattle.script_text.specs.ScriptLines.{line_of}
use Rattle.rtt_make.proofs.counts.octets_of.Goals as goal

abbrev size : ScriptLine → ℕ
size l = length l.text

pub overflow_add-octets : goal.overflow_add-octets
overflow_add-octets c =
    let line = line_of c.line-line.result in
    let read = ap size (get_or_from_slice_get c.args.script.now c.loop-index.index line line c.line-line.ensures) in
    let within : c.loop-index.index < length c.args.script.now = omega (arith, c.loop-index-test.true, c.len-index-end.ensures) in
    let more = sum_by_more_le size c.args.script.now c.loop-index.index line within in
    let whole = length-flat_map size_text c.args.script.now in
    omega (arith, more, whole, read, c.loop-index.invariant, c.requires)
  where
    size_text : ScriptLine → List ℕ
    size_text l = l.text

pub loop-index-preserved : goal.loop-index-preserved
loop-index-preserved c =
    let line = line_of c.line-line.result in
    let read = ap size (get_or_from_slice_get c.args.script.now c.loop-index.index line line c.line-line.ensures) in
    let within : c.loop-index.index < length c.args.script.now = omega (arith, c.loop-index-test.true, c.len-index-end.ensures) in
    let more = sum_by_more size c.args.script.now c.loop-index.index line within in
    omega (arith, more, read, c.loop-index.invariant)

pub returns : goal.returns
returns c =
    let all : c.loop-index.index ≡ length c.args.script.now = omega (arith, c.loop-index-test.false, c.loop-index.auto.index-end, c.len-index-end.ensures) in
    let text : ScriptLine → List ℕ = λ l. l.text in
    c.loop-index.invariant ∙ (ap (λ n. sum_by size (take n c.args.script.now)) all ∙ (ap (sum_by size) (take-length c.args.script.now) ∙ sym (length-flat_map text c.args.script.now)))

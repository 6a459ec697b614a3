use Rattle.std.proofs.Common.{List, ℕ, sym, subst}
use Rattle.reorder_buffer.specs.declared.answers.Due.{Due}
use Rattle.rtt_times.specs.declared.stream_packets.TimedPacket.{TimedPacket}
use Rattle.rtt_times.specs.Lines.{AddsLines}
use Rattle.rtt_times.specs.Numbers.{AreAbove, AreLateNumbers, gap_lines, late_lines}
use Rattle.rtt_times.proofs.Missing.{dues_above, numbers_added}
use Rattle.rtt_times.proofs.numbers.add_numbers.Goals as goal
use Rattle.receiver.proofs.Parts.{on_ok_then as on_ok}

pub add_gaps-requires-clause-above : goal.add_gaps-requires-clause-above
add_gaps-requires-clause-above c = subst AreAbove (sym c.as_slice-2.ensures.value) (dues_above c.args.heard.now c.requires.0 c.requires.1)

pub returns : goal.returns
returns c =
    let heard = c.args.heard.now in
    let late = c.in_ok-late.late.items in
    let numbers = c.in_ok-numbers.numbers.items in
    let are : AreLateNumbers late numbers = subst (λ (xs : List TimedPacket). AreLateNumbers xs numbers) c.as_slice.ensures.value c.in_ok-numbers.ensures in
    let gaps : AddsLines c.args.lines.now (gap_lines c.args.ssrc numbers heard.used.items) c.add_gaps.new.lines =
    subst (λ (xs : List ℕ). AddsLines c.args.lines.now (gap_lines c.args.ssrc xs heard.used.items) c.add_gaps.new.lines) c.as_slice-3.ensures.value
    (subst (λ (ds : List Due). AddsLines c.args.lines.now (gap_lines c.args.ssrc c.as_slice-3.result.now ds) c.add_gaps.new.lines) c.as_slice-2.ensures.value c.in_ok-add_gaps.ensures) in
    on_ok c.add_late.result (λ lates. numbers_added c.args.ssrc heard late numbers c.args.lines.now c.add_gaps.new.lines c.add_late.new.lines c.in_ok-late.ensures are gaps
    (subst (λ (xs : List TimedPacket). AddsLines c.add_gaps.new.lines (late_lines c.args.ssrc xs) c.add_late.new.lines) c.as_slice-4.ensures.value lates)) c.add_late.ensures

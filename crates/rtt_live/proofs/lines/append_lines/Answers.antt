use Rattle.std.proofs.Common.{◌≡◌, ◌++◌, ◌<◌, ◌≤◌, ◌∙◌, ℕ, List, length, get_or, ap, arith}
use Rattle.file_spec.specs.declared.conference_lines.LegLine.{LegLine}
use Rattle.live_board.specs.Folds.{Shown, fold_of}
use Rattle.file_spec.specs.Conferences.{meaning_of}
use Rattle.live_spec.specs.Watched.{board_line}
use Rattle.live_board.specs.Values.{Reading}
use Rattle.rtt_live.proofs.Reading.{line_more, lines_all}
use Rattle.rtt_live.proofs.lines.append_lines.Goals as goal

pub loop-leg-preserved : goal.loop-leg-preserved
loop-leg-preserved c =
    let i = c.loop-leg.invariant in
    let first = c.args.reader in
    let leg = c.loop-leg.leg in
    let legs = c.args.conference.now.legs in
    let line = c.index-as_slice-leg.result in
    let total = c.read.new.out.total in
    let same : c.read.new.self ≡ first = c.read.ensures.over (ap (λ (r : Reading). r.ended) i.0 ∙ c.requires.ended) ∙ i.0 in
    let total_is : total ≡ (fold_of leg first.seen).total = ap (λ (s : Shown). s.total) c.read.ensures.shows ∙ ap (λ (r : Reading). (fold_of leg r.seen).total) same in
    let line_is : line ≡ get_or legs leg line = c.index-as_slice-leg.is ∙ ap (λ (xs : List LegLine). get_or xs leg line) c.as_slice.ensures in
    let below : leg < length legs = omega (arith, c.loop-leg-test.true, c.len-leg-end.ensures) in (
      same,
      line_more (meaning_of c.args.conference.now) first.seen leg line c.args.printed.now c.loop-leg.printed c.append_line.new.printed below i.1
          (c.in_ok-append_line.ensures ∙ (ap (λ (n : ℕ). c.loop-leg.printed ++ board_line line n) total_is ∙ ap (λ (l : LegLine). c.loop-leg.printed ++ board_line l (fold_of leg first.seen).total) line_is)),
    )

pub returns : goal.returns
returns c =
    let many : length c.args.conference.now.legs ≤ c.loop-leg.leg = omega (arith, c.loop-leg-test.false, c.len-leg-end.ensures) in
    lines_all (meaning_of c.args.conference.now) c.args.reader.seen c.loop-leg.leg c.args.printed.now c.loop-leg.printed many c.loop-leg.invariant.1

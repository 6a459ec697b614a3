use Rattle.std.proofs.Common.{◌≡◌, ◌<◌, ◌++◌, ℕ, List, length, get_or, ap, subst, sym, ◌∙◌, arith}
use Rattle.file_spec.specs.declared.conference_lines.LegLine.{LegLine}
use Rattle.file_spec.specs.Conferences.{meaning_of}
use Rattle.view_spec.specs.Tallies.{tally_line}
use Rattle.rtt_attend.specs.declared.source_notes.SourceNotes.{SourceNotes}
use Rattle.rtt_attend.proofs.Lines.{lines_all, lines_more}
use Rattle.rtt_attend.proofs.input_notes.lines_of.Goals as goal

pub loop-number-preserved : goal.loop-number-preserved
loop-number-preserved c = λ held told.
    let conference = meaning_of c.args.conference.now in
    let k = c.loop-number.number in
    let leg = c.index-legs-number.result in
    let same = c.as_slice-legs.ensures in
    let less : k < length conference.legs = subst (λ (l : List LegLine). k < length l) same c.loop-number-test.true in
    lines_more held conference c.args.all.now k leg c.index-all-number.result c.loop-number.lines c.append_tally.new.out told less c.requires.each
    (subst (λ (l : List LegLine). leg ≡ get_or l k leg) same c.index-legs-number.is) c.index-all-number.is (c.loop-number.invariant held told)
    (c.in_ok-append_tally.ensures.ok
    ∙ (ap (λ (said : SourceNotes). c.loop-number.lines ++ tally_line c.as_slice.result.now said.tally) (sym c.index-all-number.is)
    ∙ ap (λ (name : List ℕ). c.loop-number.lines ++ tally_line name c.index-all-number.result.tally) (c.as_slice.ensures.value ∙ ap (λ (l : LegLine). l.name) (sym c.index-legs-number.is))))

pub returns : goal.returns
returns c = λ held told.
    let low = ap (λ (l : List LegLine). length l) c.as_slice-legs.ensures in
    lines_all held (meaning_of c.args.conference.now) c.loop-number.number c.loop-number.lines (omega (arith, low, c.loop-number-test.false)) (c.loop-number.invariant held told)

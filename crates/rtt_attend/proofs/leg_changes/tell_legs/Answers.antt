use Rattle.std.proofs.Common.{List, length, refl, ap, ◌∙◌, arith}
use Rattle.std.proofs.lemmas.Option.{slice_get_read}
use Rattle.file_spec.specs.declared.conference_lines.LegLine.{LegLine}
use Rattle.command_spec.specs.Attending.{told_so}
use Rattle.rtt_attend.specs.Heard.{said_of}
use Rattle.rtt_attend.proofs.Changes.{told_more}
use Rattle.rtt_attend.proofs.leg_changes.tell_legs.Goals as goal
use Rattle.file_spec.proofs.KeptLines.{length-change as length_changed}

pub loop-leg-preserved : goal.loop-leg-preserved
loop-leg-preserved c =
    let all = c.args.said.now in
    let k = c.loop-leg.leg in
    let said = c.index-said-leg.result in
    let now = c.loop-leg.legs in
    let at = slice_get_read all (length all) k said refl (omega (arith, c.loop-leg-test.true)) c.index-said-leg.is in (
      told_more c.args.wait k all said c.args.legs.now now c.tell_leg.new.legs c.loop-leg.invariant.0 at c.tell_leg.ensures,
      ap (λ (l : List LegLine). length l) c.tell_leg.ensures ∙ (length_changed (told_so c.args.wait (said_of said) now) k now ∙ c.loop-leg.invariant.1),
    )

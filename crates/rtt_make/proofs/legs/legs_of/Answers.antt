use Rattle.std.proofs.Common.{◌≡◌, ◌+◌, ◌-◌, List, map, ◌++◌, sym, subst, arith}
use Rattle.std.specs.List.{range_with_len}
use Rattle.file_spec.specs.declared.conference_lines.LegLine.{LegLine}
use Rattle.command_spec.specs.Generated.{leg}
use Rattle.rtt_make.proofs.Times.{range_step}
use Rattle.rtt_make.proofs.legs.legs_of.Goals as goal

pub loop-number-preserved : goal.loop-number-preserved
loop-number-preserved c =
    let whole = map leg (range_with_len 0 c.args.count) in
    let fewer = c.args.count - (c.loop-number.number + 1) in
    let P : List LegLine → Type 0 = λ l. whole ≡ l ++ map leg (range_with_len (c.loop-number.number + 1) fewer) in
    subst P (sym c.in_ok-push.ensures.ok) (range_step leg whole c.loop-number.legs (c.args.count - c.loop-number.number) fewer c.loop-number.number c.in_ok-line.line
    c.loop-number.invariant (omega (arith, c.loop-number-test.true)) c.in_ok-line.ensures)

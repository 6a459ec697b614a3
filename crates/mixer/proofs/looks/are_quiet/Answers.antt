use Rattle.std.proofs.Common.{◌≡◌, ℕ, Some, true, length, subst, sym, arith}
use Rattle.std.specs.Prelude.{slice_get}
use Rattle.mixer_spec.specs.Rounds.{all_below}
use Rattle.mixer_spec.specs.Table.{is_quiet}
use Rattle.terminal_scheduler.proofs.Below.{fails_at, all_more}
use Rattle.mixer.proofs.looks.are_quiet.Goals as goal
use Rattle.stream_spec.proofs.Plain.{get_read}

pub returns-then-not-is_quiet : goal.returns-then-not-is_quiet
returns-then-not-is_quiet c = λ s table h w.
    let j = c.loop-terminal.terminal in
    let o = c.index-schedulers-terminal.result in
    let g : slice_get c.args.schedulers.now j ≡ Some o = get_read c.args.schedulers.now j o (omega (arith, c.loop-terminal-test.true)) c.index-schedulers-terminal.is in
    sym (fails_at (λ k. is_quiet s k (table.terminals k)) (length c.args.schedulers.now) j (omega (arith, c.loop-terminal-test.true)) (sym (c.if-not-is_quiet.ensures s j table (h j o g) w)))

pub loop-terminal-preserved : goal.loop-terminal-preserved
loop-terminal-preserved c = λ s table h w.
    let j = c.loop-terminal.terminal in
    let o = c.index-schedulers-terminal.result in
    let g : slice_get c.args.schedulers.now j ≡ Some o = get_read c.args.schedulers.now j o (omega (arith, c.loop-terminal-test.true)) c.index-schedulers-terminal.is in
    all_more (λ k. is_quiet s k (table.terminals k)) j (c.loop-terminal.invariant s table h w) (sym (c.if-not-is_quiet.ensures s j table (h j o g) w))

pub returns : goal.returns
returns c = λ s table h w.
    let at : c.loop-terminal.terminal ≡ length c.args.schedulers.now = omega (arith, c.loop-terminal-test.false, c.loop-terminal.auto.terminal-end) in
    sym (subst (λ (n : ℕ). all_below (λ k. is_quiet s k (table.terminals k)) n ≡ true) at (c.loop-terminal.invariant s table h w))

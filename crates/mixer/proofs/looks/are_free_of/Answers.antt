use Rattle.std.proofs.Common.{◌≡◌, ℕ, Some, true, not, length, refl, subst, sym, arith}
use Rattle.std.specs.Prelude.{◌==◌, ◌||◌, slice_get}
use Rattle.mixer_spec.specs.Rounds.{all_below}
use Rattle.mixer_spec.specs.Table.{has_work}
use Rattle.terminal_scheduler.proofs.Below.{fails_at, all_more}
use Rattle.mixer.proofs.looks.are_free_of.Goals as goal
use Rattle.stream_spec.proofs.Plain.{get_read}

pub returns-then-not-is_free_of : goal.returns-then-not-is_free_of
returns-then-not-is_free_of c = λ s table h w.
    let j = c.loop-terminal.terminal in
    let o = c.index-schedulers-terminal.result in
    let g : slice_get c.args.schedulers.now j ≡ Some o = get_read c.args.schedulers.now j o (omega (arith, c.loop-terminal-test.true)) c.index-schedulers-terminal.is in
    sym (fails_at (λ k. (k == c.args.leg) || not (has_work s k (table.terminals k) c.args.leg)) (length c.args.schedulers.now) j (omega (arith, c.loop-terminal-test.true)) (sym (c.if-not-is_free_of.ensures s j table (h j o g) w refl)))

pub loop-terminal-preserved : goal.loop-terminal-preserved
loop-terminal-preserved c = λ s table h w.
    let j = c.loop-terminal.terminal in
    let o = c.index-schedulers-terminal.result in
    let g : slice_get c.args.schedulers.now j ≡ Some o = get_read c.args.schedulers.now j o (omega (arith, c.loop-terminal-test.true)) c.index-schedulers-terminal.is in
    all_more (λ k. (k == c.args.leg) || not (has_work s k (table.terminals k) c.args.leg)) j (c.loop-terminal.invariant s table h w) (sym (c.if-not-is_free_of.ensures s j table (h j o g) w refl))

pub returns : goal.returns
returns c = λ s table h w.
    let at : c.loop-terminal.terminal ≡ length c.args.schedulers.now = omega (arith, c.loop-terminal-test.false, c.loop-terminal.auto.terminal-end) in
    sym (subst (λ (n : ℕ). all_below (λ k. (k == c.args.leg) || not (has_work s k (table.terminals k) c.args.leg)) n ≡ true) at (c.loop-terminal.invariant s table h w))

use Rattle.std.proofs.Common.{◌≡◌, ℕ, ◌<◌, Some, length, subst, arith}
use Rattle.std.specs.Prelude.{slice_get}
use Rattle.mixer.specs.Waking.{AreWokenBelow}
use Rattle.mixer.proofs.Woken.{none_woken, one_woken}
use Rattle.mixer.proofs.wakes.wake.Goals as goal
use Rattle.stream_spec.proofs.Plain.{get_read}

pub loop-terminal-init : goal.loop-terminal-init
loop-terminal-init c = none_woken c.args.schedulers.now.items

pub loop-terminal-preserved : goal.loop-terminal-preserved
loop-terminal-preserved c =
    let items = c.loop-terminal.schedulers.items in
    let w = c.index_mut-scheduler.result.now in
    let l : c.loop-terminal.terminal < length items = omega (arith, c.loop-terminal-test.true, c.len-terminal-end.ensures, c.args.schedulers.now.ok.0, c.loop-terminal.invariant.count) in
    let g : slice_get items c.loop-terminal.terminal ≡ Some w = get_read items c.loop-terminal.terminal w l c.index_mut-scheduler.ensures.value in
    one_woken c.loop-terminal.terminal c.args.schedulers.now.items items w c.wake.new.self c.loop-terminal.invariant g
    (record { stands = c.wake.ensures.stands; own = c.wake.ensures.same.0; legs = c.wake.ensures.same.1; sources = c.wake.ensures.same.2; next = c.wake.ensures.next })

pub returns : goal.returns
returns c =
    let at : c.loop-terminal.terminal ≡ length c.args.schedulers.now.items = omega (arith, c.loop-terminal-test.false, c.loop-terminal.auto.terminal-end, c.len-terminal-end.ensures, c.args.schedulers.now.ok.0) in
    subst (λ (n : ℕ). AreWokenBelow n c.args.schedulers.now.items c.loop-terminal.schedulers.items) at c.loop-terminal.invariant

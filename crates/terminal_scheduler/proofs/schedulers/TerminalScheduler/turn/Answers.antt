use Rattle.std.proofs.Common.{subst}
use Rattle.terminal_scheduler.specs.declared.schedulers.TerminalScheduler.{TerminalScheduler}
use Rattle.terminal_scheduler.specs.Schedulers.{IsTurn}
use Rattle.terminal_scheduler.proofs.Turning.{aware_turned, unaware_turn, unaware_turned}
use Rattle.terminal_scheduler.proofs.schedulers.TerminalScheduler.turn.Goals as goal

pub returns-in-Aware-clause-turned : goal.returns-in-Aware-clause-turned
returns-in-Aware-clause-turned c = λ s j table now h.
    let r = subst (λ (x : TerminalScheduler). IsTurn s j table x c.args.seating.now c.args.slots.now c.args.names.now now c.args.media) c.in-Aware.is h in
    aware_turned s j table c.in-Aware.scheduler c.turn.new.self c.args.seating.now c.args.slots.now c.turn.new.slots c.args.names.now now c.args.media c.turn.result c.turn.new.text r c.turn.ensures.turned

pub returns-in-Unaware-clause-turned : goal.returns-in-Unaware-clause-turned
returns-in-Unaware-clause-turned c = λ s j table now h.
    let r = subst (λ (x : TerminalScheduler). IsTurn s j table x c.args.seating.now c.args.slots.now c.args.names.now now c.args.media) c.in-Unaware.is h in
    let t = unaware_turn s j table c.in-Unaware.scheduler c.args.seating.now c.args.slots.now c.args.names.now now c.args.media r in
    let told = c.turn-in-Unaware.ensures in
    unaware_turned s j table c.in-Unaware.scheduler c.turn-in-Unaware.new.self c.args.seating.now c.args.slots.now c.turn-in-Unaware.new.slots c.args.names.now now c.args.media c.turn-in-Unaware.result c.turn-in-Unaware.new.text r
    (told.stands s j table now t) (told.waits s j table now t) (told.puts s j table now t)

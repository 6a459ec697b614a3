use Rattle.std.proofs.Common.{sym, ◌∙◌}
use Rattle.terminal_scheduler.proofs.schedulers.TerminalScheduler.new.Goals as goal

pub returns-clause-stands : goal.returns-clause-stands
returns-clause-stands c = λ s made again aware.
    (sym aware ∙ c.if-aware.false, c.in_ok-scheduler-2.ensures.stands s made.setup (sym made.legs_is) (sym made.spacing_is) (sym made.generations_is) (sym made.room_is) again)

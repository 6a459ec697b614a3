use Rattle.std.proofs.Common.{sym, ◌∙◌}
use Rattle.rtt_show.proofs.Grouping.{on_ok}
use Rattle.rtt_show.proofs.Straying.{stray_used, stray_again, stray_late}
use Rattle.rtt_show.proofs.strays.Strays.take.Goals as goal

pub returns-then-came-clause-more : goal.returns-then-came-clause-more
returns-then-came-clause-more c = on_ok c.take_used.result (stray_used c.args.self.now c.take_used.new.self c.args.came c.args.first c.if-came.true) c.take_used.ensures.more

pub returns-then-contains-clause-more : goal.returns-then-contains-clause-more
returns-then-contains-clause-more c = stray_again c.args.self.now c.args.came c.args.first c.if-came.false (sym c.contains.ensures ∙ c.if-contains.true)

pub returns-clause-more : goal.returns-clause-more
returns-clause-more c =
    on_ok c.take_late.result (stray_late c.args.self.now c.take_late.new.self c.args.came c.args.first c.if-came.false (sym c.contains.ensures ∙ c.if-contains.false)) c.take_late.ensures.more

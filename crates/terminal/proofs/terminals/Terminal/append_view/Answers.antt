use Rattle.terminal.proofs.Seeing.{view_is_seen}
use Rattle.terminal.proofs.terminals.Terminal.append_view.Goals as goal
use Rattle.wire_spec.proofs.Plain.{on_ok}

pub returns-clause-seen : goal.returns-clause-seen
returns-clause-seen c = on_ok c.append_whole.result c.append_whole.ensures.ok (view_is_seen c.args.self.now c.args.view c.args.out.now c.append_whole.new.out)

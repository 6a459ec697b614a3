use Rattle.std.proofs.Common.{◌+◌, arith}
use Rattle.sent_log.proofs.Growing.{each_written}
use Rattle.sent_log.proofs.terminals.TerminalLog.note.Goals as goal

pub returns-in_err-place-clause-grows : goal.returns-in_err-place-clause-grows
returns-in_err-place-clause-grows c = each_written c.args.texts.now.items (c.args.self.now.first + c.args.source) c.index_mut-list.result.now c.keep.new.self (omega arith) c.index_mut-list.ensures.value c.keep.ensures.grows

pub returns-in_err-entry-clause-grows : goal.returns-in_err-entry-clause-grows
returns-in_err-entry-clause-grows c = each_written c.args.texts.now.items (c.args.self.now.first + c.args.source) c.index_mut-list.result.now c.keep.new.self (omega arith) c.index_mut-list.ensures.value c.keep.ensures.grows

pub returns-in_err-push-clause-grows : goal.returns-in_err-push-clause-grows
returns-in_err-push-clause-grows c = each_written c.args.texts.now.items (c.args.self.now.first + c.args.source) c.index_mut-list.result.now c.keep.new.self (omega arith) c.index_mut-list.ensures.value c.keep.ensures.grows

pub returns-clause-grows : goal.returns-clause-grows
returns-clause-grows c = each_written c.args.texts.now.items (c.args.self.now.first + c.args.source) c.index_mut-list.result.now c.keep.new.self (omega arith) c.index_mut-list.ensures.value c.keep.ensures.grows

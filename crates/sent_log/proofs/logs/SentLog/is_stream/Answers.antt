use Rattle.sent_log.specs.States.{IsStreamOf}
use Rattle.sent_log.proofs.Rendering.{is_terminal, of_terminal, stream_of_these, terminal_in}
use Rattle.sent_log.proofs.logs.SentLog.is_stream.Goals as goal

pub returns : goal.returns
returns c = λ e.
    let i = c.self.inside in
    let t = c.index-sent_to.result.now in
    let there = terminal_in i.turns.items i.texts.items i.terminals.items c.args.self.now c.args.terminal t c.self.view_is c.index-sent_to.ensures c.requires in
    of_terminal i.turns.items i.texts.items i.terminals.items c.args.self.now c.args.terminal t (IsStreamOf c.args.ssrc c.args.payload_types) c.self.view_is there
    (stream_of_these i.turns.items i.texts.items t c.args.ssrc c.args.payload_types (is_terminal i.turns.items i.texts.items i.terminals.items c.args.terminal t c.self.invariant there) c.has_ssrcs.ensures (c.is_stream.ensures.ssrc e) (c.is_stream.ensures.payload_types e))

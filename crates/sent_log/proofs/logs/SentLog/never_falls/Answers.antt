use Rattle.std.proofs.Common.{List, subst}
use Rattle.std.specs.List.Sorted.{IsNonDecreasingBy}
use Rattle.sent_log.specs.declared.terminals.LoggedPacket.{LoggedPacket}
use Rattle.sent_log.specs.declared.turns.Turn.{Turn}
use Rattle.sent_log.specs.Insides.{turn_at}
use Rattle.sent_log.specs.States.{NeverFalls}
use Rattle.sent_log.proofs.Rendering.{never_falls, of_terminal, terminal_in}
use Rattle.sent_log.proofs.logs.SentLog.never_falls.Goals as goal

pub returns : goal.returns
returns c = λ e.
    let i = c.self.inside in
    let t = c.index.result.now in
    let there = terminal_in i.turns.items i.texts.items i.terminals.items c.args.self.now c.args.terminal t c.self.view_is c.index.ensures c.requires in
    let falls = c.never_fall.ensures e in
    let entries = subst (λ (xs : List LoggedPacket). IsNonDecreasingBy (λ (x : LoggedPacket). (turn_at c.deref-2.result.now x.turn).now) xs) c.deref.ensures.value falls in
    let turns = subst (λ (us : List Turn). IsNonDecreasingBy (λ (x : LoggedPacket). (turn_at us x.turn).now) t.entries.items) c.deref-2.ensures.value entries in
    of_terminal i.turns.items i.texts.items i.terminals.items c.args.self.now c.args.terminal t NeverFalls c.self.view_is there (never_falls i.turns.items i.texts.items t turns)

use Rattle.std.proofs.Common.{◌≡◌, ◌<◌, List, length, ap, subst, sym, ◌∙◌, arith}
use Rattle.std.specs.Prelude.{All}
use Rattle.std.proofs.lemmas.List.{length-map}
use Rattle.sent_log.specs.declared.repeats.PacketKey.{PacketKey}
use Rattle.sent_log.specs.Insides.{sending_of}
use Rattle.sent_log.specs.Pens.{IsPenOf, IsPenTo}
use Rattle.sent_log.specs.Repeats.{anew, fresh}
use Rattle.sent_log.specs.States.{Sending}
use Rattle.sent_log.proofs.Penning.{all_anew, pen_fresh}
use Rattle.sent_log.proofs.Rendering.{of_terminal, tells, terminal_in}
use Rattle.sent_log.proofs.logs.SentLog.restart.Goals as goal

pub returns : goal.returns
returns c =
    let i = c.self.inside in
    let t = c.index-sent_to.result.now in
    let old = c.args.pen.now.sources.items in
    let new = c.restart.new.self in
    let there = terminal_in i.turns.items i.texts.items i.terminals.items c.args.self.now c.args.terminal t c.self.view_is c.index-sent_to.ensures c.requires.terminal in
    let many = tells i.turns.items i.texts.items i.terminals.items c.args.self.now c.args.terminal t (λ (x : Sending). IsPenTo x c.args.pen.now) c.self.view_is there c.requires.pen in
    let size : length new.sources.items ≡ length t.sources.items = ap (λ (rs : List (List PacketKey)). length rs) c.restart.ensures.sources ∙ (length-map old anew ∙ many.each) in
    let first : t.settings.seq < 65536 = omega arith in
    of_terminal i.turns.items i.texts.items i.terminals.items c.args.self.now c.args.terminal t (λ (x : Sending). IsPenOf x 0 new) c.self.view_is there
    (pen_fresh (sending_of i.turns.items i.texts.items t) new first c.restart.ensures.seq size (subst (λ (rs : List (List PacketKey)). All (λ r. r ≡ fresh) rs) (sym c.restart.ensures.sources) (all_anew old)))

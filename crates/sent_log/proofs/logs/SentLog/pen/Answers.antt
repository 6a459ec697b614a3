use Rattle.std.proofs.Common.{◌≡◌, ◌<◌, ℕ, Result, Ok, Err, length, vec_len, arith}
use Rattle.std.specs.Prelude.{All, IfOk}
use Rattle.rtt_base.specs.declared.errors.NoMemory.{NoMemory}
use Rattle.sent_log.specs.declared.pens.Pen.{Pen}
use Rattle.sent_log.specs.Insides.{sending_of}
use Rattle.sent_log.specs.Pens.{IsPenOf}
use Rattle.sent_log.specs.Repeats.{fresh}
use Rattle.sent_log.specs.States.{OfTerminal, Sending, State}
use Rattle.sent_log.proofs.Penning.{pen_fresh}
use Rattle.sent_log.proofs.Rendering.{of_terminal, terminal_in}
use Rattle.sent_log.proofs.logs.SentLog.pen.Goals as goal

new_pen : (x : Sending) (sources : ℕ) (log : State) (terminal : ℕ) (r : Result Pen NoMemory) → x.settings.seq < 65536 → sources ≡ length x.sources
    → ((P : Sending → Type 0) → P x → OfTerminal log terminal P)
    → IfOk r (λ pen. pen.seq ≡ x.settings.seq) → IfOk r (λ pen. vec_len pen.sources ≡ sources) → IfOk r (λ pen. All (λ q. q ≡ fresh) pen.sources.items) → IfOk r (λ pen. OfTerminal log terminal (λ y. IsPenOf y 0 pen))
new_pen x sources log terminal (Ok pen) l n at s c a = at (λ (y : Sending). IsPenOf y 0 pen) (pen_fresh x pen l s (omega (arith, n, c, pen.sources.ok.0)) a)
new_pen x sources log terminal (Err e) l n at s c a = tt

pub returns : goal.returns
returns c =
    let i = c.self.inside in
    let t = c.index-sent_to.result.now in
    let there = terminal_in i.turns.items i.texts.items i.terminals.items c.args.self.now c.args.terminal t c.self.view_is c.index-sent_to.ensures c.requires in
    let first : t.settings.seq < 65536 = omega arith in
    let many : c.len.result ≡ length t.sources.items = omega (arith, c.len.ensures, t.sources.ok.0) in
    new_pen (sending_of i.turns.items i.texts.items t) c.len.result c.args.self.now c.args.terminal c.new.result first many
    (λ P p. of_terminal i.turns.items i.texts.items i.terminals.items c.args.self.now c.args.terminal t P c.self.view_is there p)
    c.new.ensures.seq c.new.ensures.count c.new.ensures.fresh

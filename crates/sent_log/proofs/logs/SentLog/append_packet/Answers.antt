use Rattle.std.proofs.Common.{◌≡◌, ◌+◌, ◌<◌, ◌%◌, ◌^◌, ℕ, List, Some, length, get_or, refl, ap, subst, sym, ◌∙◌, arith}
use Rattle.std.specs.Prelude.{max, not, slice_get}
use Rattle.std.proofs.lemmas.List.{get_or_read}
use Rattle.std.proofs.lemmas.Option.{slice_get_read}
use Rattle.sent_log.specs.declared.logs.SentLog.TheInside.{Inside}
use Rattle.sent_log.specs.declared.pens.Pen.{Pen}
use Rattle.sent_log.specs.declared.repeats.PacketKey.{PacketKey}
use Rattle.sent_log.specs.declared.terminals.LoggedPacket.{LoggedPacket}
use Rattle.sent_log.specs.declared.terminals.TerminalLog.{TerminalLog}
use Rattle.sent_log.specs.declared.turns.Turn.{Turn}
use Rattle.sent_log.specs.Insides.{sending_of, state_of}
use Rattle.sent_log.specs.Pens.{IsPacket, IsPenOf}
use Rattle.sent_log.specs.Repeats.{last_kept}
use Rattle.sent_log.specs.Writing.{HasText, HasTexts, have_text, head_in, packet_in}
use Rattle.sent_log.specs.States.{OfTerminal, Sending, State}
use Rattle.sent_log.proofs.Penning.{all_short, below_count, has_text, has_texts, packet_made, pen_more}
use Rattle.sent_log.proofs.Rendering.{Reads, number_within, of_terminal, reads, tells}
use Rattle.sent_log.proofs.logs.SentLog.append_packet.Goals as goal

-- what the pen knows of the terminal that was read
pen_of : (i : Inside) (log : State) (terminal : ℕ) (t : TerminalLog) (number : ℕ) (e : LoggedPacket) (p : Pen) → state_of i ≡ log → Reads i terminal t number e → OfTerminal log terminal (λ x. IsPenOf x number p)
    → IsPenOf (sending_of i.turns.items i.texts.items t) number p
pen_of i log terminal t number e p v r o = tells i.turns.items i.texts.items i.terminals.items log terminal t (λ (x : Sending). IsPenOf x number p) v r.there o

source_within : (i : Inside) (terminal : ℕ) (t : TerminalLog) (number : ℕ) (e : LoggedPacket) (p : Pen) → Reads i terminal t number e → IsPenOf (sending_of i.turns.items i.texts.items t) number p → e.source < length p.sources.items
source_within i terminal t number e p r k = omega (arith, r.entry.source, k.each)

source_read : (i : Inside) (terminal : ℕ) (t : TerminalLog) (number : ℕ) (e : LoggedPacket) (p : Pen) (s : List PacketKey) → Reads i terminal t number e → IsPenOf (sending_of i.turns.items i.texts.items t) number p → s ≡ get_or p.sources.items e.source s
    → slice_get p.sources.items e.source ≡ Some s
source_read i terminal t number e p s r k q = slice_get_read p.sources.items (length p.sources.items) e.source s refl (source_within i terminal t number e p r k) q

pub index-entry-requires : goal.index-entry-requires
index-entry-requires g c =
    let i = c.self.inside in
    let t = c.index-sent_to.result.now in
    let n = number_within i _ c.args.terminal t c.args.number c.self.view_is c.index-sent_to.ensures c.requires.terminal c.requires.number in
    omega (arith, n, t.entries.ok.0)

pub index-turn-requires : goal.index-turn-requires
index-turn-requires g c =
    let i = c.self.inside in
    let r = reads i _ c.args.terminal c.index-sent_to.result.now c.args.number c.index-entry.result.now c.self.view_is c.self.invariant c.index-sent_to.ensures c.index-entry.ensures c.requires.terminal c.requires.number in
    omega (arith, r.entry.turn, i.turns.ok.0)

pub index-repeats-requires : goal.index-repeats-requires
index-repeats-requires g c =
    let i = c.self.inside in
    let t = c.index-sent_to.result.now in
    let e = c.index-entry.result.now in
    let p = c.args.pen.now in
    let r = reads i _ c.args.terminal t c.args.number e c.self.view_is c.self.invariant c.index-sent_to.ensures c.index-entry.ensures c.requires.terminal c.requires.number in
    let l = source_within i c.args.terminal t c.args.number e p r (pen_of i _ c.args.terminal t c.args.number e p c.self.view_is r c.requires.pen) in
    omega (arith, l, p.sources.ok.0)

pub append_packet-requires-clause-settings : goal.append_packet-requires-clause-settings
append_packet-requires-clause-settings g c =
    (reads c.self.inside _ c.args.terminal c.index-sent_to.result.now c.args.number c.index-entry.result.now c.self.view_is c.self.invariant c.index-sent_to.ensures c.index-entry.ensures c.requires.terminal c.requires.number).stands.settings

pub append_packet-requires-clause-short : goal.append_packet-requires-clause-short
append_packet-requires-clause-short g c =
    let i = c.self.inside in
    let t = c.index-sent_to.result.now in
    let r = reads i _ c.args.terminal t c.args.number c.index-entry.result.now c.self.view_is c.self.invariant c.index-sent_to.ensures c.index-entry.ensures c.requires.terminal c.requires.number in
    all_short i.turns.items i.texts.items t r.stands

pub append_packet-requires-clause-texts : goal.append_packet-requires-clause-texts
append_packet-requires-clause-texts g c =
    let i = c.self.inside in
    let t = c.index-sent_to.result.now in
    let r = reads i _ c.args.terminal t c.args.number c.index-entry.result.now c.self.view_is c.self.invariant c.index-sent_to.ensures c.index-entry.ensures c.requires.terminal c.requires.number in
    subst (λ (xs : List (List ℕ)). HasTexts xs t) (sym c.deref.ensures.value) (has_texts i.turns.items i.texts.items t r.stands)

pub append_packet-requires-clause-text : goal.append_packet-requires-clause-text
append_packet-requires-clause-text g c =
    let i = c.self.inside in
    let t = c.index-sent_to.result.now in
    let e = c.index-entry.result.now in
    let r = reads i _ c.args.terminal t c.args.number e c.self.view_is c.self.invariant c.index-sent_to.ensures c.index-entry.ensures c.requires.terminal c.requires.number in
    subst (λ (xs : List (List ℕ)). HasText xs t e) (sym c.deref.ensures.value) (has_text i.turns.items i.texts.items t e r.entry)

pub append_packet-requires-clause-below : goal.append_packet-requires-clause-below
append_packet-requires-clause-below g c =
    let i = c.self.inside in
    let t = c.index-sent_to.result.now in
    let e = c.index-entry.result.now in
    let p = c.args.pen.now in
    let s = c.index-repeats.result.now in
    let r = reads i _ c.args.terminal t c.args.number e c.self.view_is c.self.invariant c.index-sent_to.ensures c.index-entry.ensures c.requires.terminal c.requires.number in
    let k = pen_of i _ c.args.terminal t c.args.number e p c.self.view_is r c.requires.pen in
    below_count i.turns.items i.texts.items t c.args.number e.source s (k.last e.source s (source_read i c.args.terminal t c.args.number e p s r k c.index-repeats.ensures))

pub keep-requires : goal.keep-requires
keep-requires g c =
    let i = c.self.inside in
    let t = c.index-sent_to.result.now in
    let e = c.index-entry.result.now in
    let p = c.args.pen.now in
    let r = reads i _ c.args.terminal t c.args.number e c.self.view_is c.self.invariant c.index-sent_to.ensures c.index-entry.ensures c.requires.terminal c.requires.number in
    source_within i c.args.terminal t c.args.number e p r (pen_of i _ c.args.terminal t c.args.number e p c.self.view_is r c.requires.pen)

pub returns-clause-made : goal.returns-clause-made
returns-clause-made g c =
    let i = c.self.inside in
    let t = c.index-sent_to.result.now in
    let e = c.index-entry.result.now in
    let p = c.args.pen.now in
    let s = c.index-repeats.result.now in
    let r = reads i _ c.args.terminal t c.args.number e c.self.view_is c.self.invariant c.index-sent_to.ensures c.index-entry.ensures c.requires.terminal c.requires.number in
    let k = pen_of i _ c.args.terminal t c.args.number e p c.self.view_is r c.requires.pen in
    let turn = get_or_read i.turns.items e.turn c.index-turn.result.now r.entry.turn c.index-turn.ensures (record { now = 0; media = 0 }) in
    let octets_in = λ (xs : List (List ℕ)). packet_in xs t (last_kept t.settings.generations s) e (head_in t (not (have_text xs t (last_kept (max 1 t.settings.generations) s))) p.seq c.timestamp_at-timestamp.result e.source) in
    let octets = octets_in c.deref.result.now in
    record {
      octets = octets;
      behind = c.append_packet.ensures.packet;
      is =
          of_terminal i.turns.items i.texts.items i.terminals.items c.args.self.now c.args.terminal t (λ (x : Sending). IsPacket x c.args.number octets c.index-turn.result.now.now) c.self.view_is r.there
          (packet_made i.turns.items i.texts.items t c.args.number e p s octets c.index-turn.result.now.now p.seq c.timestamp_at-timestamp.result r.stands r.read k (source_read i c.args.terminal t c.args.number e p s r k c.index-repeats.ensures) refl
          (c.timestamp_at-timestamp.ensures ∙ ap (λ (u : Turn). (t.settings.timestamp + u.media) % 2 ^ 32) turn) (ap (λ (u : Turn). u.now) turn)
          (ap octets_in c.deref.ensures.value));
    }

pub returns-clause-pen : goal.returns-clause-pen
returns-clause-pen g c =
    let i = c.self.inside in
    let t = c.index-sent_to.result.now in
    let e = c.index-entry.result.now in
    let p = c.args.pen.now in
    let r = reads i _ c.args.terminal t c.args.number e c.self.view_is c.self.invariant c.index-sent_to.ensures c.index-entry.ensures c.requires.terminal c.requires.number in
    let k = pen_of i _ c.args.terminal t c.args.number e p c.self.view_is r c.requires.pen in
    let turn = get_or_read i.turns.items e.turn c.index-turn.result.now r.entry.turn c.index-turn.ensures (record { now = 0; media = 0 }) in
    of_terminal i.turns.items i.texts.items i.terminals.items c.args.self.now c.args.terminal t (λ (x : Sending). IsPenOf x (c.args.number + 1) c.keep.new.self) c.self.view_is r.there
    (pen_more i.turns.items i.texts.items t c.args.number e p c.keep.new.self c.timestamp_at-timestamp.result r.stands r.read r.entry k
    (c.timestamp_at-timestamp.ensures ∙ ap (λ (u : Turn). (t.settings.timestamp + u.media) % 2 ^ 32) turn) c.keep.ensures.seq c.keep.ensures.sources)

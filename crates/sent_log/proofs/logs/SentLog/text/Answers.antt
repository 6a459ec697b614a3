use Rattle.std.proofs.Common.{◌≡◌, ◌+◌, List, ℕ, length, ap, ◌∙◌, arith}
use Rattle.std.proofs.lemmas.List.{get_or_read}
use Rattle.sent_log.specs.Lists.{list_at, octets_at}
use Rattle.sent_log.specs.States.{Sending, TellsText}
use Rattle.sent_log.proofs.Rendering.{list_read, number_within, of_terminal, reads, text_told}
use Rattle.sent_log.proofs.logs.SentLog.text.Goals as goal

pub index-entry-requires : goal.index-entry-requires
index-entry-requires c =
    let i = c.self.inside in
    let t = c.index-sent_to.result.now in
    let n = number_within i _ c.args.terminal t c.args.number c.self.view_is c.index-sent_to.ensures c.requires.terminal c.requires.number in
    omega (arith, n, t.entries.ok.0)

pub index-list-requires : goal.index-list-requires
index-list-requires c =
    let i = c.self.inside in
    let r = reads i _ c.args.terminal c.index-sent_to.result.now c.args.number c.index-entry.result.now c.self.view_is c.self.invariant c.index-sent_to.ensures c.index-entry.ensures c.requires.terminal c.requires.number in
    omega (arith, r.entry.source, r.stands.lists, i.texts.ok.0)

pub index-ssrc-requires : goal.index-ssrc-requires
index-ssrc-requires c =
    let i = c.self.inside in
    let r = reads i _ c.args.terminal c.index-sent_to.result.now c.args.number c.index-entry.result.now c.self.view_is c.self.invariant c.index-sent_to.ensures c.index-entry.ensures c.requires.terminal c.requires.number in
    omega (arith, r.entry.source, c.index-sent_to.result.now.sources.ok.0)

pub text-text-requires : goal.text-text-requires
text-text-requires c =
    let i = c.self.inside in
    let r = reads i _ c.args.terminal c.index-sent_to.result.now c.args.number c.index-entry.result.now c.self.view_is c.self.invariant c.index-sent_to.ensures c.index-entry.ensures c.requires.terminal c.requires.number in
    omega (arith, r.entry.within, ap length (list_read i c.args.terminal _ c.args.number _ c.index-list.result.now r c.index-list.ensures))

pub returns : goal.returns
returns c =
    let i = c.self.inside in
    let r = reads i _ c.args.terminal c.index-sent_to.result.now c.args.number c.index-entry.result.now c.self.view_is c.self.invariant c.index-sent_to.ensures c.index-entry.ensures c.requires.terminal c.requires.number in
    let t = c.index-sent_to.result.now in
    let e = c.index-entry.result.now in
    let list = list_read i c.args.terminal t c.args.number e c.index-list.result.now r c.index-list.ensures in
    let text : c.text-text.result.now ≡ octets_at (list_at i.texts.items (t.first + e.source)) e.place e.len = c.text-text.ensures ∙ ap (λ (xs : List ℕ). octets_at xs e.place e.len) list in
    let ssrc = get_or_read t.sources.items e.source c.index-ssrc.result.now r.entry.source c.index-ssrc.ensures 0 in
    of_terminal i.turns.items i.texts.items i.terminals.items c.args.self.now c.args.terminal t (λ (x : Sending). TellsText x c.args.number c.index-ssrc.result.now c.text-text.result.now) c.self.view_is r.there
    (text_told i.turns.items i.texts.items t c.args.number e c.index-ssrc.result.now c.text-text.result.now r.read ssrc text)

use Rattle.std.proofs.Common.{sym, ◌∙◌}
use Rattle.live_leg.proofs.Knowing.{meets_foreign, meets_other, meets_sender}
use Rattle.live_leg.proofs.senders.Senders.meet_text.Goals as goal

pub returns-then-is_sender : goal.returns-then-is_sender
returns-then-is_sender c =
    meets_sender c.args.self.now c.note.new.self c.args.now c.args.ssrc (sym c.is_sender.ensures ∙ c.if-is_sender.true) c.note.ensures

pub returns-then-takes_over : goal.returns-then-takes_over
returns-then-takes_over c =
    meets_other c.args.self.now c.take_over.new.self c.args.now c.args.ssrc c.take_over.result
    (sym c.is_sender.ensures ∙ c.if-is_sender.false) (sym c.takes_over.ensures ∙ c.if-takes_over.true) c.take_over.ensures

pub returns : goal.returns
returns c =
    meets_foreign c.args.self.now c.args.now c.args.ssrc (sym c.is_sender.ensures ∙ c.if-is_sender.false) (sym c.takes_over.ensures ∙ c.if-takes_over.false)

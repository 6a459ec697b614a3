use Rattle.std.proofs.Common.{[], ◌∷◌}
use Rattle.recording_views.proofs.Hearing.{text_is}
use Rattle.rtt_top.proofs.views.text_of.Goals as goal

pub append_view-requires-clause-finished : goal.append_view-requires-clause-finished
append_view-requires-clause-finished c = λ whole. let h = c.requires in (h.0, h.1 ∷ [], h.2, h.3)

pub append_view-requires-clause-fits : goal.append_view-requires-clause-fits
append_view-requires-clause-fits c = λ whole. c.requires.3.each

pub returns : goal.returns
returns c = λ r octets h. text_is r octets c.args.terminal.now c.new-text.result c.append_view.new.out c.new-text.ensures c.in_ok-append_view.ensures.seen h

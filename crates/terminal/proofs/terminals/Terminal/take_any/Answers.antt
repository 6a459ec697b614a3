use Rattle.std.proofs.Common.{refl}
use Rattle.terminal.proofs.Listening.{on_ok5, took, refused, told_text}
use Rattle.terminal.proofs.terminals.Terminal.take_any.Goals as goal

pub gather-requires-clause-stands : goal.gather-requires-clause-stands
gather-requires-clause-stands c =
    let r = c.requires.stands in
    (r.0, r.1, _, told_text c.args.self.now _ c.args.at c.args.octets.now r.0 r.1 r.3.story c.hear.ensures.becomes refl refl r.3.hears)

pub returns-in-Ok-clause-listens : goal.returns-in-Ok-clause-listens
returns-in-Ok-clause-listens c = on_ok5 c.gather.result c.gather.ensures.gathers c.gather.ensures.same c.gather.ensures.quiet c.gather.ensures.arrivals c.gather.ensures.finished (λ g same quiet arrivals finished q sources came li.
    took c.args.self.now _ c.gather.new.self c.args.at c.args.octets.now c.in-Ok.ensures.ok.0 c.hear.ensures.becomes c.in-Ok.ensures.ok.1 refl refl c.hear.ensures.finished c.hear.ensures.arrivals refl g same quiet arrivals finished c.gather.ensures.spent q sources came li)

pub returns-in-Err-clause-listens : goal.returns-in-Err-clause-listens
returns-in-Err-clause-listens c = λ q sources came li.
    refused c.args.self.now (record c.args.self.now { ear = c.hear.new.self }) c.count_refused.new.self c.args.at c.args.octets.now c.in-Err.fault c.hear.ensures.becomes c.in-Err.ensures.err c.count_refused.ensures.ear c.count_refused.ensures.heard c.count_refused.ensures.used
    c.count_refused.ensures.packets c.count_refused.ensures.refused c.count_refused.ensures.foreign c.count_refused.ensures.spent c.in-Err.ensures.quiet c.hear.ensures.finished c.hear.ensures.arrivals q sources came li

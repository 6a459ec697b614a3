use Rattle.std.proofs.Common.{refl}
use Rattle.terminal.proofs.Listening.{on_ok2, ended_text, finished}
use Rattle.terminal.proofs.terminals.Terminal.end.Goals as goal

pub gather-requires-clause-stands : goal.gather-requires-clause-stands
gather-requires-clause-stands c =
    let r = c.requires.stands in
    (r.0, r.1, _, ended_text c.args.self.now _ r.0 r.1 r.3.story c.finish.ensures.becomes refl refl r.3.hears)

pub returns-clause-heard : goal.returns-clause-heard
returns-clause-heard c =
    on_ok2 c.gather.result c.gather.ensures.gathers c.gather.ensures.same
    (λ g same q sources came li. finished c.args.self.now _ c.gather.new.self c.finish.ensures.becomes c.finish.ensures.all refl refl refl g same c.gather.ensures.spent q sources came li)

use Rattle.std.proofs.Common.{◌≡◌, ◌++◌, ap, sym, subst, List, ℕ}
use Rattle.std.proofs.lemmas.Result.{on_ok_weaker}
use Rattle.packetizer.specs.SenderStates.{State}
use Rattle.packetizer.specs.SenderStanding.{SenderStandsFor}
use Rattle.packetizer.proofs.Sending.{more_typed}
use Rattle.packetizer.proofs.senders.Sender.typed.Goals as goal

pub returns-clause-ok : goal.returns-clause-ok
returns-clause-ok c =
    on_ok_weaker c.append.result
    (λ (e : c.append.new.self ≡ c.self.inside.waiting ++ c.args.text.now). λ settings past s.
    more_typed settings past _ _ c.args.text.now c.requires (subst (λ (st : State). SenderStandsFor settings st past) (sym c.self.view_is) s) (ap (λ (w : List ℕ). let x : State = record { settings = c.self.inside.settings; waits = w; output = c.self.inside.output; last = c.self.inside.last } in x) e))
    c.append.ensures.ok

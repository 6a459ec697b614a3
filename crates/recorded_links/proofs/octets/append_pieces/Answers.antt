use Rattle.recorded_links.proofs.Pieces.{joined, head_is}
use Rattle.recorded_links.proofs.octets.append_pieces.Goals as goal

pub returns-clause-ok : goal.returns-clause-ok
returns-clause-ok c =
    joined c.append-3.result _ _
    (λ e. head_is c.args.t c.args.out.now c.append.new.self c.append-2.new.self c.append-3.new.self c.clock_octets.result c.in_ok-append.ensures.ok c.in_ok-append-2.ensures.ok c.clock_octets.ensures e)
    c.append-3.ensures.ok

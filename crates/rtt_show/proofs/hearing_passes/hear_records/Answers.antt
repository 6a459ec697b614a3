use Rattle.std.proofs.Common.{ℕ, List, ◌∷◌, [], ◌++◌, subst}
use Rattle.wire_spec.specs.Dump.{Item, sent_item}
use Rattle.terminal.specs.Terminals.{counts_of, Listens}
use Rattle.rtpdump_io.proofs.Fronts.{front_all}
use Rattle.rtt_show.proofs.Steps.{step_of}
use Rattle.rtt_show.proofs.hearing_passes.hear_records.Goals as goal

pub loop-moment-preserved : goal.loop-moment-preserved
loop-moment-preserved c =
    let i = c.loop-moment.invariant in
    let s = step_of c.loop-moment.rest.now c.in-Some.moment c.in-Some.packet.now c.in-Some.more.now c.in-Some.ensures.record c.in-Some.ensures.shorter in
    record {
      left = s.less (counts_of c.loop-moment.terminal).packets (counts_of c.arrive.new.self).packets c.arrive.ensures.packets i.left;
      hears_on = c.arrive.ensures.open;
      heard = λ q sources li all a.
          s.more (Listens c.loop-moment.terminal q sources) (Listens c.arrive.new.self q sources)
          (subst (λ (m : ℕ). (came : List Item) → Listens c.loop-moment.terminal q sources came → Listens c.arrive.new.self q sources (came ++ sent_item (m, c.in-Some.packet.now) ∷ [])) c.from.ensures (c.in_ok-arrive.ensures.listens q sources))
          all (i.heard q sources li all a);
    }

pub returns-clause-listens : goal.returns-clause-listens
returns-clause-listens c = λ q sources li all a.
    front_all (Listens c.loop-moment.terminal q sources) c.loop-moment.rest.now all c.in_default.ensures.record (c.loop-moment.invariant.heard q sources li all a)

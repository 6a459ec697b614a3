use Rattle.std.proofs.Common.{arith}
use Rattle.rtt_show.proofs.Grouping.{on_ok}
use Rattle.rtt_show.proofs.surveys.Survey.take.Goals as goal

pub returns-in-Ok-clause-few : goal.returns-in-Ok-clause-few
returns-in-Ok-clause-few c =
    on_ok c.name.result (λ e n i. record {
      others = omega (arith, c.name.ensures.others, i.others);
      refused = λ k d l. omega (arith, i.refused k d l);
      narrow = c.take-number.ensures.narrow n i.narrow;
    })
    c.name.ensures.named

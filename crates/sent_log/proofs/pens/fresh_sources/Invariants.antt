use Rattle.std.proofs.Common.{◌≡◌, vec_len}
use Rattle.std.specs.Prelude.{All}
use Rattle.sent_log.specs.Repeats.{fresh}
use Rattle.sent_log.proofs.pens.fresh_sources.Given as goal

abbrev pub invariant-loop-source : goal.invariant-loop-source
invariant-loop-source l = record {
  count : vec_len l.sources ≡ l._source;
  fresh : All (λ r. r ≡ fresh) l.sources.items;
}

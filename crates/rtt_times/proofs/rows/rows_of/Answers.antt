use Rattle.std.proofs.Common.{List, arith, ◌+◌, subst, sym, take}
use Rattle.rtt_show.specs.declared.groups.Group.{Group}
use Rattle.rtt_show.specs.declared.rows.Row.{Row}
use Rattle.rtt_show.specs.Records.{OfRecords}
use Rattle.rtt_show.specs.Rows.{IsRow}
use Rattle.std.proofs.Common.{ℕ}
use Rattle.rtt_times.specs.Rows.{AreRows}
use Rattle.rtt_times.proofs.Rowing.{rows_end, rows_more}
use Rattle.rtt_times.proofs.rows.rows_of.Goals as goal

pub loop-index-preserved : goal.loop-index-preserved
loop-index-preserved c =
    let stream = c.index-streams-index.result in
    let row = c.in-Some.row in
    subst (λ (rows : List Row). AreRows (take (c.loop-index.index + 1) c.args.streams.now) rows) (sym c.in_ok-push.ensures.items)
    (rows_more c.args.streams.now c.loop-index.index stream c.loop-index.rows.items row (omega arith) c.index-streams-index.is c.loop-index.invariant
    (subst (λ (g : Group). OfRecords g.records (IsRow row)) (sym c.index-streams-index.is) (subst (λ (octets : List ℕ). OfRecords octets (IsRow row)) c.as_slice.ensures c.in-Some.ensures)))

pub returns : goal.returns
returns c = rows_end c.args.streams.now c.loop-index.index c.loop-index.rows.items (omega arith) c.loop-index.invariant

use Rattle.std.proofs.Common.{arith, get_or, subst, sym}
use Rattle.rtt_show.specs.declared.groups.Group.{Group}
use Rattle.rtt_show.specs.declared.rows.Row.{Row}
use Rattle.rtt_show.specs.Rows.{IsRow}
use Rattle.rtt_show.specs.Records.{OfRecords}
use Rattle.rtt_times.proofs.Rowing.{row_at, rows_added, rows_all, rows_each}
use Rattle.rtt_times.proofs.rows.add_rows.Goals as goal

pub add_row-requires-clause-row : goal.add_row-requires-clause-row
add_row-requires-clause-row c =
    let none : Row = record { source = 0; first = 0; packets = 0; from = 0; to = 0 } in
    let stream = c.index-streams-index.result in
    let row = get_or c.args.rows.now c.loop-index.index none in
    subst (λ (g : Group). OfRecords g.records (IsRow row)) (sym c.index-streams-index.is) (row_at c.args.streams.now c.args.rows.now c.loop-index.index stream none c.requires.rows (omega arith))

pub bounds-rows-index : goal.bounds-rows-index
bounds-rows-index c = let each = rows_each c.args.streams.now c.args.rows.now c.requires.rows in omega (arith, each)

pub loop-index-preserved : goal.loop-index-preserved
loop-index-preserved c =
    rows_added c.args.payload_types c.args.streams.now c.loop-index.index c.index-streams-index.result c.args.lines.now c.loop-index.lines c.add_row.new.lines (omega arith) c.index-streams-index.is (c.in_ok-add_row.ensures c.if-not-branch.false) c.loop-index.invariant

pub returns : goal.returns
returns c = λ whole. rows_all c.args.payload_types c.args.streams.now c.loop-index.index c.args.lines.now c.loop-index.lines (omega arith) c.loop-index.invariant

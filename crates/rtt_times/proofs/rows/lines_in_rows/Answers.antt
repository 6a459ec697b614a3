use Rattle.std.proofs.Common.{List, subst, sym}
use Rattle.std.specs.Prelude.{All}
use Rattle.std.specs.Global.{Vec}
use Rattle.rtt_show.specs.declared.groups.Group.{Group}
use Rattle.rtt_show.specs.declared.rows.Row.{Row}
use Rattle.rtt_times.specs.Found.{IsStream}
use Rattle.rtt_times.specs.Rows.{AddsRows, AreRows}
use Rattle.rtt_times.proofs.Telling.{are_streams}
use Rattle.rtt_times.proofs.Rowing.{rows_told, some_is}
use Rattle.rtt_times.proofs.rows.lines_in_rows.Goals as goal

pub rows_of-requires : goal.rows_of-requires
rows_of-requires c = subst (All IsStream) (sym c.as_slice-streams.ensures.value) (are_streams c.args.found.now c.requires)

pub add_rows-requires-clause-streams : goal.add_rows-requires-clause-streams
add_rows-requires-clause-streams c = subst (All IsStream) (sym c.as_slice-streams.ensures.value) (are_streams c.args.found.now c.requires)

pub add_rows-requires-clause-rows : goal.add_rows-requires-clause-rows
add_rows-requires-clause-rows c = subst (λ (rows : List Row). AreRows c.as_slice-streams.result.now rows) (sym c.as_slice.ensures.value) (some_is (λ (rows : Vec Row). AreRows c.as_slice-streams.result.now rows.items) _ c.in-Some.rows c.in-Some.is c.in_ok-rows.ensures)

pub returns : goal.returns
returns c =
    let found = c.args.found.now in
    rows_told found c.new-lines.result c.add_rows.new.lines c.sort.new.self c.new-lines.ensures
    (subst (λ (gs : List Group). AddsRows found.payload_types gs c.new-lines.result c.add_rows.new.lines) c.as_slice-streams.ensures.value (c.in_ok-add_rows.ensures c.if-not-branch.false))
    c.in_ok-sort.ensures

use Rattle.std.proofs.Common.{refl}
use Rattle.rtt_show.proofs.Rowing.{row_none}
use Rattle.rtt_show.proofs.rows.Row.none.Goals as goal

pub returns-clause-nothing : goal.returns-clause-nothing
returns-clause-nothing c = row_none _ refl refl refl

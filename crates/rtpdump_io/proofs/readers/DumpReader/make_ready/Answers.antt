use Rattle.rtpdump_io.proofs.Recordings.{opening_broken, opening_done}
use Rattle.rtpdump_io.proofs.Entries.{entries_broken, entries_done}
use Rattle.rtpdump_io.proofs.readers.DumpReader.make_ready.Goals as goal

pub returns-in-Err-clause-came : goal.returns-in-Err-clause-came
returns-in-Err-clause-came g c = λ t. opening_broken _ _ _ _ _ _ _ c.in-Opening.is (c.in_ok-kind-in-Opening.ensures.opened t) c.in-Err.is

pub returns-in_default-clause-came : goal.returns-in_default-clause-came
returns-in_default-clause-came g c = λ t. opening_done _ _ _ _ _ _ _ _ c.in-Opening.is (c.in_ok-kind-in-Opening.ensures.opened t) c.in_default.is c.open.ensures.same_limit

pub returns-in-Err-clause-entries : goal.returns-in-Err-clause-entries
returns-in-Err-clause-entries g c = λ t. entries_broken _ _ _ _ _ _ _ c.in-Opening.is (c.in_ok-kind-in-Opening.ensures.opened t) c.in-Err.is

pub returns-in_default-clause-entries : goal.returns-in_default-clause-entries
returns-in_default-clause-entries g c = λ t. entries_done _ _ _ _ _ _ _ _ c.in-Opening.is (c.in_ok-kind-in-Opening.ensures.opened t) c.in_default.is c.open.ensures.same_limit

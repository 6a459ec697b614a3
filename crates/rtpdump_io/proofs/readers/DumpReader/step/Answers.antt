use Rattle.std.proofs.Common.{◌∙◌, refl}
use Rattle.rtpdump_io.proofs.Recordings.{came_of, at_records}
use Rattle.rtpdump_io.proofs.Entries.{entries_of, entries_at_records}
use Rattle.rtpdump_io.proofs.readers.DumpReader.step.Goals as goal

pub returns-clause-came : goal.returns-clause-came
returns-clause-came g c = λ t.
    let ready = rw c.in_default.is at c.in_ok-kind.ensures.ready in
    let before = rw c.in_default.is at (c.in_ok-kind.ensures.came t) in
    came_of _ _ _ _ _ _ c.record.result (c.record.ensures.found t) (before ∙ at_records _ _ _ _ _ ready refl) (at_records _ _ _ _ _ (c.record.ensures.same_stage ∙ ready) c.record.ensures.same_limit)

pub returns-clause-entries : goal.returns-clause-entries
returns-clause-entries g c = λ t wanted.
    let ready = rw c.in_default.is at c.in_ok-kind.ensures.ready in
    let before = rw c.in_default.is at (c.in_ok-kind.ensures.entries t) in
    entries_of _ _ _ _ _ _ _ c.record.result wanted (c.record.ensures.found t) (c.record.ensures.rtcp t) (before ∙ entries_at_records _ _ _ _ _ ready refl) (entries_at_records _ _ _ _ _ (c.record.ensures.same_stage ∙ ready) c.record.ensures.same_limit)

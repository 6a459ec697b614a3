use Rattle.std.proofs.Common.{ap}
use Rattle.rtpdump_io.proofs.Whole.{found_whole, all_whole}
use Rattle.rtpdump_io.proofs.readers.DumpReader.record.Goals as goal

pub returns-clause-found : goal.returns-clause-found
returns-clause-found g c = λ t.
    let taken = c.take_body.ensures in
    found_whole _ _ _ _ c.in-Some.head c.in-Some.ensures _ _ _ _ c.from.ensures c.from-2.ensures taken.held (ap g.S.Source.left taken.source) _ taken.body

pub returns-clause-all : goal.returns-clause-all
returns-clause-all g c = λ t.
    let taken = c.take_body.ensures in
    all_whole _ _ _ _ c.in-Some.head c.in-Some.ensures _ _ _ _ c.from.ensures c.from-2.ensures taken.held (ap g.S.Source.left taken.source)

use Rattle.std.proofs.Common.{refl}
use Rattle.recorded_links.specs.Shelves.{taken}
use Rattle.recorded_links.proofs.Taking.{has_same}
use Rattle.recorded_links.proofs.tracks.Track.write.Goals as goal

pub returns-clause-taken : goal.returns-clause-taken
returns-clause-taken g c = λ tells has.
    let mid = c.take_in.new.self in
    has_same g.J.File.Sink (g.J.Journals.contents c.take_in.new.journals) (g.J.Journals.contents c.flush-ended.new.journals) mid.recorder c.flush-ended.new.self (taken mid.pass) (taken mid.pass)
    c.flush-ended.ensures.named.1 refl (c.flush-ended.ensures.stays tells) (c.take_in.ensures.taken tells has)

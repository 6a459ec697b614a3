use Rattle.std.proofs.Common.{refl}
use Rattle.reorder_buffer.specs.Stories.{ended}
use Rattle.cascade.proofs.Gathering.{ends, hears_told}
use Rattle.cascade.proofs.dividers.Demux.end.Goals as goal
use Rattle.wire_spec.proofs.Plain.{on_ok}

pub gather-requires : goal.gather-requires
gather-requires c =
    let r = c.requires.listens in
    let story = r.3.story in
    record { hears = (r.0, r.1, ended story, hears_told c.args.self.now c.finish.new.self r.0 r.1 story (ended story) refl refl r.3.hears.short (c.finish.ensures.stands story) r.3.hears) }

pub returns : goal.returns
returns c = record { ends = on_ok c.gather.result c.gather.ensures.gathers (λ g. ends c.args.self.now c.gather.new.self c.finish.new.self c.finish.ensures.stands c.finish.ensures.all g) }

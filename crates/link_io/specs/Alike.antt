-- What an inbound end of a link, or what links are opened in, tells of itself is as it was.
use Rattle.std.specs.Prelude.{◌≡◌}
use Rattle.link_io.specs.declared.ends.LinkIn as ins
use Rattle.link_io.specs.declared.links.Links as links
use Rattle.link_io.specs.Ports.{Same}

-- what an inbound end gave, its port, its faults, whether it is closed, and the last moment that it told
abbrev pub SameIn : {I : Type 0} → ins.Ghosts I → I → I → Type 0
SameIn g old new =
    (g.taken new ≡ g.taken old) × (g.port new ≡ g.port old) × (g.faults new ≡ g.faults old) × (g.closed new ≡ g.closed old) × (g.moment new ≡ g.moment old)

-- where a link was opened and to whom, what is stored, the faults of each port, the clock and how often it was paused
abbrev pub SameLinks : {W I O C : Type 0} → links.Ghosts W I O C → W → W → Type 0
SameLinks g old new =
    Same g.opened old new × (g.leads new ≡ g.leads old) × Same g.taken_at old new × Same g.given_at old new × Same g.own_faults old new × Same g.object_faults old new × (g.moment new ≡ g.moment old) × (g.pauses new ≡ g.pauses old)

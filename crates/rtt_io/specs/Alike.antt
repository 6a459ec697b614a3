-- What a source and what a sink tell of themselves is as it was.
use Rattle.std.specs.Prelude.{◌≡◌}
use Rattle.rtt_io.specs.declared.sources.Source as sources
use Rattle.rtt_io.specs.declared.sinks.Sink as sinks

-- what is left of a source, its name and its faults
abbrev pub SameSource : {S : Type 0} → sources.Ghosts S → S → S → Type 0
SameSource g old new = (g.left new ≡ g.left old) × (g.name new ≡ g.name old) × (g.faults new ≡ g.faults old)

-- what a sink took, its name and its faults
abbrev pub SameSink : {K : Type 0} → sinks.Ghosts K → K → K → Type 0
SameSink g old new = (g.took new ≡ g.took old) × (g.name new ≡ g.name old) × (g.faults new ≡ g.faults old)

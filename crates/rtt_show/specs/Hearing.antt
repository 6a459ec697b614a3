-- What a terminal heard of records.
use Rattle.std.specs.Prelude.{ℕ, List, []}
use Rattle.terminal.specs.declared.settings.TerminalSettings.{TerminalSettings}
use Rattle.terminal.specs.declared.terminals.Terminal.{Terminal}
use Rattle.terminal.specs.Terminals.{Listens, Heard}
use Rattle.rtt_show.specs.Records.{OfRecords}

-- nothing came before, and then these records
abbrev pub HearsRecords : Terminal → List ℕ → Terminal → Type 0
HearsRecords old octets new =
    (c : TerminalSettings) (sources : List ℕ) → Listens old c sources [] → OfRecords octets (Listens new c sources)

-- these records were heard to their end
abbrev pub HasHeard : TerminalSettings → List ℕ → List ℕ → Terminal → Type 0
HasHeard c sources octets t = OfRecords octets (Heard t c sources)

-- What a terminal heard of a recording.
use Rattle.std.specs.Prelude.{◌≡◌, ℕ, List, [], ◌∷◌}
use Rattle.wire_spec.specs.Dump.{Item, Recording, dump, usual_limit}
use Rattle.rtpdump_io.specs.Calls.{SomeCame}
use Rattle.command_spec.specs.declared.requests.ReadRequest.{ReadRequest}
use Rattle.command_spec.specs.Reading.{usual_wait}
use Rattle.terminal.specs.declared.settings.TerminalSettings.{TerminalSettings}
use Rattle.terminal.specs.declared.terminals.Terminal.{Terminal}
use Rattle.terminal.specs.Terminals.{Heard, Listens}
use Rattle.terminal.specs.Told.{Takes}

-- what a terminal is asked for
abbrev pub asked_of : ReadRequest → TerminalSettings
asked_of r = record { ssrc = r.ssrc; payload_types = r.payload_types; wait = usual_wait }

-- something came to a terminal that hears one source
abbrev pub HearsOne : Terminal → Type 0
HearsOne t = (c : TerminalSettings) × (source : ℕ) × (came : List Item) × Listens t c (source ∷ []) came

-- it was heard to its end
abbrev pub HasHeardOne : Terminal → Type 0
HasHeardOne t = (c : TerminalSettings) × (source : ℕ) × (came : List Item) × Heard t c (source ∷ []) came

-- all that is asked for of the recording with these octets was heard
abbrev pub HasHeard : ReadRequest → List ℕ → Terminal → Type 0
HasHeard r octets t = Heard t (asked_of r) (r.source ∷ []) (dump usual_limit octets).items

-- the same of this recording, where it is what some octets are read as
abbrev pub HearsRecording : ReadRequest → Recording → Terminal → Type 0
HearsRecording r recording t = (octets : List ℕ) → recording ≡ dump usual_limit octets → HasHeard r octets t

-- some records came; those of this recording, which has no fault, where this tells it
abbrev pub HearsAll : Type 0 → Recording → Terminal → Terminal → Type 0
HearsAll tells recording before after = SomeCame tells recording (λ items. Takes before items after)

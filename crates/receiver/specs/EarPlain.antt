-- A packet that is next in order and is heard where it lies (profile).
use Rattle.std.specs.Prelude.{◌≡◌, ℕ, Ok, List, ◌++◌}
use Rattle.wire_spec.specs.Packets.{Packet}
use Rattle.stream_spec.specs.Ready.{Chunk}
use Rattle.reorder_buffer.specs.Stories.{Story}
use Rattle.receiver.specs.declared.source_texts.SourceText.{SourceText}
use Rattle.receiver.specs.declared.settings.EarSettings.{EarSettings}
use Rattle.receiver.specs.declared.ears.Ear.{Ear}
use Rattle.receiver.specs.Hears.{Gave, GaveSome, text_for, told}
use Rattle.receiver.specs.EarEach.{HearsEach, GatheredEach}

-- the octets are a packet of text of the stream
abbrev pub IsTextFor : EarSettings → List ℕ → Type 0
IsTextFor settings octets = (p : Packet) × (text_for settings octets ≡ Ok p)

-- the octets came at `now`, and all that is ready was given, exactly one packet of it now
abbrev pub HearsPlain : Ear → Ear → ℕ → List ℕ → List SourceText → List SourceText → Type 0
HearsPlain old new now octets texts more =
    (settings : EarSettings) (sources : List ℕ) (story : Story) → HearsEach old settings sources story texts
    → GatheredEach new settings sources (told story now (text_for settings octets)) 1 more

-- the octets came at `now`, and these chunks were given
abbrev pub GivesPlain : Ear → Ear → ℕ → List ℕ → List Chunk → Type 0
GivesPlain old new now octets more =
    (settings : EarSettings) (source : ℕ) (story : Story) (gave : List Chunk)
    → Gave old settings source story gave
    → GaveSome new settings source (told story now (text_for settings octets)) (gave ++ more)

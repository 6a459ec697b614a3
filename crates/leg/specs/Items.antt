-- What an ear is told of by a record of a recording.
use Rattle.std.specs.Prelude.{ℕ, List, ◌++◌, Some}
use Rattle.stream_spec.specs.Ready.{Chunk}
use Rattle.reorder_buffer.specs.Stories.{Story, ended}
use Rattle.rtpdump_io.specs.declared.items.DumpItem.{DumpItem}
use Rattle.rtpdump_io.specs.declared.items.DumpItem.TheVariants.{Packet, Rtcp, Cut, Large, End}
use Rattle.receiver.specs.declared.settings.EarSettings.{EarSettings}
use Rattle.receiver.specs.declared.ears.Ear.{Ear}
use Rattle.receiver.specs.Hears.{Gave, GaveSome, text_for, told}

-- a packet comes at its time, and the end lets the wait go by
abbrev pub after_item : EarSettings → Story → DumpItem → List ℕ → Story
after_item settings story (Packet at) octets = told story at (text_for settings octets)
after_item settings story (Rtcp at) octets = story
after_item settings story (Cut at) octets = story
after_item settings story (Large at) octets = story
after_item settings story End octets = ended story

-- the record was told, and these chunks were given
abbrev pub GivesItem : Ear → Ear → DumpItem → List ℕ → List Chunk → Type 0
GivesItem old new item octets more =
    (settings : EarSettings) (source : ℕ) (story : Story) (gave : List Chunk)
    → Gave old settings source story gave
    → GaveSome new settings source (after_item settings story item octets) (gave ++ more)

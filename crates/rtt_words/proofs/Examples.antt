-- Outcomes that were worked out by hand.
use Rattle.std.proofs.Common.{◌≡◌, ℕ, Some, None, List, [], ◌∷◌, refl}
use Rattle.std.specs.Prelude.{codes}
use Rattle.wire_spec.specs.Dump.{dump, dump_opening, opening}
use Rattle.wire_spec.specs.declared.faults.DumpKind.TheVariants.{NotDump}
use Rattle.command_spec.specs.Usual.{usual_payload_types}
use Rattle.rtt_words.specs.Words.{Read, ListRecords, Send, Version}
use Rattle.command_spec.specs.declared.faults.Refusal.TheVariants.{AtByte}
use Rattle.command_spec.specs.Scripts.{events_before, first_from, first_end}
use Rattle.command_spec.specs.Work.{Contents}
use Rattle.command_spec.specs.Outcomes.{outcome, Missing, Refused, Done}
use Rattle.rtt_words.specs.Tasks.{work}
use Rattle.command_spec.specs.Messages.{version_line}

-- under each name lie these octets
all_hold : List ℕ → Contents
all_hold octets name = Some octets

nothing : Contents
nothing name = None

-- nothing lies there
reads_nothing : outcome nothing (work (Read (record { file = codes "a.rtp"; ssrc = 1001; source = 1001; payload_types = usual_payload_types }))).steps ≡ Missing 0
unfolding nothing
reads_nothing = refl

-- an empty file is no recording
lists_empty : outcome (all_hold []) (work (ListRecords (record { file = codes "a.rtp"; payload_types = usual_payload_types }))).steps ≡ Refused 0 (AtByte 0 NotDump)
unfolding all_hold dump opening
lists_empty = refl

-- a script of comments makes a recording without records
sends_nothing : outcome (all_hold (codes "# nothing\n")) (work (Send (record { file = codes "s.txt"; out = codes "a.rtp"; ssrc = 1001; seq = 0; timestamp = 0 }))).steps
    ≡ Done [] (record { name = codes "a.rtp"; octets = dump_opening } ∷ [])
unfolding all_hold events_before first_from first_end
sends_nothing = refl

-- the version is told wherever it is asked for
tells_the_version : (held : Contents) → outcome held (work Version).steps ≡ Done version_line []
tells_the_version held = refl

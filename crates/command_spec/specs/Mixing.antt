-- What `mix` makes of a conference (profile): a recording of what is sent to each terminal, and what is seen there. Legs
-- and their terminals are numbered from 0.
use Rattle.std.specs.Prelude.{ℕ, suc, Option, None, Some, List, [], ◌∷◌, map, flat_map, remove, slice_index_or, Result, Ok, Err, if◌then◌else◌}
use Rattle.std.specs.List.{enumerate_from}
use Rattle.wire_spec.specs.Packets.{Arrival}
use Rattle.wire_spec.specs.SentPackets.{packet_written}
use Rattle.wire_spec.specs.Dump.{Item, dump, dump_written}
use Rattle.file_spec.specs.declared.conference_lines.Form.TheVariants.{Files}
use Rattle.file_spec.specs.declared.conference_lines.LegLine.{LegLine}
use Rattle.file_spec.specs.Conference.{Conference, conference_from}
use Rattle.file_spec.specs.Lines as lines
use Rattle.file_spec.specs.Primaries.{primary_limit}
use Rattle.mixer_spec.specs.Setups.{setup, stream}
use Rattle.mixer_spec.specs.Table.{Table, packets}
use Rattle.mixer_spec.specs.Plain.{plain}
use Rattle.mixer_spec.specs.Arrives.{came}
use Rattle.mixer_spec.specs.Bridged.{input_limit, leg_chunks}
use Rattle.command_spec.specs.declared.faults.Refusal.TheVariants.{AtByte, AtLine, AfterTurns}
use Rattle.command_spec.specs.Work.{Made, Steps, Reads, Refuses, Makes, and_prints}
use Rattle.view_spec.specs.declared.tallies.Tally.{Tally}
use Rattle.view_spec.specs.Tallies.{tally_in, tally_line}
use Rattle.view_spec.specs.Seen.{Reception, Speaker, aware_seen, unaware_seen}

-- ---- what is sent to a terminal
-- the packets to terminal j, each at the moment of its turn
abbrev pub sent_to : Conference → Table → ℕ → List Arrival
sent_to c table j = packets (stream (setup c) j) (table.terminals j).past

-- their octets, where this is the leg j
abbrev pub records_to : Conference → Table → ℕ → LegLine → List (ℕ × List ℕ)
records_to c table j leg = map (λ a. (a.time, packet_written leg.payload_types a.packet)) (sent_to c table j)

-- its recording
abbrev pub out_of : Conference → Table → ℕ → LegLine → Made
out_of c table j leg = record { name = leg.output; octets = dump_written (records_to c table j leg) }

-- ---- what comes to it
abbrev pub came_to : Conference → Table → ℕ → LegLine → List Item
came_to c table j leg = came c.plan j (records_to c table j leg)

-- ---- what is seen there
-- a terminal hears the mixer
abbrev pub reception_of : Conference → LegLine → Reception
reception_of c leg = record { ssrc = c.mixer.ssrc; payload_types = leg.payload_types; wait = c.wait }

abbrev pub speaker_of : LegLine → Speaker
speaker_of leg = record { name = leg.name; ssrc = leg.ssrc }

-- an aware terminal keeps the other legs apart
abbrev pub view_of : Conference → Table → ℕ → LegLine → List ℕ
view_of c table j leg =
    if leg.aware
    then aware_seen (reception_of c leg) leg.name (map speaker_of (remove c.legs j)) (came_to c table j leg)
    else unaware_seen (reception_of c leg) leg.name c.mixer.ssrc (came_to c table j leg)

-- ---- all terminals, in leg order
abbrev pub views : Conference → Table → List ℕ
views c table = flat_map (λ x. view_of c table x.0 x.1) (enumerate_from 0 c.legs)

abbrev pub outs : Conference → Table → List Made
outs c table = map (λ x. out_of c table x.0 x.1) (enumerate_from 0 c.legs)

-- ---- the steps
-- where mixing is over within the turns there is a table, of which this is made
abbrev pub makes : Conference → Option Table → Steps
makes c None = Refuses 0 (AfterTurns c.turns)
makes c (Some table) = Makes (views c table) (outs c table)

-- the octets of the input of each leg
abbrev pub input_at : List (List ℕ) → ℕ → List ℕ
input_at inputs i = slice_index_or inputs i []

-- The inputs from number n on are recordings of at most so many octets: the first that has a fault is refused, or this
-- comes then.
abbrev pub unless_one_broken : ℕ → ℕ → List (List ℕ) → Steps → Steps
unless_one_broken limit n [] steps = steps
unless_one_broken limit n (octets ∷ more) steps =
    elim (dump limit octets).fault [
      | None ↦ unless_one_broken limit (suc n) more steps
      | Some fault ↦ Refuses n (AtByte fault.byte fault.kind)
    ]

-- the legs of a conference whose inputs have these octets are mixed
abbrev pub mixes : Conference → List (List ℕ) → Steps
mixes c inputs =
    unless_one_broken (input_limit c) 1 inputs
    (makes c (plain (setup c) c.tick c.turns (leg_chunks c (input_at inputs))))

-- ---- what is counted
-- the input of a leg is heard for its sender; to count it no gap is waited for
abbrev pub hears_of : LegLine → Reception
hears_of leg = record { ssrc = leg.ssrc; payload_types = leg.payload_types; wait = 0 }

-- what came of the leg i in its input
abbrev pub leg_tally : Conference → List (List ℕ) → ℕ → LegLine → Tally
leg_tally c inputs i leg = tally_in (primary_limit leg.long) (hears_of leg) (dump (input_limit c) (input_at inputs i)).items

-- one line for each leg, in leg order
abbrev pub counts_lines : Conference → List (List ℕ) → List ℕ
counts_lines c inputs = flat_map (λ x. tally_line x.1.name (leg_tally c inputs x.0 x.1)) (enumerate_from 0 c.legs)

-- where the conference asks for it
abbrev pub counted : Conference → List (List ℕ) → List ℕ
counted c inputs = if c.service.counts then counts_lines c inputs else []

-- they are mixed, and behind the views stands what is counted, where the conference asks for it
abbrev pub mixes_counted : Conference → List (List ℕ) → Steps
mixes_counted c inputs = if c.service.counts then and_prints (counts_lines c inputs) (mixes c inputs) else mixes c inputs

-- ---- the whole
-- the input of each of these legs is read
abbrev pub reads_inputs : List LegLine → (List (List ℕ) → Steps) → Steps
reads_inputs [] next = next []
reads_inputs (leg ∷ legs) next = Reads leg.input (λ octets. reads_inputs legs (λ more. next (octets ∷ more)))

-- a conference is mixed, or its file refused
abbrev pub mixes_read : Result Conference lines.Refusal → Steps
mixes_read (Err refusal) = Refuses 0 (AtLine refusal.line refusal.kind)
mixes_read (Ok c) = reads_inputs c.legs (mixes_counted c)

-- the conference that this file describes is mixed
abbrev pub mixing : List ℕ → Steps
mixing file = Reads file (λ octets. mixes_read (conference_from Files octets))

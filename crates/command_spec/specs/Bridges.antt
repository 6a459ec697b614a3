-- The headline of a conference that was mixed, from what lay in files to what lies there then and is printed (profile).
-- The first hop is from a leg to the mixer, the second from the mixer to a terminal.
use Rattle.std.specs.Prelude.{◌≡◌, ◌<◌, ◌≤◌, ℕ, false, List, [], ◌++◌, length, map, flat_map, remove, None, Some, Ok, All, if◌then◌else◌}
use Rattle.std.specs.List.{AllZip, concat, enumerate_from}
use Rattle.std.specs.Option.{ForSome}
use Rattle.wire_spec.specs.Packets.{Arrival}
use Rattle.wire_spec.specs.Text.{text_of}
use Rattle.wire_spec.specs.Dump.{dump, dump_written, sent_item}
use Rattle.file_spec.specs.declared.conference_lines.Form.TheVariants.{Files}
use Rattle.file_spec.specs.declared.conference_lines.LegLine.{LegLine}
use Rattle.file_spec.specs.Conference.{Conference, conference_from}
use Rattle.stream_spec.specs.Numbering as numbers
use Rattle.stream_spec.specs.History.{History, Lawful, placed}
use Rattle.stream_spec.specs.Own.{Own, Closed, own_packet}
use Rattle.stream_spec.specs.Carries.{Carries}
use Rattle.stream_spec.specs.Ready.{Chunk}
use Rattle.view_spec.specs.declared.counts.Counts.{Counts}
use Rattle.view_spec.specs.Shown.{Display, shown}
use Rattle.view_spec.specs.Views.{Source, aware_view, unaware_view}
use Rattle.mixer_spec.specs.Setups.{AllStay, IsAnother, Setup, leg_at, setup}
use Rattle.mixer_spec.specs.Table.{Table}
use Rattle.mixer_spec.specs.Arrives.{arrivals}
use Rattle.mixer_spec.specs.Headline.{Hop, hears, OneHop}
use Rattle.mixer_spec.specs.Bridged.{IsConferenceMixed, IsPair, IsSentBy, SharedIsPart, cutting_of, hop_from, hop_to, input_limit, leg_heard, pieces_heard, told_by_packets}
use Rattle.mixer_spec.specs.Behind.{Bridged, BridgedAsOne}
use Rattle.mixer_spec.specs.PieceHeadline.{PieceHeadline, PieceHeadlineAt, all_pieces}
use Rattle.command_spec.specs.Heard.{HearsNamed}
use Rattle.command_spec.specs.Seen.{ShowsNamed}
use Rattle.command_spec.specs.Work.{Contents}
use Rattle.command_spec.specs.Outcomes.{HoldsOfMade}
use Rattle.command_spec.specs.Mixing.{counted, mixing, sent_to, records_to, input_at}
use Rattle.wire_spec.specs.declared.limits.TheConstants.{LAST_RECORD_MOMENT}

-- A conference, the octets of its inputs in leg order, and the table when mixing them was over.
pub record Bridge : Type 0 where
  pub conference : Conference
  pub inputs : List (List ℕ)
  pub table : Table

abbrev pub setup_of : Bridge → Setup
setup_of b = setup b.conference

-- how the texts of its legs are cut where they are heard
abbrev pub cut_by : Bridge → List ℕ → List (List ℕ)
cut_by b = cutting_of b.conference

-- ---- the first hop: from the leg i, of whom the history h was sent, but for keep-alives
-- what came of the leg is of the lawful history h
abbrev pub IsFrom : Bridge → ℕ → History → Type 0
IsFrom b i h = IsSentBy b.conference (input_at b.inputs) i h

abbrev pub inward : Bridge → ℕ → History → Hop
inward b i h = hop_from b.conference (input_at b.inputs) i h

-- what is heard of the leg, in pieces, with the moments from which each may be mixed
abbrev pub chunks_of : Bridge → ℕ → List Chunk
chunks_of b i = leg_heard b.conference (input_at b.inputs) i

-- ---- the second hop: to the terminal j, where the source x is listened to
-- the history that its packets tell
abbrev pub told_to : Bridge → ℕ → History
told_to b j = told_by_packets (setup_of b) j (b.table.terminals j).past

-- what comes of its packets, as the plan says
abbrev pub comes_to : Bridge → ℕ → List Arrival
comes_to b j = arrivals b.conference.plan j (sent_to b.conference b.table j)

abbrev pub onward : Bridge → ℕ → ℕ → Hop
onward b j x = hop_to (told_to b j) x b.conference.wait (comes_to b j)

-- where the source is the leg i
abbrev pub onward_from : Bridge → ℕ → ℕ → Hop
onward_from b j i = onward b j ((setup_of b).ssrc i)

-- where it is the mixer
abbrev pub onward_from_mixer : Bridge → ℕ → Hop
onward_from_mixer b j = onward b j b.conference.mixer.ssrc

-- ---- what lies in the output of a leg
abbrev pub records_of : Bridge → ℕ → LegLine → List (ℕ × List ℕ)
records_of b j leg = records_to b.conference b.table j leg

-- These octets are the file of a history that is lawful, of the mixer's own making, and closed: the recording of its own
-- packets, in order, which is read back wherever its times and its size are within the limits.
pub record IsOut (b : Bridge) (j : ℕ) (leg : LegLine) (octets : List ℕ) : Type 0 where
  pub lawful : Lawful (told_to b j)
  pub own : Own leg.generations (told_to b j)
  pub closed : Closed leg.generations (told_to b j)
  pub is : octets ≡ dump_written (records_of b j leg)
  pub packets : map (λ r. text_of r.1 (Some b.conference.mixer.ssrc) leg.payload_types) (records_of b j leg)
      ≡ map (λ x. Ok (own_packet (told_to b j) x)) (placed (told_to b j))
  -- Where packets have a limit none has more octets.
  pub fit : ForSome b.conference.mtu (λ most. All (λ r. length r.1 ≤ most) (records_of b j leg))
  pub read_back : (limit : ℕ) → All (λ r. r.0 ≤ LAST_RECORD_MOMENT) (records_of b j leg) → length octets ≤ limit
      → dump limit octets ≡ record { items = map sent_item (records_of b j leg); fault = None }

-- ---- what is seen
-- what is heard behind a hop, shown
abbrev pub display_behind : Hop → Display
display_behind q = shown (concat (hears q))

-- how many packets came, each of them a text of the mixer, and how many were used
abbrev pub counts_behind : Hop → Counts
counts_behind q = record {
  packets = length q.came;
  used = length (numbers.used q.wait (numbers.numbered q.came));
  refused = 0;
  foreign = 0;
}

abbrev pub source_behind : Bridge → ℕ → LegLine → Source
source_behind b j leg = record { name = leg.name; display = display_behind (onward b j leg.ssrc) }

-- the view of the leg j
abbrev pub view_behind : Bridge → ℕ → LegLine → List ℕ
view_behind b j leg =
    if leg.aware
    then aware_view leg.name (map (source_behind b j) (remove b.conference.legs j)) (counts_behind (onward_from_mixer b j))
    else unaware_view leg.name (display_behind (onward_from_mixer b j)) (counts_behind (onward_from_mixer b j))

abbrev pub views_behind : Bridge → List ℕ
views_behind b = flat_map (λ x. view_behind b x.0 x.1) (enumerate_from 0 b.conference.legs)

-- ---- what is heard
-- What the aware terminal j hears of the leg i, whatever the inputs have, and whatever the plan loses, repeats or delays.
pub record IsHeard (b : Bridge) (j i : ℕ) : Type 0 where
  -- Its history is lawful, own and closed, and carries all that it shares of the leg.
  pub bridged : (h : History) → Bridged (cut_by b) (setup_of b) b.table j i (told_to b j) (inward b i h) (chunks_of b i)
  -- The headline, for every lawful history of which the leg's arrivals come, cut at what the terminal shares of the leg: of each
  -- piece of each block that is no keep-alive.
  pub headline : (h : History) → IsFrom b i h
      → PieceHeadlineAt (cut_by b) (inward b i h) (onward_from b j i) (bridged h).part.before [] (bridged h).part.after
  -- Where nobody comes later or goes, that is all that is heard of the leg.
  pub carries_all : AllStay (setup_of b)
      → (h : History) → Carries (told_to b j) ((setup_of b).ssrc i) (pieces_heard (cut_by b) (inward b i h))
  pub headline_all : AllStay (setup_of b)
      → (h : History) → IsFrom b i h → PieceHeadline (cut_by b) (inward b i h) (onward_from b j i) (all_pieces (cut_by b) (inward b i h))

-- What a terminal hears that is not aware: the mixer as the one source.
pub record IsHeardAsOne (b : Bridge) (j : ℕ) : Type 0 where
  pub bridged : BridgedAsOne (setup_of b) b.table j (told_to b j)
  pub one_hop : OneHop (onward_from_mixer b j)
  -- What is heard are stretches of the composer's one text, with a marker between each two. Within each, each character that
  -- prints stands behind the label of the leg that typed it, up to the next label or marker; and what stands before the first
  -- label was typed by one leg.
  pub named : HearsNamed (setup_of b) (b.table.terminals j).asks (onward_from_mixer b j)
  -- What is shown of it is what is shown of each stretch for itself, with a marker between each two; and of each stretch its labels
  -- whole, and behind each label, up to the next, what prints of what its leg typed there.
  pub shown_named : ShowsNamed (setup_of b) (b.table.terminals j).asks (onward_from_mixer b j) named
  -- What it shares of each other leg stands in what is heard of that leg.
  pub part : (i : ℕ) → i < length b.conference.legs → IsAnother i j
      → (h : History) → SharedIsPart (cut_by b) (setup_of b) b.table j i (inward b i h) (chunks_of b i)

-- ---- the whole
-- The conference lies in this file, and recordings without a fault in its inputs; mixing them is over within its turns.
pub record IsMixedFrom (held : Contents) (file : List ℕ) (b : Bridge) : Type 0 where
  pub read : (octets : List ℕ) × (held file ≡ Some octets) × (conference_from Files octets ≡ Ok b.conference)
  pub inputs_lie : AllZip (λ leg octets. held leg.input ≡ Some octets) b.conference.legs b.inputs
  pub whole : All (λ octets. (dump (input_limit b.conference) octets).fault ≡ None) b.inputs
  pub over : IsConferenceMixed b.conference (input_at b.inputs) b.table

-- Of what lies in files there is one bridge at most.
abbrev pub BridgesAreOne : Type 0
BridgesAreOne =
    (held : Contents) (file : List ℕ) (a b : Bridge)
    → IsMixedFrom held file a
    → IsMixedFrom held file b
    → a ≡ b

-- What `mix` makes of a file, where that lay in files, and this lies there then, and this is printed.
pub record IsBridged (held after : Contents) (file printed : List ℕ) : Type 0 where
  pub bridge : Bridge
  pub mixed : IsMixedFrom held file bridge
  -- In the output of each leg lies what was sent to it.
  pub outs : (j : ℕ) (leg : LegLine) → leg_at bridge.conference.legs j ≡ Some leg
      → (octets : List ℕ) × (after leg.output ≡ Some octets) × IsOut bridge j leg octets
  -- What is printed is what is heard behind both hops, shown, and what is counted of the inputs where the file asks for it.
  pub views : printed ≡ views_behind bridge ++ counted bridge.conference bridge.inputs
  -- Of each other leg an aware terminal hears what the headline says.
  pub heard : (j i : ℕ) → IsPair (setup_of bridge) j i → IsHeard bridge j i
  pub heard_as_one : (j : ℕ) → j < length bridge.conference.legs → (setup_of bridge).aware j ≡ false
      → IsHeardAsOne bridge j

-- Whatever lies in the files, that is what `mix` makes of it.
abbrev pub MixedAreBridged : Type 0
MixedAreBridged = HoldsOfMade mixing IsBridged

-- What is seen at the terminals of a conference, by what was sent to each (profile).
use Rattle.std.specs.Prelude.{◌≡◌, ℕ, ◌+◌, ◌*◌, ◌^◌, ◌<◌, ◌≤◌, List, [], ◌++◌, length, map, min, remove, take, flat_map, slice_index_or, IfOk, Result, if◌then◌else◌}
use Rattle.std.specs.List.{concat, enumerate_from, sum_by}
use Rattle.rtt_base.specs.declared.errors.NoMemory.{NoMemory}
use Rattle.view_spec.specs.declared.counts.Counts.{Counts}
use Rattle.file_spec.specs.declared.conference_lines.LegLine.{LegLine}
use Rattle.file_spec.specs.Conference.{Conference}
use Rattle.mixer_spec.specs.Table.{Table}
use Rattle.view_spec.specs.Seen.{aware_seen, counts_at, unaware_seen}
use Rattle.command_spec.specs.Mixing.{reception_of, records_to, speaker_of, view_of, views}
use Rattle.mixer_spec.specs.Arrives.{came}
use Rattle.command_spec.specs.Sums.{Sums, counts_to, markers_to, sources_of, sums}
use Rattle.view_spec.specs.Markers.{markers_at}
use Rattle.playback.specs.Written.{IsWrittenOf}
use Rattle.terminal.specs.declared.settings.TerminalSettings.{TerminalSettings}
use Rattle.terminal.specs.declared.terminals.Terminal.{Terminal}
use Rattle.terminal.specs.declared.views.View.{View}
use Rattle.terminal.specs.Terminals.{Heard, counts_of, texts_of}
use Rattle.terminal.specs.Told.{AppendsSeen}
use Rattle.rtt_mix.specs.declared.views.TerminalViews.{TerminalViews}
use Rattle.rtt_mix.specs.declared.parts.TheConstants.{MOST_PARTS}
use Rattle.file_spec.specs.declared.limits.TheConstants.{MOST_LEGS}
use Rattle.rtt_base.specs.declared.limits.TheConstants.{MOST_ARRIVALS}

-- these are what was sent to each terminal
abbrev pub AreSent : Conference → Table → List (List ℕ) → Type 0
AreSent c table outs = (j : ℕ) (d : LegLine) → j < length c.legs
    → IsWrittenOf (slice_index_or outs j []) (records_to c table j (slice_index_or c.legs j d))

-- this is seen at the terminals to which this was sent
abbrev pub AreViewsOf : Conference → List (List ℕ) → List ℕ → Type 0
AreViewsOf c outs seen = (table : Table) → AreSent c table outs → seen ≡ views c table

-- these are the sums over the terminals to which this was sent
abbrev pub AreSumsOf : Conference → List (List ℕ) → Sums → Type 0
AreSumsOf c outs total = (table : Table) → AreSent c table outs → total ≡ sums c table

-- ---- one terminal
-- what the terminal of a leg is made with
abbrev pub terminal_settings : Conference → LegLine → TerminalSettings
terminal_settings c leg = record { ssrc = c.mixer.ssrc; payload_types = leg.payload_types; wait = c.wait }

-- what is seen at the terminal of the leg j, where these records were sent to it
abbrev pub view_from : Conference → ℕ → LegLine → List (ℕ × List ℕ) → List ℕ
view_from c j leg records =
    if leg.aware
    then aware_seen (reception_of c leg) leg.name (map speaker_of (remove c.legs j)) (came c.plan j records)
    else unaware_seen (reception_of c leg) leg.name c.mixer.ssrc (came c.plan j records)

-- what is counted there
abbrev pub counts_from : Conference → ℕ → LegLine → List (ℕ × List ℕ) → Counts
counts_from c j leg records = counts_at (reception_of c leg) (came c.plan j records)

-- and how many markers are heard there
abbrev pub markers_from : Conference → ℕ → LegLine → List (ℕ × List ℕ) → ℕ
markers_from c j leg records = sum_by (markers_at (reception_of c leg) (came c.plan j records)) (sources_of c j leg)

-- all markers that were heard at a terminal
abbrev pub markers_of : Terminal → ℕ
markers_of t = sum_by (λ text. text.markers) (texts_of t)

-- all views, one behind the other
abbrev pub joined : TerminalViews → List ℕ
joined seen = concat seen.views.items

-- the view of this terminal was added, and its numbers
pub record AddsTerminalView (c : Conference) (j : ℕ) (leg : LegLine) (records : List (ℕ × List ℕ))
    (old new : TerminalViews) : Type 0 where
  pub views : joined new ≡ joined old ++ view_from c j leg records
  pub packets : new.packets ≡ old.packets + (counts_from c j leg records).packets
  pub used : new.used ≡ old.used + (counts_from c j leg records).used
  pub markers : new.markers ≡ old.markers + markers_from c j leg records

-- so was that of the terminal of the leg j, to which this recording was sent
abbrev pub AddsSent : Conference → ℕ → List ℕ → TerminalViews → TerminalViews → Type 0
AddsSent c j recording old new =
    (records : List (ℕ × List ℕ)) (d : LegLine) → IsWrittenOf recording records
    → AddsTerminalView c j (slice_index_or c.legs j d) records old new

-- What came to the terminal of the leg j, where these records were sent to it, was heard by a terminal of these sources; what this
-- view shows of it was added, and its numbers.
pub record IsSeenAs (c : Conference) (j : ℕ) (leg : LegLine) (sources : List ℕ) (view : View)
    (records : List (ℕ × List ℕ)) (old new : TerminalViews) : Type 0 where
  pub terminal : Terminal
  pub heard : Heard terminal (terminal_settings c leg) sources (came c.plan j records)
  pub shown : List ℕ
  pub is_shown : AppendsSeen terminal view [] shown
  pub views : joined new ≡ joined old ++ shown
  pub packets : new.packets ≡ old.packets + (counts_of terminal).packets
  pub used : new.used ≡ old.used + (counts_of terminal).used
  pub markers : new.markers ≡ old.markers + markers_of terminal

-- so it was of the terminal of the leg j, to which this recording was sent
abbrev pub AddsSeenAs : Conference → ℕ → List ℕ → List ℕ → View → TerminalViews → TerminalViews → Type 0
AddsSeenAs c j recording sources view old new =
    (records : List (ℕ × List ℕ)) (d : LegLine) → IsWrittenOf recording records
    → IsSeenAs c j (slice_index_or c.legs j d) sources view records old new

-- ---- the numbers
-- A terminal's numbers were added.
pub record AddsCounts (t : Terminal) (old new : TerminalViews) : Type 0 where
  pub views : new.views ≡ old.views
  pub packets : new.packets ≡ old.packets + (counts_of t).packets
  pub used : new.used ≡ old.used + (counts_of t).used
  pub markers : new.markers ≡ old.markers + markers_of t

-- The view of a terminal was added, in these pieces, and so many packets, each of which was used, and no marker.
pub record AddsUsed (pieces : List (List ℕ)) (count : ℕ) (old new : TerminalViews) : Type 0 where
  pub views : joined new ≡ joined old ++ concat pieces
  pub packets : new.packets ≡ old.packets + count
  pub used : new.used ≡ old.used + count
  pub markers : new.markers ≡ old.markers

-- Few packets came to it, and it has few sources. No number of it is greater.
pub record HasFew (t : Terminal) : Type 0 where
  pub packets : (counts_of t).packets < MOST_ARRIVALS
  pub used : (counts_of t).used < MOST_ARRIVALS
  pub markers : markers_of t < 2 ^ 46

-- These are the numbers of at most so many such terminals.
pub record AreOf (n : ℕ) (seen : TerminalViews) : Type 0 where
  pub packets : seen.packets ≤ n * MOST_ARRIVALS
  pub used : seen.used ≤ n * MOST_ARRIVALS
  pub markers : seen.markers ≤ n * 2 ^ 46

abbrev pub summed : TerminalViews → Sums
summed seen = record { packets = seen.packets; used = seen.used; markers = seen.markers }

-- ---- the terminals of some legs
-- the first k legs, each with its number
abbrev pub first_legs : Conference → ℕ → List (ℕ × LegLine)
first_legs c k = take k (enumerate_from 0 c.legs)

-- what is seen at the first k terminals
abbrev pub views_below : Conference → Table → ℕ → List ℕ
views_below c table k = flat_map (λ x. view_of c table x.0 x.1) (first_legs c k)

-- and what they count
abbrev pub packets_below : Conference → Table → ℕ → ℕ
packets_below c table k = sum_by (λ x. (counts_to c table x.0 x.1).packets) (first_legs c k)

abbrev pub used_below : Conference → Table → ℕ → ℕ
used_below c table k = sum_by (λ x. (counts_to c table x.0 x.1).used) (first_legs c k)

abbrev pub markers_below : Conference → Table → ℕ → ℕ
markers_below c table k = sum_by (λ x. markers_to c table x.0 x.1) (first_legs c k)

-- This is seen at the terminals from the first number on and below the other.
pub record IsSeenBetween (c : Conference) (table : Table) (from to : ℕ) (seen : TerminalViews) : Type 0 where
  pub views : views_below c table from ++ joined seen ≡ views_below c table to
  pub packets : packets_below c table from + seen.packets ≡ packets_below c table to
  pub used : used_below c table from + seen.used ≡ used_below c table to
  pub markers : markers_below c table from + seen.markers ≡ markers_below c table to

-- so it is where these are the recordings of what was sent
abbrev pub AreSeenBetween : Conference → List (List ℕ) → ℕ → ℕ → TerminalViews → Type 0
AreSeenBetween c outs from to seen = (table : Table) → AreSent c table outs → IsSeenBetween c table from to seen

-- ---- parts
-- this is seen at the terminals of the part with this number, of parts of so many terminals
pub record IsPartOf (c : Conference) (outs : List (List ℕ)) (size number : ℕ) (seen : TerminalViews) : Type 0 where
  pub seen_there : AreSeenBetween c outs (min (number * size) (length outs)) (min ((number + 1) * size) (length outs)) seen
  pub numbers : AreOf MOST_LEGS seen

-- these are what is seen at the terminals of each part, where memory was there
abbrev pub ArePartsOf : Conference → List (List ℕ) → ℕ → List (Result TerminalViews NoMemory) → Type 0
ArePartsOf c outs size parts = (k : ℕ) (d : Result TerminalViews NoMemory) → k < MOST_PARTS
    → IfOk (slice_index_or parts k d) (IsPartOf c outs size k)

-- what is seen at more terminals was added
pub record AddsSeen (part old new : TerminalViews) : Type 0 where
  pub views : joined new ≡ joined old ++ joined part
  pub packets : new.packets ≡ old.packets + part.packets
  pub used : new.used ≡ old.used + part.used
  pub markers : new.markers ≡ old.markers + part.markers

-- What a live call gives and prints (profile). Legs and their terminals are numbered from 0. Takes stand newest first, what is
-- given to a terminal oldest first.
use Rattle.std.specs.Prelude.{◌≡◌, ◌<◌, ◌≤◌, ◌⊎◌, ℕ, Bool, true, false, Option, None, Some, List, [], ◌++◌, codes, length, map, flat_map, remove, unwrap_or, if◌then◌else◌}
use Rattle.std.specs.List.{enumerate_from}
use Rattle.rtt_base.specs.declared.text_packets.PayloadTypes.{PayloadTypes}
use Rattle.wire_spec.specs.Packets.{Arrival}
use Rattle.wire_spec.specs.SentPackets.{packet_written}
use Rattle.wire_spec.specs.Dump.{Item, sent_item}
use Rattle.stream_spec.specs.Ready.{Chunk}
use Rattle.file_spec.specs.declared.conference_lines.LegLine.{LegLine}
use Rattle.file_spec.specs.Conference.{Conference}
use Rattle.file_spec.specs.Primaries.{primary_limit}
use Rattle.mixer_spec.specs.Setups.{is_long, leg_at, setup, ssrc_of}
use Rattle.mixer_spec.specs.Table.{Table, chunks_taken, is_idle, turned}
use Rattle.mixer_spec.specs.Rooms.{piece_within}
use Rattle.view_spec.specs.Seen.{aware_seen, unaware_seen}
use Rattle.view_spec.specs.Tallies.{tally_line}
use Rattle.command_spec.specs.Mixing.{reception_of, sent_to, speaker_of}
use Rattle.stream_spec.specs.Links.{Takes, is_closed}
use Rattle.live_spec.specs.Told.{Hearing, Told, heard_told, told_by}
use Rattle.live_spec.specs.Tally.{kept, tally_by}
use Rattle.live_spec.specs.Live.{IsOver, Live, at_last, live_chunks}

-- how a live call ended: all turns were made, or all links are closed and nothing is left, or it broke off before
pub data End : Type 0 where
  Done : End
  Closed : End
  Broken : End

-- ---- what is heard of a leg, where its link gave this
abbrev pub payload_types_of : Option LegLine → PayloadTypes
payload_types_of None = record { t140 = 0; red = 0 }
payload_types_of (Some leg) = leg.payload_types

-- whether whoever sends from its terminal is heard
abbrev pub is_followed : Option LegLine → Bool
is_followed None = false
is_followed (Some leg) = leg.follow

-- how the leg i is heard
abbrev pub hearing_at : Conference → ℕ → Hearing
hearing_at c i = record { leg = i; ssrc = ssrc_of (leg_at c.legs i); payload_types = payload_types_of (leg_at c.legs i); most = primary_limit (is_long (leg_at c.legs i)); wait = c.wait; follow = is_followed (leg_at c.legs i); piece = piece_within c.mtu }

abbrev pub told_live : Conference → (ℕ → Takes) → ℕ → Told
told_live c takes i = told_by (hearing_at c i) (takes i)

-- its texts, but for keep-alives, in pieces
abbrev pub heard_live : Conference → (ℕ → Takes) → ℕ → List (List ℕ)
heard_live c takes i = heard_told (hearing_at c i) (told_live c takes i)

-- the packets of text that came of its sender, newest first
abbrev pub came_live : Conference → (ℕ → Takes) → ℕ → List Arrival
came_live c takes i = (told_live c takes i).past

-- the SSRC of its sender, or that of the conference, while there is none
abbrev pub sender_live : Conference → (ℕ → Takes) → ℕ → ℕ
sender_live c takes i = unwrap_or (told_live c takes i).sender (ssrc_of (leg_at c.legs i))

-- and each with the moment from which it may be mixed
abbrev pub chunks_live : Conference → (ℕ → Takes) → ℕ → List Chunk
chunks_live c takes = live_chunks (hearing_at c) takes

-- ---- what is given to a terminal
-- the packets to the terminal j, where this is the leg j
abbrev pub given_to : Conference → Table → ℕ → LegLine → List (List ℕ)
given_to c table j leg = map (λ a. packet_written leg.payload_types a.packet) (sent_to c table j)

-- what its link was given of a call that broke off: what the turns that were made give, or its packet of one more turn besides,
-- at this moment
abbrev pub IsCutShort : Conference → Table → (now j : ℕ) → LegLine → List (List ℕ) → Type 0
IsCutShort c table now j leg given = (given ≡ given_to c table j leg) ⊎ (given ≡ given_to c (turned (setup c) now table) j leg)

-- ---- what is seen there, where they come in order and at once
abbrev pub came_at_once : List (List ℕ) → List Item
came_at_once given = map (λ octets. sent_item (0, octets)) given

abbrev pub live_view : Conference → ℕ → LegLine → List (List ℕ) → List ℕ
live_view c j leg given =
    if leg.aware
    then aware_seen (reception_of c leg) leg.name (map speaker_of (remove c.legs j)) (came_at_once given)
    else unaware_seen (reception_of c leg) leg.name c.mixer.ssrc (came_at_once given)

-- all terminals, in leg order
abbrev pub live_views : Conference → (ℕ → List (List ℕ)) → List ℕ
live_views c given = flat_map (λ x. live_view c x.0 x.1 (given x.0)) (enumerate_from 0 c.legs)

abbrev pub end_line : End → List ℕ
end_line Done = codes "-- live done\n"
end_line Closed = codes "-- live closed\n"
end_line Broken = []

-- what is counted of each leg, one line for each, in leg order
abbrev pub counts_lines : Conference → (ℕ → Takes) → List ℕ
counts_lines c takes = flat_map (λ x. tally_line x.1.name (kept (tally_by (hearing_at c x.0) (takes x.0)))) (enumerate_from 0 c.legs)

-- where the conference asks for it
abbrev pub counted : Conference → (ℕ → Takes) → List ℕ
counted c takes = if c.service.counts then counts_lines c takes else []

-- what is printed; of a call that broke off, what would be
abbrev pub live_printed : Conference → (ℕ → Takes) → (ℕ → List (List ℕ)) → End → List ℕ
live_printed c takes given end = live_views c given ++ (end_line end ++ counted c takes)

-- ---- the call
-- The link of the leg j was closed, and all that is heard of it was taken by the mixer.
pub record IsDrained (c : Conference) (takes : ℕ → Takes) (table : Table) (j : ℕ) : Type 0 where
  pub closed : is_closed (takes j) ≡ true
  pub taken : chunks_taken (table.taken j) ≡ chunks_live c takes j

-- A live call of this conference, whose legs' links gave this and were given that, ended so and printed this. Where it broke off
-- nothing is printed: this is what would be, of what was given by then.
pub record IsServed (c : Conference) (takes : ℕ → Takes) (given : ℕ → List (List ℕ)) (end : End) (printed : List ℕ) : Type 0 where
  pub table : Table
  pub turns : ℕ
  pub live : Live (setup c) (hearing_at c) takes turns table
  pub few : turns ≤ c.turns
  pub gives : (j : ℕ) (leg : LegLine) → leg_at c.legs j ≡ Some leg → given j ≡ given_to c table j leg
  pub prints : printed ≡ live_printed c takes given end
  -- At `Done` all turns were made, and behind the last one the call was not over.
  pub done : end ≡ Done → turns ≡ c.turns
  pub goes_on : end ≡ Done → IsOver (setup c) (hearing_at c) takes (chunks_live c takes) live.past (at_last live.counts) → ⊥
  -- At `Closed` each link was closed, all that is heard was taken, and nothing waits or is still to be repeated.
  pub drained : end ≡ Closed → (j : ℕ) → j < length c.legs → IsDrained c takes table j
  pub idle : end ≡ Closed → is_idle (setup c) table ≡ true

-- What is seen at a terminal of what comes to it (profile). What came are items as of a recording, oldest first.
use Rattle.std.specs.Prelude.{ℕ, Bool, true, false, List, [], length, map, filter, Result, Ok, Err, Some}
use Rattle.std.specs.List.{concat}
use Rattle.rtt_base.specs.declared.text_packets.PayloadTypes.{PayloadTypes}
use Rattle.wire_spec.specs.declared.faults.TextFault.{TextFault}
use Rattle.wire_spec.specs.declared.faults.TextFault.TheVariants.{Foreign}
use Rattle.wire_spec.specs.Packets.{Packet, Arrival}
use Rattle.rtt_base.specs.declared.limits.TheConstants.{MOST_TEXT_OCTETS}
use Rattle.wire_spec.specs.Text.{text_within}
use Rattle.wire_spec.specs.Dump.{Item, What, Whole, Rtcp, Cut, Large, arrivals_after}
use Rattle.stream_spec.specs.Numbering.{numbered, used}
use Rattle.stream_spec.specs.Hearing.{heard}
use Rattle.view_spec.specs.declared.counts.Counts.{Counts}
use Rattle.view_spec.specs.Shown.{Display, shown}
use Rattle.view_spec.specs.Views.{Source, text_view, aware_view, unaware_view}

-- which packets a terminal hears: those of this SSRC, with these payload types; a gap in their numbers is waited for
-- so long, in milliseconds
pub record Reception : Type 0 where
  pub ssrc : ℕ
  pub payload_types : PayloadTypes
  pub wait : ℕ

-- ---- what becomes of what came
-- a packet is a text of the stream, refused, or of another sender, or there is none
pub data Fate : Type 0 where
  Text : Fate
  Refused : Fate
  Foreigner : Fate
  NoPacket : Fate

abbrev pub fate_of : Result Packet TextFault → Fate
fate_of (Ok packet) = Text
fate_of (Err Foreign) = Foreigner
fate_of (Err fault) = Refused

-- where a primary text has at most so many octets
abbrev pub fate_within : ℕ → Reception → What → Fate
fate_within most r (Whole octets) = fate_of (text_within most octets (Some r.ssrc) r.payload_types)
fate_within most r Rtcp = NoPacket
fate_within most r Cut = Refused
fate_within most r Large = Refused

abbrev pub fate_in : ℕ → Reception → Item → Fate
fate_in most r item = fate_within most r item.what

-- where it is no longer than the text of any block
abbrev pub fate_of_what : Reception → What → Fate
fate_of_what r what = fate_within MOST_TEXT_OCTETS r what

abbrev pub fate_at : Reception → Item → Fate
fate_at r item = fate_in MOST_TEXT_OCTETS r item

abbrev pub is_packet : Fate → Bool
is_packet fate = elim fate [ NoPacket ↦ false | _ ↦ true ]

abbrev pub is_text : Fate → Bool
is_text fate = elim fate [ Text ↦ true | _ ↦ false ]

abbrev pub is_refused : Fate → Bool
is_refused fate = elim fate [ Refused ↦ true | _ ↦ false ]

abbrev pub is_foreign : Fate → Bool
is_foreign fate = elim fate [ Foreigner ↦ true | _ ↦ false ]

-- how many of what came have such a fate
abbrev pub many : {A : Type 0} → (Fate → Bool) → (A → Fate) → List A → ℕ
many p fate_of came = length (filter (λ x. p (fate_of x)) came)

-- The counts over what came, each of which has a fate, and of which so many were used.
abbrev pub counts_over : {A : Type 0} → (A → Fate) → List A → ℕ → Counts
counts_over fate_of came used = record {
  packets = many is_packet fate_of came;
  used = used;
  refused = many is_refused fate_of came;
  foreign = many is_foreign fate_of came;
}

-- ---- what is heard, counted and shown
-- the packets of text that arrive, newest first
abbrev pub arrivals_at : Reception → List Item → List Arrival
arrivals_at r came = arrivals_after r.ssrc r.payload_types [] came

-- the text of a source, with its markers
abbrev pub text_at : Reception → List Item → ℕ → List ℕ
text_at r came source = concat (heard r.wait (arrivals_at r came) source)

abbrev pub display_at : Reception → List Item → ℕ → Display
display_at r came source = shown (text_at r came source)

abbrev pub counts_at : Reception → List Item → Counts
counts_at r came = counts_over (fate_at r) came (length (used r.wait (numbered (arrivals_at r came))))

-- ---- what is printed
-- a source that is kept apart from others
pub record Speaker : Type 0 where
  pub name : List ℕ
  pub ssrc : ℕ

abbrev pub source_at : Reception → List Item → Speaker → Source
source_at r came s = record { name = s.name; display = display_at r came s.ssrc }

-- the view of one source
abbrev pub text_seen : Reception → ℕ → List Item → List ℕ
text_seen r source came = text_view (display_at r came source) (counts_at r came)

-- the view of an aware terminal of this name, which keeps these apart
abbrev pub aware_seen : Reception → List ℕ → List Speaker → List Item → List ℕ
aware_seen r name speakers came = aware_view name (map (source_at r came) speakers) (counts_at r came)

-- the view of another terminal of this name, to which all comes as one source
abbrev pub unaware_seen : Reception → List ℕ → ℕ → List Item → List ℕ
unaware_seen r name source came = unaware_view name (display_at r came source) (counts_at r came)

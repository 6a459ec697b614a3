-- What is heard of a live leg are texts.
use Rattle.std.proofs.Common.{◌≡◌, ℕ, ◌≤◌, Bool, true, false, Option, Some, None, Ok, Err, Result, List, [], ◌∷◌, refl, subst}
use Rattle.std.specs.Prelude.{map, max, if◌then◌else◌}
use Rattle.rtt_base.specs.declared.text_packets.PayloadTypes.{PayloadTypes}
use Rattle.wire_spec.specs.declared.faults.TextFault.{TextFault}
use Rattle.wire_spec.specs.Packets.{AreTextArrivals, Arrival, IsTextPacket, Packet}
use Rattle.wire_spec.specs.Text.{text_within}
use Rattle.wire_spec.specs.Dump.{arrived, sent_item}
use Rattle.stream_spec.specs.Hearing.{marker}
use Rattle.stream_spec.specs.Ready.{Chunk, chunk, chunks}
use Rattle.stream_spec.specs.Still.{still}
use Rattle.stream_spec.proofs.HeardTexts.{marker_utf8}
use Rattle.stream_spec.proofs.Still.{texts_still}
use Rattle.mixer_spec.specs.Laws.{AllTexts, AreTexts}
use Rattle.mixer_spec.proofs.Chunks.{texts_law}
use Rattle.mixer_spec.proofs.Heard.{chunks_law}
use Rattle.mixer_spec.proofs.Recordings.{arrivals_are_texts}
use Rattle.stream_spec.specs.Links.{Came, Datagram, Large, Quiet, Closed, Takes}
use Rattle.live_spec.specs.Told.{Former, Hearing, Told, all_former, all_told, former_after, former_chunks, is_sender, last_chunks, ready_until, sender_chunks, taken_over, takes_over, told_by, told_came, told_packet, with_packet}
use Rattle.live_spec.specs.Live.{live_chunks}
use Rattle.live_spec.proofs.Asked.{own_asked}
use Rattle.mixer_spec.proofs.After.{joined_texts as both_texts}

-- ---- what was told are texts
abbrev FormerTexts : List Former → Type 0
FormerTexts [] = Unit {0}
FormerTexts (f ∷ before) = AreTextArrivals f.past × FormerTexts before

record ToldTexts (d : Told) : Type 0 where
  past : AreTextArrivals d.past
  before : FormerTexts d.before

abbrev IsText : Result Packet TextFault → Type 0
IsText r = (p : Packet) → r ≡ Ok p → IsTextPacket p

-- what is read is a text
read_text : (most : ℕ) (octets : List ℕ) (payload_types : PayloadTypes) → IsText (text_within most octets None payload_types)
read_text most octets payload_types p e = (subst (λ (r : Result Packet TextFault). AreTextArrivals (arrived 0 r [])) (own_asked most octets payload_types p e) (arrivals_are_texts most (sent_item (0, octets) ∷ []) p.ssrc payload_types)).0

former_texts : (sender : Option ℕ) (past : List Arrival) (m : ℕ) (before : List Former) → AreTextArrivals past → FormerTexts before → FormerTexts (former_after sender past m before)
former_texts None past m before a b = b
former_texts (Some s) past m before a b = (a, b)

packet_texts : (h : Hearing) (d : Told) (t : ℕ) (r : Result Packet TextFault) → IsText r → ToldTexts d → ToldTexts (told_packet h d t r)
packet_texts h d t (Err fault) one a = a
packet_texts h d t (Ok p) one a = go (is_sender d.sender p.ssrc) (takes_over h d t p.ssrc)
  where
    go : (b c : Bool) → ToldTexts (if b then with_packet d t p else (if c then taken_over d t p else d))
    go true c = record { past = (one p refl, a.past); before = a.before }
    go false true = record { past = (one p refl, tt); before = former_texts d.sender d.past (max d.moment t) d.before a.past a.before }
    go false false = a

came_texts : (h : Hearing) (d : Told) (t : ℕ) (came : Came) → ToldTexts d → ToldTexts (told_came h d t came)
came_texts h d t (Datagram octets) a = packet_texts h d t (text_within h.most octets None h.payload_types) (read_text h.most octets h.payload_types) a
came_texts h d t Large a = record { past = a.past; before = a.before }
came_texts h d t Quiet a = record { past = a.past; before = a.before }
came_texts h d t Closed a = record { past = a.past; before = a.before }

told_texts : (h : Hearing) (takes : Takes) → ToldTexts (told_by h takes)
told_texts h [] = record { past = tt; before = tt }
told_texts h (a ∷ past) = came_texts h (told_by h past) a.at a.came (told_texts h past)

-- ---- so are the chunks
until_texts : (t : ℕ) (cs : List Chunk) → AreTexts cs → AreTexts (map (ready_until t) cs)
until_texts t [] a = tt
until_texts t (c ∷ cs) a = (a.0, a.1, until_texts t cs a.2)

-- a character goes into a piece of each leg
module _ (h : Hearing) (four : 4 ≤ h.piece) where
  sender_are : (ssrc : ℕ) (past : List Arrival) → AreTextArrivals past → AreTexts (sender_chunks h ssrc past)
  sender_are ssrc past a = texts_law h.piece four (chunks h.wait h.leg (still past) ssrc) (chunks_law h.wait h.leg (still past) ssrc (texts_still past a))

  last_are : (sender : Option ℕ) (past : List Arrival) → AreTextArrivals past → AreTexts (last_chunks h sender past)
  last_are None past a = tt
  last_are (Some ssrc) past a = sender_are ssrc past a

  former_are : (f : Former) → AreTextArrivals f.past → AreTexts (former_chunks h f)
  former_are f a =
      both_texts (map (ready_until f.until) (sender_chunks h f.ssrc f.past)) (chunk h.leg f.until marker ∷ [])
      (until_texts f.until (sender_chunks h f.ssrc f.past) (sender_are f.ssrc f.past a)) (refl, marker_utf8, tt)

  formers_are : (before : List Former) → FormerTexts before → AreTexts (all_former h before)
  formers_are [] a = tt
  formers_are (f ∷ before) a = both_texts (all_former h before) (former_chunks h f) (formers_are before a.1) (former_are f a.0)

  all_are : (d : Told) → ToldTexts d → AreTexts (all_told h d)
  all_are d a = both_texts (all_former h d.before) (last_chunks h d.sender d.past) (formers_are d.before a.before) (last_are d.sender d.past a.past)

pub live_texts : (hears : ℕ → Hearing) (takes : ℕ → Takes) → ((i : ℕ) → 4 ≤ (hears i).piece) → AllTexts (live_chunks hears takes)
live_texts hears takes four i = all_are (hears i) (four i) (told_by (hears i) (takes i)) (told_texts (hears i) (takes i))

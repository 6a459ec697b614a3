-- What is heard of a leg by the takes of its link, and which of its texts are ready by then (profile). Takes stand newest first,
-- as arrivals do; moments are in milliseconds. Keep-alives are no text to a mixer. A terminal that begins anew draws a new SSRC (RFC
-- 3550, section 8): of a leg that is followed one sender takes over from another.
use Rattle.std.specs.Prelude.{ℕ, ◌+◌, ◌==◌, ◌&&◌, ◌||◌, Bool, true, false, not, nat_le, Option, None, Some, List, [], ◌∷◌, ◌++◌, filter, flat_map, map, take, max, min, Result, Ok, Err, if◌then◌else◌}
use Rattle.std.specs.List.{list_any}
use Rattle.rtt_base.specs.declared.text_packets.PayloadTypes.{PayloadTypes}
use Rattle.wire_spec.specs.declared.faults.TextFault.{TextFault}
use Rattle.wire_spec.specs.Packets.{Packet, Arrival}
use Rattle.wire_spec.specs.Text.{text_within}
use Rattle.stream_spec.specs.Hearing.{heard, marker}
use Rattle.stream_spec.specs.Ready.{Chunk, chunk, chunks}
use Rattle.stream_spec.specs.Fronts.{is_ready_by}
use Rattle.stream_spec.specs.Still.{still}
use Rattle.mixer_spec.specs.Pieces.{chunks_cut, pieces}
use Rattle.stream_spec.specs.Links.{Came, Datagram, Large, Quiet, Closed, Takes}

-- Which packets of a leg are heard: those with these payload types, of this SSRC, or, where the leg is followed, of whoever sends.
-- Their primary texts have at most `most` octets. A gap in their numbers is waited for so long, and texts are cut into pieces of
-- at most `piece` octets.
pub record Hearing : Type 0 where
  pub leg : ℕ
  pub ssrc : ℕ
  pub payload_types : PayloadTypes
  pub most : ℕ
  pub wait : ℕ
  pub follow : Bool
  pub piece : ℕ

-- a sender before: its SSRC, its packets, newest first, and the moment at which another took over from it
pub record Former : Type 0 where
  pub ssrc : ℕ
  pub past : List Arrival
  pub until : ℕ

-- The senders before, newest first; the SSRC of the sender, who is heard now, if there is one; its packets, newest first; the
-- greatest moment handed in; and whether the link is closed.
pub record Told : Type 0 where
  pub before : List Former
  pub sender : Option ℕ
  pub past : List Arrival
  pub moment : ℕ
  pub closed : Bool

-- nobody is the sender of a leg that is followed
abbrev pub first_sender : Hearing → Option ℕ
first_sender h = if h.follow then None else Some h.ssrc

abbrev pub untold : Hearing → Told
untold h = record { before = []; sender = first_sender h; past = []; moment = 0; closed = false }

-- time goes on to the moment t
abbrev pub told_moment : Told → ℕ → Told
told_moment d t = record d { moment = max d.moment t }

-- at the greatest moment so far
abbrev pub arrival_at : Told → ℕ → Packet → Arrival
arrival_at d t p = record { time = max d.moment t; packet = p }

-- ---- who is heard
-- so many of the senders before are known
abbrev pub most_known : ℕ
most_known = 64

-- in milliseconds: where the sender was quiet for so long, one of before may come back
abbrev pub quiet_time : ℕ
quiet_time = 1000

abbrev pub is_sender : Option ℕ → ℕ → Bool
is_sender None ssrc = false
is_sender (Some s) ssrc = ssrc == s

-- the SSRCs of the last senders before, newest first
abbrev pub known_senders : List Former → List ℕ
known_senders before = take most_known (map (λ f. f.ssrc) before)

abbrev pub was_sender : List Former → ℕ → Bool
was_sender before ssrc = list_any (λ s. s == ssrc) (known_senders before)

-- the moment of the last packet
abbrev pub last_moment : List Arrival → ℕ
last_moment [] = 0
last_moment (a ∷ past) = a.time

-- nothing came of the sender for so long at the moment t
abbrev pub is_silent : Told → ℕ → Bool
is_silent d t = nat_le (last_moment d.past + quiet_time) (max d.moment t)

-- who was not the sender before takes over at once, and who was, where the sender is silent
abbrev pub takes_over : Hearing → Told → ℕ → ℕ → Bool
takes_over h d t ssrc = h.follow && (not (was_sender d.before ssrc) || is_silent d t)

-- the sender is one of before
abbrev pub former_after : Option ℕ → List Arrival → ℕ → List Former → List Former
former_after None past t before = before
former_after (Some s) past t before = record { ssrc = s; past = past; until = t } ∷ before

-- ---- what was told
-- a packet of the sender comes
abbrev pub with_packet : Told → ℕ → Packet → Told
with_packet d t p = record { before = d.before; sender = d.sender; past = arrival_at d t p ∷ d.past; moment = max d.moment t; closed = d.closed }

-- who sent this packet is the sender from now on, and this is its first
abbrev pub taken_over : Told → ℕ → Packet → Told
taken_over d t p = record {
  before = former_after d.sender d.past (max d.moment t) d.before;
  sender = Some p.ssrc;
  past = arrival_at d t p ∷ [];
  moment = max d.moment t;
  closed = d.closed;
}

-- a packet of text comes, at the greatest moment so far; one that is passed over hands in no moment, nor does what is none
abbrev pub told_packet : Hearing → Told → ℕ → Result Packet TextFault → Told
told_packet h d t (Ok p) =
    if is_sender d.sender p.ssrc then with_packet d t p
    else (if takes_over h d t p.ssrc then taken_over d t p else d)
told_packet h d t (Err fault) = d

abbrev pub told_came : Hearing → Told → ℕ → Came → Told
told_came h d t (Datagram octets) = told_packet h d t (text_within h.most octets None h.payload_types)
told_came h d t Large = told_moment d t
told_came h d t Quiet = told_moment d t
told_came h d t Closed = record d { closed = true }

-- by these takes
abbrev pub told_by : Hearing → Takes → Told
told_by h [] = untold h
told_by h (a ∷ past) = told_came h (told_by h past) a.at a.came

-- ---- what is heard
-- all texts of these packets of one sender, but for keep-alives, in pieces
abbrev pub sender_chunks : Hearing → ℕ → List Arrival → List Chunk
sender_chunks h ssrc past = chunks_cut (pieces h.piece) (chunks h.wait h.leg (still past) ssrc)

-- of the sender, if there is one
abbrev pub last_chunks : Hearing → Option ℕ → List Arrival → List Chunk
last_chunks h None past = []
last_chunks h (Some ssrc) past = sender_chunks h ssrc past

-- nothing is waited for beyond the moment t
abbrev pub ready_until : ℕ → Chunk → Chunk
ready_until t c = record { source = c.source; ready = min c.ready t; text = c.text }

-- all that was heard of a sender before, and a marker: what was lost with it nobody knows
abbrev pub former_chunks : Hearing → Former → List Chunk
former_chunks h f = map (ready_until f.until) (sender_chunks h f.ssrc f.past) ++ chunk h.leg f.until marker ∷ []

-- of all of them, one behind the other
abbrev pub all_former : Hearing → List Former → List Chunk
all_former h [] = []
all_former h (f ∷ before) = all_former h before ++ former_chunks h f

-- all texts of what came, but for keep-alives
abbrev pub all_told : Hearing → Told → List Chunk
all_told h d = all_former h d.before ++ last_chunks h d.sender d.past

-- those that are ready by the greatest moment, or all, where the link is closed
abbrev pub ready_told : Hearing → Told → List Chunk
ready_told h d = if d.closed then all_told h d else filter (is_ready_by d.moment) (all_told h d)

abbrev pub all_by : Hearing → Takes → List Chunk
all_by h takes = all_told h (told_by h takes)

abbrev pub ready_by : Hearing → Takes → List Chunk
ready_by h takes = ready_told h (told_by h takes)

-- ---- the same without moments
abbrev pub sender_texts : Hearing → ℕ → List Arrival → List (List ℕ)
sender_texts h ssrc past = flat_map (pieces h.piece) (heard h.wait (still past) ssrc)

abbrev pub last_texts : Hearing → Option ℕ → List Arrival → List (List ℕ)
last_texts h None past = []
last_texts h (Some ssrc) past = sender_texts h ssrc past

abbrev pub former_texts : Hearing → List Former → List (List ℕ)
former_texts h [] = []
former_texts h (f ∷ before) = former_texts h before ++ (sender_texts h f.ssrc f.past ++ marker ∷ [])

abbrev pub heard_told : Hearing → Told → List (List ℕ)
heard_told h d = former_texts h d.before ++ last_texts h d.sender d.past

-- What the laws say of what is heard of a leg by the takes of its link.
use Rattle.std.specs.Prelude.{◌≡◌, ℕ, Bool, true, false, Option, None, Some, List, [], ◌∷◌, ◌++◌, length, filter, flat_map, max, Result, Ok, Err, if◌then◌else◌}
use Rattle.wire_spec.specs.declared.faults.TextFault.{TextFault}
use Rattle.wire_spec.specs.Packets.{Packet, Arrival}
use Rattle.wire_spec.specs.Text.{text_within}
use Rattle.stream_spec.specs.Lists.{In}
use Rattle.stream_spec.specs.Hearing.{marker}
use Rattle.stream_spec.specs.History.{History, Lawful, Come, places}
use Rattle.stream_spec.specs.Kept.{kept, texts}
use Rattle.stream_spec.specs.Fronts.{IsFront, is_ready_by}
use Rattle.stream_spec.specs.Still.{still, still_history}
use Rattle.mixer_spec.specs.Chunks.{texts_of}
use Rattle.mixer_spec.specs.Pieces.{pieces}
use Rattle.stream_spec.specs.Links.{Came, Datagram, Large, Quiet, Closed, Taken, Takes, is_closed}
use Rattle.live_spec.specs.Told.{Former, Hearing, Told, all_by, all_former, heard_told, ready_by, sender_chunks, sender_texts, told_by}

-- ---- a leg that is not followed
-- the packets that came of its SSRC, newest first; the greatest moment handed in; and whether the link is closed
pub record Plain : Type 0 where
  pub past : List Arrival
  pub moment : ℕ
  pub closed : Bool

abbrev pub plain_packet : Plain → ℕ → Result Packet TextFault → Plain
plain_packet d t (Ok p) = record { past = record { time = max d.moment t; packet = p } ∷ d.past; moment = max d.moment t; closed = d.closed }
plain_packet d t (Err fault) = d

abbrev pub plain_came : Hearing → Plain → ℕ → Came → Plain
plain_came h d t (Datagram octets) = plain_packet d t (text_within h.most octets (Some h.ssrc) h.payload_types)
plain_came h d t Large = record d { moment = max d.moment t }
plain_came h d t Quiet = record d { moment = max d.moment t }
plain_came h d t Closed = record d { closed = true }

abbrev pub plain_by : Hearing → Takes → Plain
plain_by h [] = record { past = []; moment = 0; closed = false }
plain_by h (a ∷ past) = plain_came h (plain_by h past) a.at a.came

-- nobody takes over: it is told what came of its SSRC
abbrev pub as_plain : Hearing → Plain → Told
as_plain h p = record { before = []; sender = Some h.ssrc; past = p.past; moment = p.moment; closed = p.closed }

-- it is heard by the packets of its SSRC, as one stream, in pieces
pub record IsPlain (h : Hearing) (takes : Takes) : Type 0 where
  pub told : told_by h takes ≡ as_plain h (plain_by h takes)
  pub all : all_by h takes ≡ sender_chunks h h.ssrc (plain_by h takes).past
  pub ready : ready_by h takes
      ≡ (let d = plain_by h takes in
      let cs = sender_chunks h h.ssrc d.past in
      if d.closed then cs else filter (is_ready_by d.moment) cs)
  pub texts : heard_told h (told_by h takes) ≡ sender_texts h h.ssrc (plain_by h takes).past

-- A leg that is not followed is heard so.
abbrev pub Unfollowed : Type 0
Unfollowed = (h : Hearing) (takes : Takes) → h.follow ≡ false → IsPlain h takes

-- ---- any leg
-- The texts of all chunks are what is heard.
abbrev pub TextsAreHeard : Type 0
TextsAreHeard = (h : Hearing) (takes : Takes) → texts_of (all_by h takes) ≡ heard_told h (told_by h takes)

-- What is ready are the first of all.
abbrev pub ReadyIsFront : Type 0
ReadyIsFront = (h : Hearing) (takes : Takes) → IsFront (ready_by h takes) (all_by h takes)

-- What is ready stays, in its place, whatever the link gives, up to the take that closes it.
abbrev pub ReadyStays : Type 0
ReadyStays =
    (h : Hearing) (last : Taken) (later earlier : Takes)
    → is_closed (later ++ earlier) ≡ false
    → IsFront (ready_by h earlier) (ready_by h (last ∷ (later ++ earlier)))

-- ---- senders
-- each of these packets is of this SSRC
abbrev pub AreOf : ℕ → List Arrival → Type 0
AreOf ssrc past = (a : Arrival) → In a past → a.packet.ssrc ≡ ssrc

abbrev pub AreOwn : List Former → Type 0
AreOwn [] = Unit {0}
AreOwn (f ∷ before) = AreOf f.ssrc f.past × AreOwn before

-- Each sender is heard by its own packets alone.
pub record AreSenders (d : Told) : Type 0 where
  pub own : (ssrc : ℕ) → d.sender ≡ Some ssrc → AreOf ssrc d.past
  pub former : AreOwn d.before

abbrev pub SendersTakeOver : Type 0
SendersTakeOver = (h : Hearing) (takes : Takes) → AreSenders (told_by h takes)

-- What was heard of the senders before stays, whatever the link gives.
abbrev pub FormersStay : Type 0
FormersStay =
    (h : Hearing) (later earlier : Takes)
    → IsFront (all_former h (told_by h earlier).before) (all_by h (later ++ earlier))

-- ---- the first hop, sender by sender
-- Where each time that one was the sender has a history, by its number from 0: what is kept of one, in pieces.
abbrev pub kept_of : Hearing → History → ℕ → List Arrival → List (List ℕ)
kept_of h history ssrc past =
    flat_map (pieces h.piece) (texts (kept (still_history history) (places h.wait (still_history history) (still past)) ssrc))

abbrev pub kept_last : Hearing → History → Option ℕ → List Arrival → List (List ℕ)
kept_last h history None past = []
kept_last h history (Some ssrc) past = kept_of h history ssrc past

-- of each, in order, a marker between
abbrev pub kept_former : Hearing → (ℕ → History) → List Former → List (List ℕ)
kept_former h of [] = []
kept_former h of (f ∷ before) = kept_former h of before ++ (kept_of h (of (length before)) f.ssrc f.past ++ marker ∷ [])

abbrev pub kept_by : Hearing → (ℕ → History) → Told → List (List ℕ)
kept_by h of d = kept_former h of d.before ++ kept_last h (of (length d.before)) d.sender d.past

-- these packets come of a lawful history
abbrev pub ComesOf : History → List Arrival → Type 0
ComesOf history past = Lawful history × Come history past

abbrev pub AllCome : (ℕ → History) → List Former → Type 0
AllCome of [] = Unit {0}
AllCome of (f ∷ before) = ComesOf (of (length before)) f.past × AllCome of before

-- Where the packets of each come of a lawful history, what is heard of the leg is what is kept of each.
abbrev pub FirstHopInParts : Type 0
FirstHopInParts =
    (h : Hearing) (takes : Takes) (of : ℕ → History)
    → AllCome of (told_by h takes).before
    → ((ssrc : ℕ) → (told_by h takes).sender ≡ Some ssrc → ComesOf (of (length (told_by h takes).before)) (told_by h takes).past)
    → heard_told h (told_by h takes) ≡ kept_by h of (told_by h takes)

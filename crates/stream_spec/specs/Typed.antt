-- What a sender of typed text sends, and when (RFC 4103, sections 4 and 5; the moments, the limit of a text and the
-- media time behind a long pause are a profile). Lists are newest first.
use Rattle.std.specs.List.{flat_map}
use Rattle.std.specs.Prelude.{ℕ, zero, suc, ◌+◌, ◌^◌, ◌<◌, ◌≤◌, Bool, true, Option, None, Some, List, [], ◌∷◌, ◌++◌, length, map, take, drop, min, slice_index, ◌&&◌, ◌||◌, nat_lt, nat_le, if◌then◌else◌, IsUtf8}
use Rattle.wire_spec.specs.Packets.{Packet, has_text}
use Rattle.stream_spec.specs.History.{History}
use Rattle.stream_spec.specs.Own.{Sent, Stream, has_text_in, packet_after, sent_history}
use Rattle.rtt_base.specs.declared.limits.TheConstants.{LONGEST_STEP, LONGEST_STEP_OF_TWO, MOST_TEXT_OCTETS}

-- a text is typed, or the sender is asked at a moment in milliseconds
pub data Event : Type 0 where
  Text : List ℕ → Event
  Ask : ℕ → Event

-- an entry, and the moment of the ask at which it stands
pub record Turned : Type 0 where
  pub at : ℕ
  pub sent : Sent

-- what was sent
abbrev pub sents : List Turned → List Sent
sents es = map (λ e. e.sent) es

-- the texts that were sent, one behind the other
abbrev pub carried : List Turned → List ℕ
carried [] = []
carried (e ∷ es) = carried es ++ e.sent.text

-- the texts that were typed, one behind the other
abbrev pub typed : List Event → List ℕ
typed [] = []
typed (Text text ∷ past) = typed past ++ text
typed (Ask t ∷ past) = typed past

-- a character ends before place n: the octet there, if there is one, does not continue a character
abbrev pub is_end : List ℕ → ℕ → Bool
is_end octets n = nat_lt (slice_index octets n) 128 || nat_le 192 (slice_index octets n)

-- the greatest of the places up to n at which a character ends
abbrev pub last_end : List ℕ → ℕ → ℕ
last_end octets zero = zero
last_end octets (suc n) = if is_end octets (suc n) then suc n else last_end octets n

-- the longest front of whole characters that has at most n octets
abbrev pub whole_front : ℕ → List ℕ → List ℕ
whole_front n octets = take (last_end octets (min n (length octets))) octets

-- no entry is there, or the last one stands so long before t
abbrev pub has_passed : ℕ → List Turned → ℕ → Bool
has_passed interval [] t = true
has_passed interval (e ∷ es) t = nat_le (e.at + interval) t

-- How far the media time goes on at most where text is still to be repeated, with so many generations: so that the
-- offset of the oldest block fits in 14 bits.
abbrev pub longest_step : ℕ → ℕ
longest_step g = if nat_le g 2 then LONGEST_STEP_OF_TWO else LONGEST_STEP

-- the media time at t: where text is still to be repeated, at most the longest step after the last one
abbrev pub media_at : ℕ → List Turned → ℕ → ℕ
media_at g [] t = t
media_at g (e ∷ es) t = if has_text_in g (sents (e ∷ es)) then min t (e.sent.media + longest_step g) else t

-- an entry stands at t: text waits or is still to be repeated, and the interval has passed
abbrev pub is_due : Stream → ℕ → List Turned → List ℕ → ℕ → Bool
is_due c interval es waits t = (has_text waits || has_text_in c.generations (sents es)) && has_passed interval es t

-- the entry at t, after these, where this text waits
abbrev pub entry_at : Stream → List Turned → List ℕ → ℕ → Turned
entry_at c es waits t = record { at = t; sent = record { source = c.ssrc; media = media_at c.generations es t; text = whole_front MOST_TEXT_OCTETS waits } }

-- what waits of all that was typed
abbrev pub left : List Turned → List ℕ → List ℕ
left es octets = drop (length (carried es)) octets

-- the entries of a script
abbrev pub entries : Stream → ℕ → List Event → List Turned
entries c interval [] = []
entries c interval (Text text ∷ past) = entries c interval past
entries c interval (Ask t ∷ past) =
    let es = entries c interval past in
    let waits = left es (typed past) in
    if is_due c interval es waits t then entry_at c es waits t ∷ es else es

-- what waits
abbrev pub waiting : Stream → ℕ → List Event → List ℕ
waiting c interval past = left (entries c interval past) (typed past)

-- an entry stands at an ask at t
abbrev pub due_at : Stream → ℕ → List Event → ℕ → Bool
due_at c interval past t = is_due c interval (entries c interval past) (waiting c interval past) t

-- the packet of an ask at t, if an entry stands there
abbrev pub packet_at : Stream → ℕ → List Event → ℕ → Option Packet
packet_at c interval past t =
    let es = entries c interval past in
    if due_at c interval past t then Some (packet_after c (sents es) (entry_at c es (waiting c interval past) t).sent) else None

-- text waits, or is still to be repeated
abbrev pub has_more : Stream → ℕ → List Event → Bool
has_more c interval past = has_text (waiting c interval past) || has_text_in c.generations (sents (entries c interval past))

-- the first moment at which another entry may stand, where one is there
abbrev pub next_at : ℕ → List Turned → Option ℕ
next_at interval [] = None
next_at interval (e ∷ es) = Some (e.at + interval)

-- the moment from which the next entry is due, where one is there and text waits or is still to be repeated
abbrev pub next_due : Stream → ℕ → List Event → Option ℕ
next_due c interval past = if has_more c interval past then next_at interval (entries c interval past) else None

-- the history of what was sent
abbrev pub history_typed : Stream → ℕ → List Event → History
history_typed c interval past = sent_history c (sents (entries c interval past))

-- the texts of the entries, one behind the other
abbrev pub primaries : History → List ℕ
primaries h = flat_map (λ e. e.text) h.entries

-- the moment of the last ask
abbrev pub last_ask : List Event → ℕ
last_ask [] = 0
last_ask (Text text ∷ past) = last_ask past
last_ask (Ask t ∷ past) = t

-- texts are UTF-8, and the moments of the asks never fall
abbrev pub IsScript : List Event → Type 0
IsScript [] = Unit {0}
IsScript (Text text ∷ past) = IsUtf8 text × IsScript past
IsScript (Ask t ∷ past) = (last_ask past ≤ t) × (t < 2 ^ 31) × IsScript past

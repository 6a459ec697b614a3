-- When the peer of a link has left, by what came of it. RTP and RTCP come at one port, and are told apart by the second octet (RFC 5761,
-- section 4); who leaves says so by a BYE of the SSRC that it sends with (RFC 3550, section 6.6). Who goes without a word has left where
-- no datagram came for so long as is said (profile). Moments are in milliseconds.
use Rattle.std.specs.Prelude.{ℕ, ◌-◌, ◌==◌, ◌&&◌, ◌||◌, nat_le, Bool, true, false, Option, None, Some, List, [], ◌∷◌, Result, Ok, Err, if◌then◌else◌}
use Rattle.std.specs.List.{list_any}
use Rattle.wire_spec.specs.Dump.{Whole}
use Rattle.wire_spec.specs.declared.events.Event.{Event}
use Rattle.wire_spec.specs.declared.events.Event.TheVariants as event
use Rattle.wire_spec.specs.declared.rtcp_faults.RtcpRefusal.{RtcpRefusal}
use Rattle.wire_spec.specs.Rtcp.{rtcp}
use Rattle.command_spec.specs.Streams.{Sort, Headed, NoRtp, Rtcp, Cut, Large, is_rtcp, sort_of_what}
use Rattle.stream_spec.specs.Links.{Came, Datagram, Quiet, Closed, Taken, Takes}
use Rattle.stream_spec.specs.Links as links
use Rattle.call_links.specs.declared.peers.Peer.{Peer}

-- ---- one datagram

-- the SSRC of the last RTP packet, behind one that had `last`
abbrev pub ssrc_of : Option ℕ → Sort → Option ℕ
ssrc_of last (Headed header) = Some header.ssrc
ssrc_of last NoRtp = last
ssrc_of last Rtcp = last
ssrc_of last Cut = last
ssrc_of last Large = last

abbrev pub ssrc_after : Option ℕ → List ℕ → Option ℕ
ssrc_after last octets = ssrc_of last (sort_of_what (Whole octets))

-- a source is the peer: it has this SSRC, or none is known
abbrev pub is_peer : Option ℕ → ℕ → Bool
is_peer None ssrc = true
is_peer (Some own) ssrc = ssrc == own

abbrev pub is_leaving : Option ℕ → Event → Bool
is_leaving last (event.Name ssrc name) = false
is_leaving last (event.Bye ssrc) = is_peer last ssrc

-- one of the events that were read is the leaving of the peer
abbrev pub has_leaving : Option ℕ → Result (List Event) RtcpRefusal → Bool
has_leaving last (Ok events) = list_any (is_leaving last) events
has_leaving last (Err fault) = false

-- the datagram is RTCP, and says that the peer leaves, whose last RTP packet had this SSRC
abbrev pub says_bye : Option ℕ → List ℕ → Bool
says_bye last octets = is_rtcp octets && has_leaving last (rtcp octets)

-- ---- one take

-- a datagram came with it
abbrev pub has_datagram : Came → Bool
has_datagram (Datagram octets) = true
has_datagram links.Large = true
has_datagram Quiet = false
has_datagram Closed = false

abbrev pub last_after : Option ℕ → Came → Option ℕ
last_after last (Datagram octets) = ssrc_after last octets
last_after last links.Large = last
last_after last Quiet = last
last_after last Closed = last

-- it says that the peer leaves, whose last RTP packet had this SSRC
abbrev pub is_farewell : Option ℕ → Came → Bool
is_farewell last (Datagram octets) = says_bye last octets
is_farewell last links.Large = false
is_farewell last Quiet = false
is_farewell last Closed = false

-- ---- the silence of a peer

-- since when the peer is silent, once this was taken, where it was so since that moment: since the last take with which a datagram came,
-- or where none did since the first take
abbrev pub silent_since : Option ℕ → Taken → ℕ
silent_since None t = t.at
silent_since (Some moment) t = if has_datagram t.came then t.at else moment

-- who is silent so long has gone, where it is said how long a peer may be silent
abbrev pub has_gone : Option ℕ → ℕ → Bool
has_gone None silence = false
has_gone (Some longest) silence = nat_le longest silence

-- ---- what came so far

-- what is known of a peer of which nothing came
abbrev pub silent : Peer
silent = record { last = None; since = None; left = false }

-- behind this take, where a peer may be silent so long
abbrev pub after_taken : Option ℕ → Peer → Taken → Peer
after_taken longest p t = record {
  last = last_after p.last t.came;
  since = Some (silent_since p.since t);
  left = p.left || is_farewell p.last t.came || has_gone longest (t.at - silent_since p.since t);
}

-- by these takes, newest first
abbrev pub peer_by : Option ℕ → Takes → Peer
peer_by longest [] = silent
peer_by longest (t ∷ past) = after_taken longest (peer_by longest past) t

-- ---- what is told

-- that the link is closed, where the peer has left; else what came
abbrev pub came_told : Peer → Came → Came
came_told p came = if p.left then Closed else came

-- what is told of these takes, newest first: from the one on by which the peer has left, that the link is closed, at the same moments
abbrev pub takes_told : Option ℕ → Takes → Takes
takes_told longest [] = []
takes_told longest (t ∷ past) = record { at = t.at; came = came_told (peer_by longest (t ∷ past)) t.came } ∷ takes_told longest past

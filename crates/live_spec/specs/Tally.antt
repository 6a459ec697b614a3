-- What is counted of a leg by the takes of its link (profile): the datagrams that came, and what became of each. Takes stand newest
-- first.
use Rattle.std.specs.Prelude.{ℕ, suc, ◌-◌, ◌^◌, max, min, [], ◌∷◌, None, Result, Ok, Err, if◌then◌else◌}
use Rattle.wire_spec.specs.declared.faults.TextFault.{TextFault}
use Rattle.wire_spec.specs.Packets.{Packet}
use Rattle.wire_spec.specs.Text.{text_within}
use Rattle.view_spec.specs.declared.tallies.Tally.{Tally}
use Rattle.stream_spec.specs.Links.{Came, Datagram, Large, Quiet, Closed, Takes}
use Rattle.live_spec.specs.Told.{Hearing, Told, is_sender, takes_over, told_by}

-- a count as it is kept and printed: one that has come to 2^64 - 1 stays there
abbrev pub as_kept : ℕ → ℕ
as_kept n = min n (2 ^ 64 - 1)

-- so is each count of a leg
abbrev pub kept : Tally → Tally
kept y = record { came = as_kept y.came; text = as_kept y.text; refused = as_kept y.refused; foreign = as_kept y.foreign; senders = as_kept y.senders }

abbrev pub untallied : Tally
untallied = record { came = 0; text = 0; refused = 0; foreign = 0; senders = 0 }

-- a packet of the sender: there is one at least
abbrev pub with_text : Tally → Tally
with_text y = record { came = suc y.came; text = suc y.text; refused = y.refused; foreign = y.foreign; senders = max y.senders 1 }

-- one of who takes over, or is the first: a sender more
abbrev pub with_sender : Tally → Tally
with_sender y = record { came = suc y.came; text = suc y.text; refused = y.refused; foreign = y.foreign; senders = suc y.senders }

-- what is no packet of text, or too large
abbrev pub with_refused : Tally → Tally
with_refused y = record { came = suc y.came; text = y.text; refused = suc y.refused; foreign = y.foreign; senders = y.senders }

-- a packet of text that is passed over
abbrev pub with_foreign : Tally → Tally
with_foreign y = record { came = suc y.came; text = y.text; refused = y.refused; foreign = suc y.foreign; senders = y.senders }

-- a datagram comes that is read so, at the moment t, where that was told before
abbrev pub tally_packet : Hearing → Told → ℕ → Result Packet TextFault → Tally → Tally
tally_packet h d t (Ok p) y = if is_sender d.sender p.ssrc then with_text y else (if takes_over h d t p.ssrc then with_sender y else with_foreign y)
tally_packet h d t (Err fault) y = with_refused y

abbrev pub tally_came : Hearing → Told → ℕ → Came → Tally → Tally
tally_came h d t (Datagram octets) y = tally_packet h d t (text_within h.most octets None h.payload_types) y
tally_came h d t Large y = with_refused y
tally_came h d t Quiet y = y
tally_came h d t Closed y = y

-- by these takes
abbrev pub tally_by : Hearing → Takes → Tally
tally_by h [] = untallied
tally_by h (a ∷ past) = tally_came h (told_by h past) a.at a.came (tally_by h past)

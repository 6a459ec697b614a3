-- What `read` prints of a recording (profile).
use Rattle.std.specs.Prelude.{ℕ, List}
use Rattle.std.specs.List.{concat}
use Rattle.wire_spec.specs.Packets.{Arrival}
use Rattle.wire_spec.specs.Dump.{Item, dump, usual_limit}
use Rattle.stream_spec.specs.History.{History, places}
use Rattle.stream_spec.specs.Kept.{kept, texts}
use Rattle.view_spec.specs.Shown.{shown}
use Rattle.view_spec.specs.Views.{text_view}
use Rattle.command_spec.specs.declared.requests.ReadRequest.{ReadRequest}
use Rattle.view_spec.specs.Seen.{Reception, arrivals_at, counts_at, text_seen}
use Rattle.rtt_base.specs.declared.limits.TheConstants.{USUAL_WAIT}

-- how long a gap in the numbers is waited for, in milliseconds
abbrev pub usual_wait : ℕ
usual_wait = USUAL_WAIT

-- who reads is a terminal that hears the stream
abbrev pub reception : ReadRequest → Reception
reception r = record { ssrc = r.ssrc; payload_types = r.payload_types; wait = usual_wait }

abbrev pub records_of : List ℕ → List Item
records_of octets = (dump usual_limit octets).items

-- the arrivals of the stream, newest first
abbrev pub arrivals_of : ReadRequest → List ℕ → List Arrival
arrivals_of r octets = arrivals_at (reception r) (records_of octets)

-- what is seen of the source
unfoldable pub read_view : ReadRequest → List ℕ → List ℕ
read_view r octets = text_seen (reception r) r.source (records_of octets)

-- What is printed of arrivals that come from a history: the source's blocks of the packets that came in time, in their
-- order, each once, and the markers.
unfoldable pub history_view : History → ReadRequest → List ℕ → List ℕ
history_view h r octets = text_view (shown (concat (texts (kept h (places usual_wait h (arrivals_of r octets)) r.source)))) (counts_at (reception r) (records_of octets))

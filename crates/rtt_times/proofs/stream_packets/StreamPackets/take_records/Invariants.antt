use Rattle.std.proofs.Common.{◌≡◌, ℕ, List, [], length}
use Rattle.std.specs.Prelude.{Bool}
use Rattle.reorder_buffer.specs.States.{arrival_count, has_ready, is_finished}
use Rattle.rtpdump_io.specs.InMemory.{AreRecords}
use Rattle.rtpdump_io.proofs.Fronts.{Left, Front}
use Rattle.rtt_times.specs.Heard.{IsSmall, Listening}
use Rattle.rtt_times.proofs.stream_packets.StreamPackets.take_records.Given as goal

abbrev pub invariant-loop-at : goal.invariant-loop-at
invariant-loop-at l = record {
  left : Left l.rest (arrival_count l.buffer);
  quiet : has_ready l.buffer ≡ Bool.false;
  open_still : is_finished l.buffer ≡ Bool.false;
  small : IsSmall (arrival_count l.buffer) l.self;
  hears : Listening l.fn.ssrc l.fn.payload_types l.fn.buffer l.fn.self [] → (all : List (ℕ × List ℕ)) → AreRecords l.fn.records all → Front (Listening l.fn.ssrc l.fn.payload_types l.buffer l.self) l.rest all;
}

abbrev pub decreases-loop-at : goal.decreases-loop-at
decreases-loop-at l = length l.rest
